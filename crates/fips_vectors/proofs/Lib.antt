-- What the proofs cite.
mod Text
