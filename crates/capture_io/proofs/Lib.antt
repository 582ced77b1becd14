-- What the proofs cite.
mod Filled
mod Numbered
