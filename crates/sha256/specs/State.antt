-- A digest that is worked out in parts: what its running state is, whatever values it holds.
use Rattle.std.specs.Prelude.{◌≡◌, ℕ, ◌+◌, ◌*◌, ◌/◌, ◌%◌, ◌^◌, List, ◌++◌, length, take, drop, replicate}
use Rattle.sha256.specs.declared.Running.{Running}
use Rattle.sha256_block.specs.Block.{hash_blocks}
use Rattle.sha256.specs.Message.{H0, padding, digest_of}

-- the bytes that wait for their block to fill up; the bytes of the block behind them mean nothing
abbrev pub pending : Running → List ℕ
pending s = take (s.total % 64) s.block

-- the bytes of a string behind its whole blocks
abbrev pub remainder : List ℕ → List ℕ
remainder m = drop (length m / 64 * 64) m

abbrev pub started : Running
started = record { words = H0; block = replicate 64 0; total = 0 }

-- the state r after a part was absorbed by the state s. The bytes of r's block behind those that wait are left free.
pub record Absorbed (s : Running) (part : List ℕ) (r : Running) : Type 0 where
  pub words : r.words ≡ hash_blocks s.words (pending s ++ part)
  pub waits : pending r ≡ remainder (pending s ++ part)
  pub total : r.total ≡ (s.total + length part) % 2 ^ 64

-- the digest that a state gives
unfoldable pub finish_of : Running → List ℕ
finish_of s = digest_of (hash_blocks s.words (pending s ++ padding s.total))

-- the state stands for a message: it is what the start becomes when it absorbs that message in any parts
pub record Holds (s : Running) (m : List ℕ) : Type 0 where
  pub words : s.words ≡ hash_blocks H0 m
  pub waits : pending s ≡ remainder m
  pub total : s.total ≡ length m % 2 ^ 64
