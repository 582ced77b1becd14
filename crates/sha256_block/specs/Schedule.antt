-- The message schedule in sixteen words that are used again. FIPS 180-4, 6.2.2, step 1, has 64 words W t. The compression holds
-- sixteen: a group of sixteen rounds adds them, then each gives its place to the word of sixteen rounds later.
use Rattle.std.specs.Prelude.{◌≡◌, ℕ, zero, suc, ◌+◌, ◌-◌, ◌*◌, ◌/◌, ◌%◌, ◌<◌, ◌≤◌, List, slice_set}
use Rattle.sha256_block.specs.declared.block.Working.{Working}
use Rattle.sha256_block.specs.Words.{◌⊞◌, σ₀, σ₁}
use Rattle.sha256_block.specs.Constants.{K}
use Rattle.sha256_block.specs.Block.{◌!◌, words_of, schedule, variables, round_of, sum_of}

-- the word W t of a block with the words m
abbrev pub W : List ℕ → ℕ → ℕ
W m t = schedule 48 m ! t

-- the word of round t + 16, where that of round i stands in w at the place i modulo 16
abbrev pub following : ℕ → List ℕ → ℕ
following t w = σ₁ (w ! ((t + 14) % 16)) ⊞ w ! ((t + 9) % 16) ⊞ σ₀ (w ! ((t + 1) % 16)) ⊞ w ! (t % 16)

-- sixteen words, once those of the rounds below t have given their places to the words of sixteen rounds later
unfoldable pub held : ℕ → List ℕ → List ℕ
held zero m = m
held (suc t) m = slice_set (held t m) (t % 16) (following t (held t m))

-- the word that round t adds: the one at its place, of those that are held before its group of sixteen rounds
abbrev pub added : List ℕ → ℕ → ℕ
added m t = held (t / 16 * 16) m ! (t % 16)

-- step 3, where every round adds that word
unfoldable pub rounds_held : ℕ → Working → List ℕ → Working
rounds_held zero s m = s
rounds_held (suc t) s m = round_of (rounds_held t s m) (K ! t) (added m t)

-- steps 1 to 4 in sixteen words
unfoldable pub compress_held : List ℕ → List ℕ → List ℕ
compress_held h block = sum_of (rounds_held 64 (variables h) (words_of 16 block)) h

-- For a block with the words m: W is as step 1 defines it; once the words of the rounds below t have given their places, those of
-- the rounds t to t + 15 are held, as far as there are so many; and round t adds W t.
pub record OwnWords (m : List ℕ) : Type 0 where
  pub first : (t : ℕ) → t < 16 → W m t ≡ m ! t
  pub later : (t : ℕ) → 16 ≤ t → t < 64 → W m t ≡ σ₁ (W m (t - 2)) ⊞ W m (t - 7) ⊞ σ₀ (W m (t - 15)) ⊞ W m (t - 16)
  pub holds : (t j : ℕ) → j < 16 → t + j < 64 → held t m ! ((t + j) % 16) ≡ W m (t + j)
  pub adds : (t : ℕ) → t < 64 → added m t ≡ W m t

-- so it is for every block
abbrev pub EveryRoundAddsItsOwn : Type 0
EveryRoundAddsItsOwn = (block : List ℕ) → OwnWords (words_of 16 block)

-- What the code holds before the group of rounds that begins at t, from the working variables s on: in x the variables that the
-- rounds so far have made, in w sixteen words. The loop of `compress` keeps this.
pub record Before (t : ℕ) (s : Working) (m : List ℕ) (x : Working) (w : List ℕ) : Type 0 where
  pub working : x ≡ rounds_held t s m
  pub words : t ≤ 48 → w ≡ held t m

-- so the sixteen words in w are then W t to W (t + 15)
abbrev pub GroupHoldsItsOwn : Type 0
GroupHoldsItsOwn =
    (t : ℕ) (s : Working) (block : List ℕ) (x : Working) (w : List ℕ) → t % 16 ≡ 0 → t ≤ 48 → Before t s (words_of 16 block) x w
    → (j : ℕ) → j < 16 → w ! j ≡ W (words_of 16 block) (t + j)
