-- The hash value after the blocks of 64 bytes of a string: FIPS 180-4, sections 5.2.1 and 6.2.2.
use Rattle.std.specs.Prelude.{ℕ, zero, suc, ◌+◌, ◌-◌, ◌*◌, ◌/◌, List, [], ◌∷◌, ◌++◌, length, take, drop, slice_index}
use Rattle.sha256_block.specs.declared.block.Working.{Working}
use Rattle.sha256_block.specs.Words.{◌⊞◌, Ch, Maj, Σ₀, Σ₁, σ₀, σ₁}
use Rattle.sha256_block.specs.Constants.{K}

-- the word with a number, as the index t of W and K
infixl 90 ◌!◌
abbrev pub ◌!◌ : List ℕ → ℕ → ℕ
w ! t = slice_index w t

-- 3.1: a word of four bytes, the highest first
abbrev pub word_of : List ℕ → ℕ
word_of m = ((m ! 0 * 256 + m ! 1) * 256 + m ! 2) * 256 + m ! 3

-- 5.2.1: the first n words of a block
unfoldable pub words_of : ℕ → List ℕ → List ℕ
words_of zero m = []
words_of (suc n) m = word_of m ∷ words_of n (drop 4 m)

-- step 1: the word W t from the t words before it
unfoldable pub next : List ℕ → ℕ
next w = let t = length w in σ₁ (w ! (t - 2)) ⊞ w ! (t - 7) ⊞ σ₀ (w ! (t - 15)) ⊞ w ! (t - 16)

-- the message schedule: the sixteen words of the block, then n more
unfoldable pub schedule : ℕ → List ℕ → List ℕ
schedule zero m = m
schedule (suc n) m = schedule n m ++ (next (schedule n m) ∷ [])

-- step 2: the eight working variables
abbrev pub variables : List ℕ → Working
variables h =
    record { a = h ! 0; b = h ! 1; c = h ! 2; d = h ! 3; e = h ! 4; f = h ! 5; g = h ! 6; h = h ! 7 }

-- step 3: what is done for one t
abbrev pub T₁ : Working → ℕ → ℕ → ℕ
T₁ s k w = s.h ⊞ Σ₁ s.e ⊞ Ch s.e s.f s.g ⊞ k ⊞ w

abbrev pub T₂ : Working → ℕ
T₂ s = Σ₀ s.a ⊞ Maj s.a s.b s.c

unfoldable pub round_of : Working → ℕ → ℕ → Working
round_of s k w =
    record {
      h = s.g;
      g = s.f;
      f = s.e;
      e = s.d ⊞ T₁ s k w;
      d = s.c;
      c = s.b;
      b = s.a;
      a = T₁ s k w ⊞ T₂ s;
    }

-- the rounds for every t below n, with the constants k and the words w
unfoldable pub rounds : ℕ → Working → List ℕ → List ℕ → Working
rounds zero s k w = s
rounds (suc t) s k w = round_of (rounds t s k w) (k ! t) (w ! t)

-- step 4: the next hash value
abbrev pub sum_of : Working → List ℕ → List ℕ
sum_of s h =
    s.a ⊞ h ! 0 ∷ s.b ⊞ h ! 1 ∷ s.c ⊞ h ! 2 ∷ s.d ⊞ h ! 3 ∷ s.e ⊞ h ! 4 ∷ s.f ⊞ h ! 5 ∷ s.g ⊞ h ! 6 ∷ s.h ⊞ h ! 7 ∷ []

-- steps 1 to 4, for 64 rounds
unfoldable pub compress_of : List ℕ → List ℕ → List ℕ
compress_of h block = sum_of (rounds 64 (variables h) K (schedule 48 (words_of 16 block))) h

-- the hash value after n blocks of a string, from the hash value h on
unfoldable pub hash : ℕ → List ℕ → List ℕ → List ℕ
hash zero h m = h
hash (suc n) h m = hash n (compress_of h (take 64 m)) (drop 64 m)

-- after all its whole blocks
abbrev pub hash_blocks : List ℕ → List ℕ → List ℕ
hash_blocks h m = hash (length m / 64) h m
