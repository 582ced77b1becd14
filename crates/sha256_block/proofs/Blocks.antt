-- A string hashed block by block: the hash value after a list of blocks.
use Rattle.std.proofs.Common.{◌≡◌, ℕ, zero, suc, List, [], ◌∷◌, take, drop, refl}
use Rattle.std.specs.Simd.{first_chunks}
use Rattle.sha256_block.specs.Block.{compress_of, hash}

abbrev pub over : List ℕ → List (List ℕ) → List ℕ
over h [] = h
over h (block ∷ blocks) = over (compress_of h block) blocks

pub over_chunks : (n : ℕ) (h s : List ℕ) → over h (first_chunks 64 n s) ≡ hash n h s
unfolding hash
over_chunks zero h s = refl
over_chunks (suc n) h s = over_chunks n (compress_of h (take 64 s)) (drop 64 s)
