-- The words of a block.
use Rattle.std.proofs.Common.{◌≡◌, ℕ, zero, suc, ◌*◌, ◌<◌, List, length, drop, sym, refl, ap, ◌∙◌, arith, drop-drop, ext_get_or}
use Rattle.sha256_block.specs.Block.{◌!◌, word_of, words_of}

pub length_words : (n : ℕ) (m : List ℕ) → length (words_of n m) ≡ n
unfolding words_of
length_words zero m = refl
length_words (suc n) m = ap suc (length_words n (drop 4 m))

pub get_or_words : (n i : ℕ) (m : List ℕ) → i < n → words_of n m ! i ≡ word_of (drop (4 * i) m)
unfolding words_of
get_or_words zero i m h = absurd (omega arith)
get_or_words (suc n) zero m h = refl
get_or_words (suc n) (suc i) m h = get_or_words n i (drop 4 m) (omega arith) ∙ ap word_of (drop-drop (4 * i) 4 m ∙ ap (λ (j : ℕ). drop j m) (omega arith))

-- a list of them, word by word
pub words_each : (n : ℕ) (m l : List ℕ) → length l ≡ n → ((i : ℕ) → i < n → l ! i ≡ word_of (drop (4 * i) m)) → l ≡ words_of n m
words_each n m l e each =
    ext_get_or 0 l (words_of n m) (e ∙ sym (length_words n m)) (λ i h. each i (omega arith) ∙ sym (get_or_words n i m (omega arith)))
