-- Strings of bytes: which are made of bytes and no larger numbers.
use Prim.Native.Nat.{ℕ, zero, suc, ◌<◌}
use mathlib.Core.Path.{◌≡◌}
use mathlib.Core.Bool.{true, and-eq-true_iff}
use mathlib.Core.List.{List, [], ◌∷◌, ◌++◌, reverse, reverse-cons}
use borrow.Author.Tests.{ltb-true}
use lib.Dec.{ltb, lit<}
use lib.ListN.{replicate}
use lib.Pow.{are_bytes}
use Rattle.field.specs.Number.{Bytes}

pub bytes_cons : (x : ℕ) (l : List ℕ) → x < 256 → Bytes l → Bytes (x ∷ l)
bytes_cons x l h b zero = h
bytes_cons x l h b (suc i) = b i

pub bytes_append : (a b : List ℕ) → Bytes a → Bytes b → Bytes (a ++ b)
bytes_append [] b p q = q
bytes_append (x ∷ a) b p q = bytes_cons x (a ++ b) (p 0) (bytes_append a b (λ i. p (suc i)) q)

pub bytes_replicate : (n x : ℕ) → x < 256 → Bytes (replicate n x)
bytes_replicate zero x h = λ i. lit< tt
bytes_replicate (suc n) x h = bytes_cons x (replicate n x) h (bytes_replicate n x h)

pub bytes_reverse : (l : List ℕ) → Bytes l → Bytes (reverse l)
bytes_reverse [] b = b
bytes_reverse (x ∷ l) b =
    rw (reverse-cons x l) (bytes_append (reverse l) (x ∷ []) (bytes_reverse l (λ i. b (suc i))) (bytes_cons x [] (b 0) (λ i. lit< tt)))

pub bytes_tested : (l : List ℕ) → are_bytes l ≡ true → Bytes l
bytes_tested [] e = λ i. lit< tt
bytes_tested (x ∷ l) e =
    let p = (and-eq-true_iff (ltb x 256) (are_bytes l)).0 e in
    bytes_cons x l (ltb-true x 256 p.0) (bytes_tested l p.1)
