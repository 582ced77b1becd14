-- Ranges in turn: numbers that are taken two by two give the ranges that they make, and a test of each is a test of every range.
use Prim.Native.Nat.{ℕ, ◌<◌}
use mathlib.Core.Path.{◌≡◌, refl, sym, ap, ◌∙◌}
use mathlib.Core.Bool.{Bool}
use mathlib.Core.List.{List, [], ◌∷◌, ◌++◌}
use native.Mathlib.Omega.{arith}
use lib.ListN.{length, length-append, get_or}
use Rattle.std.specs.Borrow.{Bor}
use Rattle.std.specs.List.{list_all}
use Rattle.std.specs.Iterator.{AlwaysYields}
use Rattle.std.specs.declared.slice.ChunksExact.{ChunksExact}
use Rattle.std.specs.Slice.Iter.{chunks_exact_rest, chunks_exact_size, chunks_exact_steps}
use Rattle.rules.specs.Tests.{every}
use Rattle.range.specs.declared.Range.{Range}
use Rattle.range.specs.Pairs.{ranges_of}

-- the range that two numbers make
abbrev pub range_in : Bor (List ℕ) → Range
range_in pair = record { base = get_or pair.now 0 0; size = get_or pair.now 1 0 }

-- two numbers in front
front : (ys zs : List ℕ) (x y : ℕ) (rest : List ℕ) → x ∷ (y ∷ rest) ≡ ys ++ zs → length ys ≡ 2 → (ys ≡ x ∷ (y ∷ [])) × (zs ≡ rest)
front [] zs x y rest e l = absurd (omega arith)
front (a ∷ []) zs x y rest e l = absurd (omega arith)
front (a ∷ (b ∷ [])) zs x y rest e l = (cc, cc)
front (a ∷ (b ∷ (c ∷ ys))) zs x y rest e l = absurd (omega arith)

too_few : (ys zs xs : List ℕ) → length xs < 2 → xs ≡ ys ++ zs → length ys ≡ 2 → ⊥
too_few ys zs xs h e l = omega (arith, ap length e, length-append ys zs)

pub pairs_yield : (xs : List ℕ) (s : ChunksExact ℕ) → chunks_exact_rest s ≡ xs → chunks_exact_size s ≡ 2
    → AlwaysYields chunks_exact_steps range_in s (ranges_of xs)
unfolding ranges_of
pairs_yield [] s e z = λ p t h. too_few _ _ [] (omega arith) (sym e ∙ h.1.0) (h.1.1 ∙ z)
pairs_yield (x ∷ []) s e z = λ p t h. too_few _ _ (x ∷ []) (omega arith) (sym e ∙ h.1.0) (h.1.1 ∙ z)
pairs_yield (x ∷ (y ∷ rest)) s e z = (
  λ t h. omega (arith, h.1.0, ap length e),
  λ p t h.
      let f = front _ _ x y rest (sym e ∙ h.1.0) (h.1.1 ∙ z) in
      (rw f.0, pairs_yield rest t f.1 (h.0 ∙ z)),
)

pub every_is : {A : Type 0} (test : A → Bool) (xs : List A) → list_all test xs ≡ every test xs
every_is test [] = refl
every_is test (x ∷ xs) = rw (every_is test xs)
