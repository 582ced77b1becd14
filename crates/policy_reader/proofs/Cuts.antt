-- A list of values up to a number and from there on, and the bytes that these make.
use Prim.Native.Nat.{ℕ, zero, suc, ◌+◌, ◌≤◌}
use native.Mathlib.Omega.{arith}
use mathlib.Core.Path.{◌≡◌, refl, ◌∙◌}
use mathlib.Core.Logic.{◌⊎◌, inl, inr, ⊎_elim}
use mathlib.Core.List.{List, [], ◌∷◌, ◌++◌, flat_map, append_assoc}
use mathlib.Core.Option.{some, none}
use lib.ListN.{length, take, drop, get_elem?, length-append}
use lib.Seq.{drop-drop, drop-append_seam}
use Rattle.policy_grammar.specs.Grammar.{All}

pub all_drop : {A : Type 0} (P : A → Type 0) (xs : List A) (k : ℕ) → All P xs → All P (drop k xs)
all_drop P xs zero h = h
all_drop P [] (suc k) h = h
all_drop P (a ∷ xs) (suc k) h = all_drop P xs k h.1

pub record Cut {A : Type 0} (f : A → List ℕ) (xs : List A) (k : ℕ) : Type 0 where
  pub first : A
  pub others : List A
  pub from : drop k xs ≡ first ∷ others
  pub after : drop (k + 1) xs ≡ others
  pub is : get_elem? xs k ≡ some first
  pub passed : length (flat_map f (take (k + 1) xs)) ≡ length (flat_map f (take k xs)) + length (f first)

pub cut : {A : Type 0} (f : A → List ℕ) (xs : List A) (k : ℕ) → ((drop k xs ≡ []) × ((j : ℕ) → k ≤ j → get_elem? xs j ≡ none)) ⊎ Cut f xs k
unfolding flat_map
cut f [] zero = inl (refl, λ j h. refl)
cut f [] (suc k) = inl (refl, λ j h. refl)
cut f (a ∷ xs) zero = inr (record { first = a; others = xs; from = refl; after = refl; is = refl; passed = length-append (f a) [] ∙ omega arith })
cut {A = A} f (a ∷ xs) (suc k) = ⊎_elim (λ w. inl (w.0, λ j h. past w.1 j h)) (λ w. inr (more w)) (cut f xs k)
  where
    past : ((j : ℕ) → k ≤ j → get_elem? xs j ≡ none) → (j : ℕ) → suc k ≤ j → get_elem? (a ∷ xs) j ≡ none
    past g zero h = absurd (omega arith)
    past g (suc j) h = g j (omega arith)

    more : Cut f xs k → Cut f (a ∷ xs) (suc k)
    more w =
        let i : suc k + 1 ≡ suc (k + 1) = omega arith in
        record {
          first = w.first;
          others = w.others;
          from = w.from;
          after = rw i w.after;
          is = w.is;
          passed = rw (i, length-append, length-append) (omega (arith, w.passed));
        }

-- what the values from the number k on make stands after what those before it make
pub flat_drop : {A : Type 0} (f : A → List ℕ) (xs : List A) (t : List ℕ) (k : ℕ) → drop (length (flat_map f (take k xs))) (flat_map f xs ++ t) ≡ flat_map f (drop k xs) ++ t
unfolding flat_map
flat_drop f xs t zero = refl
flat_drop f [] t (suc k) = refl
flat_drop f (a ∷ xs) t (suc k) =
    rw (length-append, ← drop-drop (length (flat_map f (take k xs))) (length (f a)) ((f a ++ flat_map f xs) ++ t), append_assoc, drop-append_seam) (flat_drop f xs t k)
