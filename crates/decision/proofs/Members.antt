-- The first list that passes a test, by the lists' numbers.
use Prim.Native.Nat.{ℕ, zero, suc, ◌+◌, ◌<◌}
use mathlib.Core.Path.{◌≡◌, refl, ◌∙◌}
use mathlib.Core.Logic.{◌⊎◌, inl, inr, ⊎_elim}
use mathlib.Core.Bool.{Bool, true, false}
use mathlib.Core.List.{List, [], ◌∷◌}
use mathlib.Core.Option.{some, none}
use native.Mathlib.Omega.{arith}
use lib.ListN.{length, get_elem?}
use Rattle.policy_grammar.specs.Grammar.{PolicyList}
use Rattle.answer.specs.Answer.{no_list}
use Rattle.decision.specs.Lists.{some_from, lowest_from}

nothing : (l : PolicyList) → none ≡ some l → ⊥
nothing l e = let z : ◌≡◌ {A = ℕ} 0 1 = cc in omega arith

-- A TEST OF A LIST AND ITS NUMBER, counted from i

-- the first list that passes
pub record First (test : ℕ → PolicyList → Bool) (i : ℕ) (ls : List PolicyList) (j : ℕ) : Type 0 where
  pub value : PolicyList
  pub stands : get_elem? ls j ≡ some value
  pub passes : test (i + j) value ≡ true
  pub before : (k : ℕ) (l : PolicyList) → k < j → get_elem? ls k ≡ some l → test (i + k) l ≡ false

-- it is reported, or all fail and 255 is
pub record Reported (test : ℕ → PolicyList → Bool) (i : ℕ) (ls : List PolicyList) : Type 0 where
  pub place : ℕ
  pub first : First test i ls place
  pub number : lowest_from i test ls ≡ i + place
  pub below : place < length ls
  pub passes : some_from i test ls ≡ true

pub record Unreported (test : ℕ → PolicyList → Bool) (i : ℕ) (ls : List PolicyList) : Type 0 where
  pub fail : (k : ℕ) (l : PolicyList) → get_elem? ls k ≡ some l → test (i + k) l ≡ false
  pub number : lowest_from i test ls ≡ no_list
  pub fails : some_from i test ls ≡ false

pub lowest_is : (test : ℕ → PolicyList → Bool) (i : ℕ) (ls : List PolicyList) → Reported test i ls ⊎ Unreported test i ls
unfolding lowest_from some_from
lowest_is test i [] = inr (record { fail = λ k l q. absurd (nothing l q); number = refl; fails = refl })
lowest_is test i (x ∷ xs) = go (test i x) refl (lowest_is test (suc i) xs)
  where
    here : test (i + 0) x ≡ test i x
    here = let z : i + 0 ≡ i = omega arith in rw z

    after : (k : ℕ) (l : PolicyList) → test (i + suc k) l ≡ test (suc i + k) l
    after k l = let z : i + suc k ≡ suc i + k = omega arith in rw z

    go : (t : Bool) → test i x ≡ t → Reported test (suc i) xs ⊎ Unreported test (suc i) xs → Reported test i (x ∷ xs) ⊎ Unreported test i (x ∷ xs)
    go true e rest =
        inl (record {
          place = 0;
          first = record { value = x; stands = refl; passes = here ∙ e; before = λ k l h. absurd (omega arith) };
          number = rw e (omega arith);
          below = omega arith;
          passes = rw e;
        })
    go false e rest = ⊎_elim (λ r. inl (found r)) (λ u. inr (none_found u)) rest
      where
        earlier : (P : ℕ → Type 0) → P 0 → ((k : ℕ) → P (suc k)) → (k : ℕ) → P k
        earlier P z s zero = z
        earlier P z s (suc k) = s k

        this : (l : PolicyList) → get_elem? (x ∷ xs) 0 ≡ some l → test (i + 0) l ≡ false
        this l q = let w : x ≡ l = cc in rw (← w) (here ∙ e)

        found : Reported test (suc i) xs → Reported test i (x ∷ xs)
        found r =
            record {
              place = suc r.place;
              first =
                  record {
                    value = r.first.value;
                    stands = r.first.stands;
                    passes = after r.place r.first.value ∙ r.first.passes;
                    before = earlier (λ (k : ℕ). (l : PolicyList) → k < suc r.place → get_elem? (x ∷ xs) k ≡ some l → test (i + k) l ≡ false)
                        (λ l h q. this l q)
                        (λ k l h q. after k l ∙ r.first.before k l (omega arith) q);
                  };
              number = rw e (r.number ∙ omega arith);
              below = omega (arith, r.below);
              passes = rw e r.passes;
            }

        none_found : Unreported test (suc i) xs → Unreported test i (x ∷ xs)
        none_found u =
            record {
              fail = earlier (λ (k : ℕ). (l : PolicyList) → get_elem? (x ∷ xs) k ≡ some l → test (i + k) l ≡ false)
                  this
                  (λ k l q. after k l ∙ u.fail k l q);
              number = rw e u.number;
              fails = rw e u.fails;
            }
