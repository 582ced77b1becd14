-- The regions that hold every page with a number below a bound: how one number more changes them, and that one is left exactly where one holds all.
use Prim.Native.Nat.{ℕ, zero, suc, ◌<◌}
use mathlib.Core.Path.{◌≡◌, refl, ap, ◌∙◌}
use mathlib.Core.Logic.{◌↔◌}
use mathlib.Core.Bool.{Bool, true, false, not, ◌&&◌, ◌||◌, and-true}
use mathlib.Core.List.{List}
use native.Mathlib.Omega.{arith}
use borrow.Author.Count.{below_more}
use Rattle.range.specs.declared.Range.{Range}
use Rattle.range.specs.Range.{inside_of}
use Rattle.rules.specs.Rules.{Some}
use Rattle.rules.specs.Tests.{filter}
use Rattle.rules.proofs.Tests.{and_exactly, some_map, where_holds}
use Rattle.rules.proofs.Filter.{filter_twice, filter_same, some_filter}
use Rattle.pages.specs.declared.Kind.TheVariants.{Page}
use Rattle.pages.specs.Entry.{present_of, address_of}
use Rattle.pages.specs.Memory.{Memory, regions, holding}
use Rattle.pages.specs.Meaning.{Within, Protected, entry, Present, named, HoldsPages}
use Rattle.pages.proofs.Conditions.{page_within}

-- what holds below a number, and of it
pub upto : (P : ℕ → Type 0) (n : ℕ) → ((i : ℕ) → i < n → P i) → P n → (i : ℕ) → i < suc n → P i
upto P n below here i h = below_more P n below here i (omega arith)

module _ (w : List ℕ) (m : Memory) (t : ℕ) where
  -- a region holds every page with a number below l
  abbrev pub Holds : ℕ → Range → Type 0
  Holds l r = (i : ℕ) → i < l → Present w m t Page i → Within (named w m t Page i) r

  abbrev pub holds : ℕ → Range → Bool
  holds zero r = true
  holds (suc l) r = holds l r && (not (present_of (entry w m t Page l)) || inside_of (named w m t Page l) r)

  holds_exactly : (l : ℕ) (r : Range) → (holds l r ≡ true) ↔ Holds l r
  holds_exactly zero r = (λ e i h. absurd (omega arith), λ h. refl)
  holds_exactly (suc l) r =
      let here = where_holds (present_of (entry w m t Page l)) (inside_of (named w m t Page l) r) (λ e. e, λ e. e) (page_within (address_of (entry w m t Page l)) r) in
      let both = and_exactly (holds_exactly l r) here in (
        λ e. let h = both.0 e in upto (λ (i : ℕ). Present w m t Page i → Within (named w m t Page i) r) l h.0 h.1,
        λ h. both.1 (λ i x. h i (omega arith), h l (omega arith)),
      )

  abbrev pub common : ℕ → List Range
  common l = filter (holds l) (regions m)

  pub common_absent : (rs : List Range) (l : ℕ) → rs ≡ common l → present_of (entry w m t Page l) ≡ false → rs ≡ common (suc l)
  common_absent rs l h e = h ∙ filter_same (holds l) (holds (suc l)) (λ r. rw (e, and-true (holds l r))) (regions m)

  pub common_next : (rs : List Range) (l : ℕ) → rs ≡ common l → Present w m t Page l → holding rs (address_of (entry w m t Page l)) ≡ common (suc l)
  unfolding holding
  common_next rs l h e =
      ap (filter (inside_of (named w m t Page l))) h ∙ filter_twice (inside_of (named w m t Page l)) (holds l) (holds (suc l)) (λ r. rw e) (regions m)

  -- where one of the regions that hold every page below l holds page l too, one holds every page up to it
  pub held_next : (l : ℕ) → Protected (common l) (named w m t Page l) → Some (Holds (suc l)) (regions m)
  held_next l h =
      some_map (λ (r : Range). (holds l r ≡ true) × Within (named w m t Page l) r) (Holds (suc l))
      (λ r x. upto (λ (i : ℕ). Present w m t Page i → Within (named w m t Page i) r) l ((holds_exactly l r).0 x.0) (λ p. x.1))
      (regions m)
      ((some_filter (Within (named w m t Page l)) (holds l) (regions m)).0 h)

  -- where one of the regions holds every page, one of those that hold every page below l holds page l
  pub held_all : Some (HoldsPages w m t) (regions m) → (l : ℕ) → Present w m t Page l → Protected (common l) (named w m t Page l)
  held_all h l p =
      (some_filter (Within (named w m t Page l)) (holds l) (regions m)).1
      (some_map (HoldsPages w m t) (λ (r : Range). (holds l r ≡ true) × Within (named w m t Page l) r)
      (λ r x. ((holds_exactly l r).1 (λ i y. x i), x l p))
      (regions m)
      h)
