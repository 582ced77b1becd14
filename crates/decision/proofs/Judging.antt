-- The elements of a list one after the other: whether all are judged, some names the digest of the pages and some is an STM element, from what was found
-- so far and the elements that are left; and what that says of the list.
use Prim.Native.Nat.{ℕ}
use mathlib.Core.Path.{◌≡◌, refl, ap, sym, ◌∙◌}
use mathlib.Core.Bool.{Bool, true, false, not, ◌&&◌, ◌||◌, or-false}
use mathlib.Core.List.{List, []}
use borrow.Author.Tests.{not-true, not-false}
use Rattle.std.specs.Prelude.{Some, None}
use Rattle.policy_answers.specs.Types.{ElementAnswer}
use Rattle.policy_answers.specs.declared.ElementAt.{ElementAt}
use Rattle.policy_answers.specs.declared.ElementBody.{ElementBody}
use Rattle.policy_answers.specs.declared.ElementBody.TheVariants as bodies
use Rattle.policy_answers.specs.Answers.{body_shown}
use Rattle.policy_grammar.specs.Grammar.{Element}
use Rattle.policy_answers.specs.Seen.{seen_element}
use Rattle.policy_reader.proofs.Standing as kinds
use Rattle.policy_reader.proofs.Walk.{Front, element_seen}
use Rattle.rules.specs.Tests.{every, any}
use Rattle.decision.specs.declared.Judgement.TheVariants.{No, Yes, IfStmNamed}
use Rattle.decision.specs.Lists.{Criteria, judged, names, is_stm, names_stm}
use Rattle.decision.specs.Inner.{judged_body, is_stm_body, test_seen, judgement_by, judgement_of, Counted}
use Rattle.decision.proofs.Naming.{judged_is, stm_is, counted_is}

pub record Judging (k : Criteria) (es : List Element) (found stm : Bool) (rest : List Element) : Type 0 where
  pub same : (every judged es && any (names k) es) ≡ (every judged rest && (found || any (names k) rest))
  pub same_stm : any is_stm es ≡ (stm || any is_stm rest)

-- a test of one more element, after what was found before
reorder : (f n a : Bool) → (f || (n || a)) ≡ ((f || n) || a)
reorder true n a = refl
reorder false n a = refl

-- the first element of those that are left, by the answer for it
module _ {Kept : List Element → Type 0} (t : List ℕ) (at : ℕ) (e : ElementAt) (front : Front kinds.element t at Kept (Some e)) where
  abbrev body_in : ElementAnswer → ElementBody
  body_in None = bodies.Custom
  body_in (Some a) = a.body

  body_is : e.body ≡ body_shown front.first.type front.first.body
  body_is = ap body_in front.shown

  pub fits : Counted e.body
  fits = rw body_is (counted_is front.first front.valid.0)

  tested : (test : Element → Bool) (n : Bool) → n ≡ test_seen test (seen_element t (Some e)) → n ≡ test front.first
  tested test n en = en ∙ ap (test_seen test) (ap (seen_element t) front.shown ∙ element_seen t at front.first front.others front.valid front.stand)

module _ (k : Criteria) (es : List Element) where
  pub judging_start : Judging k es false false es
  judging_start = record { same = refl; same_stm = refl }

  pub judging_end : (found stm : Bool) → Judging k es found stm [] → judgement_by found stm ≡ judgement_of k es
  judging_end found stm h = rw (h.same, h.same_stm, or-false found, or-false stm)

  -- one element, by the answers for it
  module _ (t : List ℕ) (at : ℕ) (found stm : Bool) (e : ElementAt) (front : Front kinds.element t at (Judging k es found stm) (Some e)) where
    abbrev x : Element
    x = front.first

    module _ (j : Bool) (ej : j ≡ judged_body e.body) where
      j_is : j ≡ judged x
      j_is = ej ∙ ap judged_body (body_is t at e front) ∙ judged_is x front.valid.0

      pub unjudged : j ≡ false → No ≡ judgement_of k es
      unjudged h = sym (rw (front.kept.same, sym j_is ∙ h))

      pub judging_step : j ≡ true → (n : Bool) → n ≡ test_seen (names k) (seen_element t (Some e)) → (found' : Bool) → found' ≡ (found || n)
          → (m : Bool) → m ≡ is_stm_body e.body → (stm' : Bool) → stm' ≡ (stm || m) → Judging k es found' stm' front.others
      judging_step h n en found' ef m em stm' es' =
          let n_is : n ≡ names k x = tested t at e front (names k) n en in
          let m_is : m ≡ is_stm x = em ∙ ap is_stm_body (body_is t at e front) ∙ stm_is x front.valid.0 in
          record {
            same =
                front.kept.same
                ∙ rw (sym j_is ∙ h, ← n_is, ef)
                (ap (λ (b : Bool). every judged front.others && b) (reorder found n (any (names k) front.others)));
            same_stm = front.kept.same_stm ∙ rw (← m_is, es') (reorder stm m (any is_stm front.others));
          }

-- THE STM ELEMENTS OF A LIST: one names a digest exactly where one of those that are left does

pub record Naming (digest : List ℕ) (es rest : List Element) : Type 0 where
  pub same : any (names_stm digest) es ≡ any (names_stm digest) rest

module _ (digest : List ℕ) (es : List Element) where
  pub naming_start : Naming digest es es
  naming_start = record { same = refl }

  pub naming_end : Naming digest es [] → false ≡ any (names_stm digest) es
  naming_end h = sym h.same

  module _ (t : List ℕ) (at : ℕ) (e : ElementAt) (front : Front kinds.element t at (Naming digest es) (Some e)) where
    module _ (n : Bool) (en : n ≡ test_seen (names_stm digest) (seen_element t (Some e))) where
      n_is : n ≡ names_stm digest front.first
      n_is = tested t at e front (names_stm digest) n en

      pub this_names : n ≡ true → true ≡ any (names_stm digest) es
      this_names h = sym (front.kept.same ∙ rw (sym n_is ∙ h))

      pub this_does_not_name : n ≡ false → Naming digest es front.others
      this_does_not_name h = record { same = front.kept.same ∙ rw (sym n_is ∙ h) }

-- WHAT THE ELEMENTS SAY

module _ (found stm : Bool) where
  pub by_no : not found ≡ true → No ≡ judgement_by found stm
  by_no h = rw (not-true found h)

  pub by_stm : not found ≡ false → stm ≡ true → IfStmNamed ≡ judgement_by found stm
  by_stm h e = rw (not-false found h, e)

  pub by_yes : not found ≡ false → stm ≡ false → Yes ≡ judgement_by found stm
  by_yes h e = rw (not-false found h, e)
