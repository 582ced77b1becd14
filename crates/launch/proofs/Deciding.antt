-- What the policy decides, rules 23 to 29: what one group of rules makes of the outcome by all of them.
use Prim.Native.Nat.{ℕ, ◌≤◌, ◌<◌}
use mathlib.Core.Path.{◌≡◌, refl, sym, ◌∙◌, ap}
use mathlib.Core.Bool.{Bool, true, false, not, cond}
use mathlib.Core.List.{List, [], ◌∷◌, ◌++◌}
use native.Mathlib.Omega.{arith}
use borrow.Author.Tests.{eq-eqb, ne_eqb, eqb-true, eqb-false}
use lib.Dec.{lit<, eqb}
use Rattle.field.specs.Number.{Bytes}
use Rattle.rules.specs.Rules.{Rule, rule, all, first_failing, answer_by}
use Rattle.rules.proofs.Refusals.{no_place}
use Rattle.rules.proofs.Rules.{NumbersIn, numbers_not_0, number_most}
use Rattle.rules.proofs.Tests.{◌&◌, fails}
use Rattle.rules.proofs.Answers.{permits, rule_refuses, rule_passes, group_refuses, group_passes}
use Rattle.mle.specs.Image.{image_digest}
use Rattle.policy_record.specs.declared.PolicyType.TheVariants as types
use Rattle.std.specs.Prelude.{Option, Some, None, is_some, Result, Ok, Err}
use Rattle.rules.specs.declared.refusal.Refusal.{Refusal}
use Rattle.rules.specs.Refusal as refusals
use Rattle.launch.specs.declared.Permission.{Permission}
use Rattle.launch.specs.declared.Refused.{Refused}
use Rattle.launch.specs.Refused.{early}
use Rattle.policy_record.specs.Record.{policy_type, LIST, record_rules}
use Rattle.decision.specs.Lists.{file_placed, some_permits, lowest_permitting}
use Rattle.answer.specs.Answer.{no_list}
use Rattle.policy_record.specs.Answers.{record_of}
use Rattle.decision.specs.Answers.{criteria_by, file_rules, place_for, FileFault, file_fault_of, number_if}
use Rattle.policy_record.proofs.RecordAnswers.{list_exactly, any_exactly, refusal_exactly}
use Rattle.decision.proofs.Permission.{reported_exactly}
use Rattle.launch.specs.declared.Found.{Found}
use Rattle.launch.specs.Rules.{policy_file, criteria, list_rules}
use Rattle.launch.specs.Answer.{list_for}
use Rattle.launch.specs.Inner.{Outcome, list_number, outcome_shown, refusal_showing, early_refusal, refusal, permission_with, permission, file_stage, list_stage, decide_stage}
use Rattle.launch.proofs.Order.{record_group, file_group}

-- what a `?` returns, as an outcome: by a rule that is tried before the image is hashed
pub returned_early : {r : Result Permission Refused} {e : Refusal} → ((y : Refused) × (r ≡ Err y) × (y ≡ early e)) → outcome_shown r ≡ early_refusal (refusals.number e) (refusals.place e)
returned_early p = ap outcome_shown (p.1 ∙ ap Err p.2)

-- a refusal by rules whose numbers are below 29 shows nothing of the digest, and one by rules whose numbers are below 27 has no place
module _ (w : List ℕ) (f : Found) (a : Outcome) (least most : ℕ) (rs later : List Rule) (numbers : NumbersIn least most rs) (n : ℕ) where
  pub early_refuses : most < 29 → 0 < n → first_failing rs ≡ n → early_refusal n (place_for (policy_file w f) n) ≡ answer_by (refusal w f) a (rs ++ later)
  early_refuses below z e =
      let nothing : early_refusal n (place_for (policy_file w f) n) ≡ refusal w f n = rw (ne_eqb n 29 (λ x. omega (arith, number_most least most rs numbers))) in
      nothing ∙ group_refuses (refusal w f) a rs later n z e

  pub unplaced_refuses : most < 27 → 0 < n → first_failing rs ≡ n → early_refusal n 0 ≡ answer_by (refusal w f) a (rs ++ later)
  unplaced_refuses below z e =
      let unplaced : place_for (policy_file w f) n ≡ 0 = rw (ne_eqb n 27 (λ x. omega (arith, number_most least most rs numbers))) in
      ap (early_refusal n) (sym unplaced) ∙ early_refuses (omega arith) z e

-- 29
module _ (w file r stm : List ℕ) (f : Found) where
  abbrev last : List Rule
  last = rule 29 (some_permits file (criteria w r stm f)) ∷ []

  abbrev lowest : ℕ
  lowest = lowest_permitting file (criteria w r stm f)

  -- by the digest and the list that were worked out
  module _ (d : List ℕ) (l : ℕ) (is-digest : d ≡ image_digest w f.image)
      (is_list : l ≡ lowest_permitting file (criteria_by d f.acm_version stm r)) (b : Bytes file) where
    listed : l ≡ lowest
    listed = rw is-digest at is_list

    refused_lem : l ≡ no_list → refusal_showing d 29 0 ≡ file_stage w file r stm f
    unfolding file_stage
    refused_lem e =
        rw is-digest
        (rule_refuses (refusal w f) (permission w f lowest) 29 _ [] (lit< tt)
        (sym (fails (reported_exactly file (criteria w r stm f) b) (λ h. h (sym listed ∙ e)))))

    permitted_lem : (l ≡ no_list → ⊥) → permission_with f l d ≡ file_stage w file r stm f
    unfolding file_stage
    permitted_lem h =
        rw (is-digest, listed)
        (permits (refusal w f) (permission w f lowest) last (rw ((reported_exactly file (criteria w r stm f) b).1 (λ e. h (listed ∙ e)))))

  -- by the list that was answered
  module _ (d : List ℕ) (o : Option ℕ) (is-digest : d ≡ image_digest w f.image)
      (is_list : o ≡ number_if (lowest_permitting file (criteria_by d f.acm_version stm r))) (b : Bytes file) (t : Bool) (is-none : is_some o ≡ not t) where
    abbrev l : ℕ
    l = lowest_permitting file (criteria_by d f.acm_version stm r)

    some_lem : (n : ℕ) → is_some (number_if n) ≡ not (eqb n no_list)
    some_lem n = by (eqb n no_list)
      where
        by : (x : Bool) → is_some (cond x None (Some n)) ≡ not x
        by true = refl
        by false = refl

    same : (x y : Bool) → not x ≡ not y → x ≡ y
    same true true e = refl
    same true false e = sym e
    same false true e = sym e
    same false false e = refl

    number_is : (n : ℕ) → list_number (number_if n) ≡ n
    number_is n = by (eqb n no_list) refl
      where
        by : (x : Bool) → eqb n no_list ≡ x → list_number (cond x None (Some n)) ≡ n
        by true q = sym (eqb-true n no_list q)
        by false q = refl

    test : t ≡ eqb l no_list
    test = same t (eqb l no_list) (sym is-none ∙ ap is_some is_list ∙ some_lem l)

    pub no_list_lem : t ≡ true → refusal_showing d 29 0 ≡ file_stage w file r stm f
    no_list_lem e = refused_lem d l is-digest refl b (eqb-true l no_list (sym test ∙ e))

    pub a_list : t ≡ false → permission_with f (list_number o) d ≡ file_stage w file r stm f
    a_list e =
        let n : list_number o ≡ l = ap list_number is_list ∙ number_is l in
        rw n (permitted_lem d l is-digest refl b (eqb-false l no_list (sym test ∙ e)))

module _ (w r stm : List ℕ) (f : Found) where
  -- 26 to 28
  abbrev file : List ℕ
  file = policy_file w f

  abbrev permitting : Outcome
  permitting = permission w f (lowest w file r stm f)

  pub not_placed : all (file_placed w f.window_base f.policy_file.base f.policy_file.size) ≡ false → early_refusal 26 0 ≡ list_stage w r stm f
  unfolding list_stage
  not_placed e = rule_refuses (refusal w f) permitting 26 _ (file_rules file r ++ last w file r stm f) (lit< tt) e

  -- by the file that was found and its first rule that fails
  module _ (placed : all (file_placed w f.window_base f.policy_file.base f.policy_file.size) ≡ true) (s : List ℕ) (v : FileFault)
      (is-file : s ≡ file) (is-fault : v ≡ file_fault_of s r) where
    abbrev n : ℕ
    n = v.number

    found_fault : v ≡ file_fault_of file r
    found_fault = rw is-file at is-fault

    fault : first_failing (file_rules file r) ≡ n
    fault = sym (ap (λ (x : FileFault). x.number) found_fault)

    place : v.place ≡ place_for file n
    place = ap (λ (x : FileFault). x.place) found_fault ∙ ap (place_for file) fault

    pub file_refuses : (n ≡ 0 → ⊥) → early_refusal n v.place ≡ list_stage w r stm f
    unfolding list_stage
    file_refuses h =
        ap (early_refusal n) place
        ∙ early_refuses w f permitting 27 28 (file_rules file r) (last w file r stm f) (file_group file r).numbers n (lit< tt) (omega arith) fault
        ∙ rule_passes (refusal w f) permitting 26 _ (file_rules file r ++ last w file r stm f) placed

    pub file_passes : n ≡ 0 → file_stage w s r stm f ≡ list_stage w r stm f
    unfolding list_stage file_stage
    file_passes z =
        rw is-file
        (group_passes (refusal w f) permitting (file_rules file r) (last w file r stm f) (lit< tt & lit< tt & tt) (fault ∙ z)
        ∙ rule_passes (refusal w f) permitting 26 _ (file_rules file r ++ last w file r stm f) placed)

  -- 23 to 25
  abbrev rules : List Rule
  rules = record_rules r f.flags f.acm_version

  abbrev later : List Rule
  later = cond (eqb (policy_type r) LIST) (list_rules w r stm f) []

  abbrev outcome : Outcome
  outcome = permission w f (list_for w r stm f)

  record_passes : first_failing rules ≡ 0 → answer_by (refusal w f) outcome later ≡ decide_stage w r stm f
  unfolding decide_stage
  record_passes e = group_passes (refusal w f) outcome rules later (numbers_not_0 23 25 rules (lit< tt) (record_group r f.flags f.acm_version).numbers) e

  pub record_refuses : (n : ℕ) → record_of r f.flags f.acm_version ≡ Err n → early_refusal n 0 ≡ decide_stage w r stm f
  unfolding decide_stage
  record_refuses n e =
      let a = (refusal_exactly r _ _ n).0 e in
      unplaced_refuses w f outcome 23 25 rules later (record_group r f.flags f.acm_version).numbers n (lit< tt) a.0 a.1

  -- by a refusal, which has no place since its number is no 27
  pub record_stops : (e : Refusal) → record_of r f.flags f.acm_version ≡ Err (refusals.number e)
      → early_refusal (refusals.number e) (refusals.place e) ≡ decide_stage w r stm f
  record_stops e is =
      let a = (refusal_exactly r _ _ (refusals.number e)).0 is in
      let below : refusals.number e ≤ 25 = omega (arith, a.1, number_most 23 25 rules (record_group r f.flags f.acm_version).numbers) in
      ap (early_refusal (refusals.number e)) (no_place e (λ z. omega arith)) ∙ record_refuses (refusals.number e) is

  pub record_any : record_of r f.flags f.acm_version ≡ Ok types.Any → permission w f no_list ≡ decide_stage w r stm f
  record_any e =
      let a = (any_exactly r _ _).0 e in
      let none : permission w f no_list ≡ answer_by (refusal w f) outcome later =
      rw (ne_eqb (policy_type r) LIST a.1) (permits (refusal w f) (permission w f no_list) [] refl) in
      none ∙ record_passes a.0

  pub record_list : record_of r f.flags f.acm_version ≡ Ok types.List → list_stage w r stm f ≡ decide_stage w r stm f
  unfolding list_stage
  record_list e =
      let a = (list_exactly r _ _).0 e in
      let under : list_stage w r stm f ≡ answer_by (refusal w f) outcome later = rw (eq-eqb (policy_type r) LIST a.1) in
      under ∙ record_passes a.0
