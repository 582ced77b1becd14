-- The answer for a record is LIST or ANY exactly where every rule of it says what is so, and a number exactly where it is that of the first rule
-- that is broken.
use Prim.Native.Nat.{ℕ, ◌<◌}
use mathlib.Core.Path.{◌≡◌, refl, sym}
use mathlib.Core.Logic.{◌↔◌, ⊎_elim}
use mathlib.Core.Bool.{Bool, true, false, cond}
use mathlib.Core.List.{List}
use native.Mathlib.Omega.{arith}
use borrow.Author.Tests.{eqb-true, eqb-false}
use lib.Dec.{lit<, eqb}
use Rattle.rules.specs.Rules.{Rule, first_failing}
use Rattle.rules.specs.Meaning.{AllSay}
use Rattle.rules.proofs.Tests.{◌&◌}
use Rattle.rules.proofs.Meaning.{Agree, agrees, all_mean}
use Rattle.rules.proofs.Refusals.{value_by, refused_by, number_by, refused_means}
use Rattle.std.specs.Prelude.{Ok, Err}
use Rattle.policy_record.specs.declared.PolicyType.{PolicyType}
use Rattle.policy_record.specs.declared.PolicyType.TheVariants as types
use Rattle.policy_record.specs.Record.{policy_type, LIST, record_rules}
use Rattle.policy_record.specs.Answers.{kind_of, record_of}
use Rattle.policy_record.specs.Meaning.{record_meanings, NumberIsFirst, AnswerExactly}
use Rattle.policy_record.proofs.Conditions.{record_exactly, worthy_or_allowed_exactly, reached_exactly}

-- the kind by the test of the type
module _ (type : ℕ) where
  abbrev by : Bool → PolicyType
  by t = cond t types.List types.Any

  different : ◌≡◌ {A = PolicyType} types.List types.Any → ⊥
  different e = cc

  is_list : (t : Bool) → eqb type LIST ≡ t → (by t ≡ types.List) ↔ (type ≡ LIST)
  is_list true q = (λ e. eqb-true type LIST q, λ h. refl)
  is_list false q = (λ e. absurd (different (sym e)), λ h. absurd (eqb-false type LIST q h))

  is_any : (t : Bool) → eqb type LIST ≡ t → (by t ≡ types.Any) ↔ (type ≡ LIST → ⊥)
  is_any true q = (λ e. absurd (different e), λ h. absurd (h (eqb-true type LIST q)))
  is_any false q = (λ e. eqb-false type LIST q, λ h. refl)

-- THE RECORD

module _ (r : List ℕ) (flags acm_version : ℕ) where
  pub agree : Agree (record_rules r flags acm_version) (record_meanings r flags acm_version)
  agree = agrees (lit< tt) (record_exactly r) & agrees (lit< tt) (worthy_or_allowed_exactly flags r) & agrees (lit< tt) (reached_exactly acm_version r) & tt

  abbrev rs : List Rule
  rs = record_rules r flags acm_version

  abbrev kind : PolicyType
  kind = kind_of (policy_type r)

  -- LIST or ANY by the number and the type; a number is that of the first rule that fails
  pub list_exactly : (record_of r flags acm_version ≡ Ok types.List) ↔ ((first_failing rs ≡ 0) × (policy_type r ≡ LIST))
  unfolding record_of
  list_exactly =
      let answer = value_by kind types.List (first_failing rs) in
      let type = is_list (policy_type r) (eqb (policy_type r) LIST) refl in
      (λ e. (let h = answer.0 e in (h.0, type.0 h.1)), λ h. answer.1 (h.0, type.1 h.1))

  pub any_exactly : (record_of r flags acm_version ≡ Ok types.Any) ↔ ((first_failing rs ≡ 0) × (policy_type r ≡ LIST → ⊥))
  unfolding record_of
  any_exactly =
      let answer = value_by kind types.Any (first_failing rs) in
      let type = is_any (policy_type r) (eqb (policy_type r) LIST) refl in
      (λ e. (let h = answer.0 e in (h.0, type.0 h.1)), λ h. answer.1 (h.0, type.1 h.1))

  pub refusal_exactly : (n : ℕ) → (record_of r flags acm_version ≡ Err n) ↔ ((0 < n) × (first_failing rs ≡ n))
  unfolding record_of
  refusal_exactly n = refused_by kind (first_failing rs) n

  -- no rule fails exactly where every rule says what is so
  pub all_say : (first_failing rs ≡ 0) ↔ AllSay (record_meanings r flags acm_version)
  all_say = all_mean rs (record_meanings r flags acm_version) agree

pub number_is_first : NumberIsFirst
unfolding record_of
number_is_first r flags acm_version = number_by (kind r flags acm_version) (first_failing (rs r flags acm_version))

pub answer_exactly : AnswerExactly
unfolding record_of
answer_exactly r flags acm_version =
    let say = all_say r flags acm_version in
    let list = list_exactly r flags acm_version in
    let any = any_exactly r flags acm_version in (
      (λ e. (let h = list.0 e in (say.0 h.0, h.1)), λ h. list.1 (say.1 h.0, h.1)),
      (
        λ e. (let h = any.0 e in let s = say.0 h.0 in (s, ⊎_elim (λ z. absurd (h.1 z)) (λ z. z) s.0.type)),
        λ h. any.1 (say.1 h.0, λ z. omega arith),
      ),
      refused_means (kind r flags acm_version) (rs r flags acm_version) (record_meanings r flags acm_version) (agree r flags acm_version),
    )
