-- A number over 25 comes from rules 26 to 29, since every other rule has a lower one. So where 27 is given the file is of a size that is read and not of
-- the grammar, and where 29 is given the policy is LIST, the file is of the grammar and no list of its reading permits.
use Prim.Native.Nat.{ℕ, ◌≤◌, ◌<◌}
use mathlib.Core.Path.{◌≡◌, refl}
use mathlib.Core.Logic.{⊎_elim}
use mathlib.Core.Bool.{Bool, true, false, cond}
use mathlib.Core.List.{List, [], ◌∷◌}
use native.Mathlib.Omega.{arith}
use borrow.Author.Tests.{eqb-true}
use lib.Dec.{lit<, eqb}
use lib.ListN.{length}
use Rattle.field.specs.Number.{Bytes}
use Rattle.rules.specs.Rules.{Rule, rule, all, first_failing}
use Rattle.rules.specs.Meaning.{FirstBroken}
use Rattle.rules.proofs.Rules.{from_later}
use Rattle.rules.proofs.Meaning.{broken_exactly}
use Rattle.policy_grammar.specs.Sizes.{least_file, largest_file}
use Rattle.policy_record.specs.Record.{policy_type, LIST, record_rules}
use Rattle.decision.specs.Lists.{file_placed, of_grammar, hash_matches, some_permits}
use Rattle.decision.proofs.Conditions.{placed_exactly, placed_length}
use Rattle.launch.specs.Rules.{Input, os, found, criteria, find_rules, list_rules, decide_rules, rules}
use Rattle.launch.specs.Meaning.{file, list_meanings}
use Rattle.launch.specs.Demand2.{NoList}
use Rattle.launch.proofs.Order.{find_group, record_group}
use Rattle.launch.proofs.Meaning.{list_turn}

-- of the four rules under LIST, 27 is the second
second : (placed grammar hash some : Bool) → first_failing (rule 26 placed ∷ rule 27 grammar ∷ rule 28 hash ∷ rule 29 some ∷ []) ≡ 27
    → (placed ≡ true) × (grammar ≡ false)
second false g h s e = absurd (omega arith)
second true false h s e = (refl, refl)
second true true false s e = absurd (omega arith)
second true true true false e = absurd (omega arith)
second true true true true e = absurd (omega arith)

module _ (i : Input) where
  abbrev r : List ℕ
  r = i.policy_record

  abbrev lists : List Rule
  lists = list_rules i.window r i.stm (found i)

  -- the policy is LIST, and the number is that of the rules that are tried under it
  from_lists : (n : ℕ) → 25 < n → first_failing (rules i) ≡ n → (policy_type r ≡ LIST) × (first_failing lists ≡ n)
  unfolding rules
  from_lists n over e =
      by (eqb (policy_type r) LIST) refl
      (from_later 23 25 n (record_rules r (found i).flags (found i).acm_version) (cond (eqb (policy_type r) LIST) lists [])
      (record_group r (found i).flags (found i).acm_version).numbers over
      (from_later 1 22 n (find_rules i) (decide_rules i.window r i.stm (found i)) (find_group i).numbers (omega arith) e))
    where
      by : (t : Bool) → eqb (policy_type r) LIST ≡ t → first_failing (cond t lists []) ≡ n → (policy_type r ≡ LIST) × (first_failing lists ≡ n)
      by true q f = (eqb-true _ _ q, f)
      by false q f = absurd (omega arith)

  -- 27
  pub record NotOfGrammar : Type 0 where
    pub least : least_file ≤ length (file i)
    pub most : length (file i) ≤ largest_file
    pub refused : of_grammar (file i) ≡ false

  pub not_of_grammar_lem : first_failing (rules i) ≡ 27 → NotOfGrammar
  not_of_grammar_lem e =
      let placed = all (file_placed i.window i.platform.window_base (os i).policy_file_base (os i).policy_file_size) in
      let k = criteria i.window r i.stm (found i) in
      let f = second placed (of_grammar (file i)) (hash_matches (file i) r) (some_permits (file i) k) (from_lists 27 (lit< tt) e).1 in
      let q = (placed_exactly _ _ _ _).0 f.0 in
      let size = placed_length _ _ _ _ q in
      record { least = omega (arith, size, q.least); most = omega (arith, size, q.most); refused = f.1 }

module _ (i : Input) (places : List ℕ) (b : Bytes i.window) where
  -- 29
  none : policy_type i.policy_record ≡ LIST → FirstBroken (list_meanings i) 29 → NoList i places
  none l =
      ⊎_elim (λ r26. absurd (omega (arith, r26.1)))
      (λ r26. ⊎_elim (λ r27. absurd (omega (arith, r27.1)))
      (λ r27. ⊎_elim (λ r28. absurd (omega (arith, r28.1)))
      (λ r28. ⊎_elim
      (λ r29. (let (reading, makes) = r27.0 in record { under_list = l; reading = reading; grammar = makes; none = λ p. r29.0 (reading, (makes, p)) }))
      (λ r29. absurd r29.1)
      r28.1)
      r27.1)
      r26.1)

  pub no_list_lem : first_failing (rules i) ≡ 29 → NoList i places
  no_list_lem e =
      let l = from_lists i 29 (lit< tt) e in
      none l.0 ((broken_exactly (lists i) (list_meanings i) (list_turn i b) 29 (lit< tt)).0 l.1)
