-- `judge_file` meets its contract: a file that the reader refuses gives 27 at the place that the reader gives, and one that it accepts is compared by
-- its hash.
use Prim.Native.Nat.{ℕ}
use mathlib.Core.Path.{◌≡◌, refl, ap, ◌∙◌}
use mathlib.Core.Bool.{Bool, true, false, cond}
use mathlib.Core.List.{List}
use native.Mathlib.Omega.{arith}
use Rattle.std.specs.Prelude.{⊤, Result, Ok, Err}
use Rattle.rules.specs.declared.refusal.Refusal.{Refusal}
use Rattle.rules.specs.declared.refusal.Refusal.TheVariants as refusals
use Rattle.policy_grammar.specs.Decode.{fault_place}
use Rattle.policy_reader.proofs.Readings.{fault_within}
use Rattle.decision.specs.Lists.{of_grammar, hash_matches}
use Rattle.decision.specs.Answers.{place_for, file_fault_of, fault_shown}
use Rattle.decision.proofs.Walking.{grammar_is, place_is}
use Rattle.decision.proofs.measures.judge_file.Goals as goal

refused : (file r : List ℕ) (p : ℕ) → of_grammar file ≡ false → fault_place file ≡ p → record { number = 27; place = p } ≡ file_fault_of file r
refused file r p e q = rw (e, q)

accepted : (file r : List ℕ) (m : Bool) (x : Result ⊤ Refusal) → of_grammar file ≡ true → m ≡ hash_matches file r → x ≡ cond m (Ok tt) (Err refusals.PolicyHash)
    → fault_shown x ≡ file_fault_of file r
accepted file r m x e q h = rw (e, ← q, h) (go m)
  where
    go : (t : Bool) → fault_shown (cond t (Ok tt) (Err refusals.PolicyHash)) ≡ record { number = cond t 0 28; place = place_for file (cond t 0 28) }
    go true = refl
    go false = refl

pub hash_matches-requires : goal.hash_matches-requires
hash_matches-requires c = grammar_is _ _ _ c.read.ensures.0 c.in-Ok.is

pub overflow_cast-result : goal.overflow_cast-result
overflow_cast-result c =
    let is = place_is _ _ _ c.read.ensures.0 (c.in-Err-NotOfGrammar.is ∙ ap Err c.in-Err-NotOfGrammar.field-0-is) refl in
    omega (arith, is, fault_within c.args.file.now)

pub returns-in-Ok : goal.returns-in-Ok
returns-in-Ok c = accepted _ _ _ _ (grammar_is _ _ _ c.read.ensures.0 c.in-Ok.is) c.hash_matches.ensures c.require.ensures

pub returns-in-Err-WrongSize : goal.returns-in-Err-WrongSize
returns-in-Err-WrongSize c =
    let is = c.in-Err-WrongSize.is ∙ ap Err c.in-Err-WrongSize.field-0-is in
    refused _ _ _ (grammar_is _ _ _ c.read.ensures.0 is) (place_is _ _ _ c.read.ensures.0 is refl)

pub returns-in-Err-NotOfGrammar : goal.returns-in-Err-NotOfGrammar
returns-in-Err-NotOfGrammar c =
    let is = c.in-Err-NotOfGrammar.is ∙ ap Err c.in-Err-NotOfGrammar.field-0-is in
    refused _ _ _ (grammar_is _ _ _ c.read.ensures.0 is) (place_is _ _ _ c.read.ensures.0 is refl)
