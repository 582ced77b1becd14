-- Rules 27 to 29 in turn: where the grammar makes the file from some reading, the tests of 28 and 29 say what is so of that reading.
use Prim.Native.Nat.{ℕ, ◌≤◌}
use mathlib.Core.Path.{◌≡◌}
use mathlib.Core.Logic.{◌↔◌}
use mathlib.Core.Bool.{Bool, true}
use mathlib.Core.List.{List}
use lib.Dec.{lit<}
use lib.ListN.{length}
use Rattle.field.specs.Number.{Bytes}
use Rattle.rules.proofs.Meaning.{InTurn, agrees, broken_exactly}
use Rattle.policy_grammar.specs.Grammar.{Reading, Makes}
use Rattle.policy_grammar.specs.Sizes.{largest_file}
use Rattle.decision.specs.Lists.{Criteria, some_permits}
use Rattle.decision.specs.Answers.{file_rules}
use Rattle.decision.specs.Meaning.{OfGrammar, SomeReading, SomePermits, Reads, file_meanings, FileExactly}
use Rattle.decision.proofs.Conditions.{hash_exactly}
use Rattle.decision.proofs.Readings.{grammar_exactly}
use Rattle.decision.proofs.Permission.{permits_exactly}

module _ (file : List ℕ) (b : Bytes file) (most : length file ≤ largest_file) where
  pub reads : (reading : Reading) → Makes reading file → Reads file reading
  reads reading m = record { bytes = b; most = most; makes = m }

  -- a test that says what is so of each reading that makes the file
  some_exactly : (t : Bool) (P : Reading → Type 0) → ((reading : Reading) → Reads file reading → (t ≡ true) ↔ P reading)
      → OfGrammar file → (t ≡ true) ↔ SomeReading file P
  some_exactly t P says (r, m) = (λ e. (r, (m, (says r (reads r m)).0 e)), λ (s, (n, p)). (says s (reads s n)).1 p)

  -- 27 and 28
  pub file_turn : (r : List ℕ) → InTurn (file_rules file r) (file_meanings file r)
  file_turn r = (
    agrees (lit< tt) (grammar_exactly file b most),
    λ g. (agrees (lit< tt) (some_exactly _ _ (hash_exactly file r) g), λ h. tt),
  )

  -- 29
  pub some_permits_lem : (k : Criteria) → OfGrammar file → (some_permits file k ≡ true) ↔ SomeReading file (λ (reading : Reading). SomePermits reading k)
  some_permits_lem k g = some_exactly _ _ (permits_exactly file k) g

pub file_exactly : FileExactly
file_exactly file r b most n z = broken_exactly (file_rules file r) (file_meanings file r) (file_turn file b most r) n z
