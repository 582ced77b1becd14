-- `hash_matches` meets its contract: the hash has 32 bytes, which are compared with those of the record.
use Prim.Native.Nat.{ℕ}
use mathlib.Core.Path.{◌≡◌, sym, ◌∙◌}
use mathlib.Core.Bool.{Bool}
use mathlib.Core.List.{List}
use lib.Dec.{lit<}
use lib.ListN.{length}
use Rattle.field.specs.Field.{same, marked_at}
use Rattle.policy_record.specs.Record.{policy_hash}
use Rattle.decision.specs.Lists.{hash_matches}
use Rattle.field.proofs.Laws.{marked_same}
use borrow.Author.Rules.{rules}
use Rattle.decision.proofs.measures.hash_matches.Goals as goal

compared : (t : Bool) (r h k : List ℕ) → t ≡ marked_at r 38 h → 32 ≡ length h → h ≡ k → t ≡ same k (policy_hash r)
compared t r h k e l q = e ∙ marked_same r 38 h 32 (sym l) (lit< tt) ∙ rw q

pub returns : goal.returns
unfolding hash_matches
returns c = compared _ _ _ _ c.marked.ensures (search rules) c.hash-h.ensures
