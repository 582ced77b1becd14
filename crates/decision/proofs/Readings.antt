-- The files of the grammar: the test of rule 27, the lists that rules 28 and 29 speak of, and that there are at most 8 of them; and the place of a file that
-- is not of the grammar.
use Prim.Native.Nat.{ℕ, ◌≤◌}
use mathlib.Core.Path.{◌≡◌, refl, ap, sym}
use mathlib.Core.Bool.{true, false, true≢false}
use mathlib.Core.List.{List}
use mathlib.Core.Option.{Option, some, none}
use native.Mathlib.Omega.{arith}
use lib.ListN.{length}
use Rattle.field.specs.Number.{Bytes}
use Rattle.policy_grammar.specs.Grammar.{Reading}
use Rattle.policy_grammar.specs.Parser.{is_some}
use Rattle.policy_grammar.specs.Decode.{accepted, fault_place}
use Rattle.policy_grammar.specs.Fault.{FirstFaultIn}
use Rattle.policy_grammar.specs.Sizes.{least_file, largest_file}
use Rattle.policy_reader.proofs.Places.{accepted_sound, accepted_complete}
use Rattle.policy_reader.proofs.Readings.{is_place}
use Rattle.decision.specs.Lists.{of_grammar, lists_of}
use Rattle.decision.specs.Meaning.{OfGrammar, GrammarExactly, Reads, ListsExactly}
use Rattle.decision.proofs.Walking.{short, not_accepted}

pub grammar_exactly : GrammarExactly
unfolding of_grammar
grammar_exactly s b h = (λ e. go (accepted s) refl e, λ (r, m). ap is_some (accepted_complete r s m h))
  where
    go : (o : Option Reading) → accepted s ≡ o → is_some o ≡ true → OfGrammar s
    go none q e = absurd (true≢false (sym e))
    go (some r) q e = (r, (accepted_sound s r b q).0)

pub lists_exactly : ListsExactly
lists_exactly file r reads = rw (accepted_complete r file reads.makes reads.most)

-- the place of a file that is not of the grammar, of a size that is read, is that of its first fault
pub first_fault : (s : List ℕ) → least_file ≤ length s → length s ≤ largest_file → of_grammar s ≡ false → FirstFaultIn s (fault_place s)
first_fault s least most h = (is_place s).first least most (not_accepted s h)

-- at most 8 lists
pub few : {file : List ℕ} {r : Reading} → Reads file r → length r.lists ≤ 8
few reads = let v = reads.makes.valid in omega (arith, v.counted, v.eight_or_fewer)

pub lists_few : (s : List ℕ) → Bytes s → length (lists_of s) ≤ 8
unfolding of_grammar
lists_few s b = go (accepted s) refl
  where
    go : (o : Option Reading) → accepted s ≡ o → length (lists_of s) ≤ 8
    go none e = rw e (omega arith)
    go (some r) e =
        let h = short s (ap is_some e) in
        let (r', m) = (grammar_exactly s b h).0 (ap is_some e) in
        let reads : Reads s r' = record { bytes = b; most = h; makes = m } in
        rw (lists_exactly s r' reads) (few reads)
