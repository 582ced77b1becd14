-- Every case of the table holds: each answer computes to the number expected. An element without digests names none.
use mathlib.Core.Path.{◌≡◌, refl}
use mathlib.Core.Bool.{Bool, true, ◌&&◌, and-eq-true_iff}
use mathlib.Core.List.{List, [], ◌∷◌, flat_map}
use borrow.Author.Tests.{eqb-true}
use lib.Dec.{lit<, lit≤, eqb}
use Rattle.field.specs.Number.{bytes, number}
use Rattle.field.specs.Field.{field_at, value_of, same, marked_at}
use Rattle.range.specs.Range.{inside_of, clear_of, ends_by}
use Rattle.heap.specs.Heap.{bios_data_size, os_mle_data_size, os_sinit_data_size, parts_fit, os_sinit_part, fields_of, version_known, size_fits, ends_within, low_placed, high_placed, pmrs_placed, heap_of}
use Rattle.sinit.specs.Module.{E, row_of}
use Rattle.rules.specs.Rules.{all, answer_for}
use Rattle.sinit.specs.Rules.{some_below, inside, place, header, gdt, entry, selector, table, list, revision_matches, match, listed, supported, module_of}
use Rattle.policy_grammar.specs.Grammar.{digest_length, mark_characters}
use Rattle.policy_grammar.specs.Format as F
use Rattle.policy_grammar.specs.Parser as P
use Rattle.policy_grammar.specs.Layout as L
use Rattle.policy_grammar.specs.Decode as D
use Rattle.decision.specs.Lists.{names}
use Rattle.pages.specs.Entry.{present_of, address_of, reserved_clear}
use Rattle.pages.specs.Memory.{allowed, protected, holding}
use Rattle.pages.specs.Tables.{found_from}
use Rattle.pages.specs.Rules.{follows, rules_from}
use Rattle.proved_cases.specs.Table.{Case, AllCases, cases, NamesNothing, BothSides}
use Rattle.proved_cases.specs.Windows.{entry_of}
use Rattle.proved_cases.proofs.Windows.{window_number}

test : List Case → Bool
test [] = true
test (c ∷ cs) = eqb c.answer c.expected && test cs

tested : (cs : List Case) → test cs ≡ true → AllCases cs
unfolding test
tested [] e = tt
tested (c ∷ cs) e = let p = (and-eq-true_iff _ _).0 e in (eqb-true _ _ p.0, tested cs p.1)

table_holds : AllCases cases
unfolding test flat_map bytes number field_at value_of ends_by bios_data_size os_mle_data_size os_sinit_data_size parts_fit os_sinit_part fields_of version_known size_fits ends_within low_placed high_placed pmrs_placed answer_for heap_of same marked_at inside_of E row_of all some_below inside place header gdt entry selector table list revision_matches match listed supported module_of present_of address_of reserved_clear allowed protected holding clear_of found_from follows rules_from digest_length mark_characters F.◌>>=◌ F.number F.string F.rest F.inside F.times F.many P.after P.continue P.exactly P.read L.digests L.launch L.other L.body L.element L.signed L.signing L.list L.file L.whole D.reading D.accepted
table_holds =
    tested cases
    (rw (
      window_number (entry_of 0x105000 ∷ entry_of 0x104000 ∷ []) (lit≤ tt) (lit< tt, (lit< tt, tt)),
      window_number (entry_of 0x104000 ∷ entry_of 0x105000 ∷ []) (lit≤ tt) (lit< tt, (lit< tt, tt)),
      window_number (entry_of 0x104000 ∷ entry_of 0x104000 ∷ []) (lit≤ tt) (lit< tt, (lit< tt, tt)),
    ))

names_nothing : NamesNothing
unfolding names bytes number digest_length F.◌>>=◌ F.number F.string F.rest F.inside F.times P.after P.continue P.exactly P.read L.digests L.launch L.other L.body L.element
names_nothing k = refl

pub both_sides : BothSides
both_sides = record { table = table_holds; names_nothing = names_nothing }
