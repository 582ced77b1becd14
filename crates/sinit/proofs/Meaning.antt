-- The answer gives the values exactly where every rule holds, and a number exactly where it is that of the first rule that is broken.
use Prim.Native.Nat.{ℕ, ◌<◌}
use mathlib.Core.Path.{◌≡◌, sym}
use mathlib.Core.Logic.{◌↔◌}
use mathlib.Core.Bool.{true}
use mathlib.Core.List.{List}
use borrow.Author.Tests.{leb-true, le-leb}
use lib.Dec.{lit<}
use Rattle.std.specs.Prelude.{Ok, Err}
use Rattle.rules.specs.Rules.{Rule, first_failing}
use Rattle.rules.specs.Meaning.{Meaning, AllSay}
use Rattle.rules.proofs.Tests.{◌&◌}
use Rattle.rules.proofs.Meaning.{Agree, agrees, all_mean}
use Rattle.rules.proofs.Refusals.{value_by, refused_by, number_by, refused_means}
use Rattle.sinit.specs.declared.Chipset.{Chipset}
use Rattle.sinit.specs.declared.ModuleData.{ModuleData}
use Rattle.sinit.specs.Rules.{supported, rules, values_of, module_of}
use Rattle.sinit.specs.Meaning.{Supported, ModuleHolds, meanings, NumberIsFirst, AcceptedExactly, RefusedExactly}
use Rattle.sinit.proofs.Conditions.{place_exactly, header_exactly, gdt_exactly, entry_exactly, selector_exactly, table_exactly, list_exactly, listed_exactly}

supported_exactly : (m : List ℕ) (os_sinit_data : ℕ) → (supported m os_sinit_data ≡ true) ↔ Supported m os_sinit_data
unfolding supported
supported_exactly m os_sinit_data = (leb-true _ _, le-leb _ _)

module _ (m : List ℕ) (base capacity : ℕ) (c : Chipset) (os_sinit_data : ℕ) where
  pub agree : Agree (rules m base capacity c os_sinit_data) (meanings m base capacity c os_sinit_data)
  agree =
      agrees (lit< tt) (place_exactly m base capacity)
      & agrees (lit< tt) (header_exactly m)
      & agrees (lit< tt) (gdt_exactly m)
      & agrees (lit< tt) (entry_exactly m)
      & agrees (lit< tt) (selector_exactly m)
      & agrees (lit< tt) (table_exactly m)
      & agrees (lit< tt) (list_exactly m)
      & agrees (lit< tt) (listed_exactly m c)
      & agrees (lit< tt) (supported_exactly m os_sinit_data)
      & tt

  pub holds_exactly : AllSay (meanings m base capacity c os_sinit_data) ↔ ModuleHolds m base capacity c os_sinit_data
  holds_exactly = (
    λ h. record {
      place = h.0;
      header = h.1.0;
      gdt = h.1.1.0;
      entry = h.1.1.1.0;
      selector = h.1.1.1.1.0;
      table = h.1.1.1.1.1.0;
      list = h.1.1.1.1.1.1.0;
      listed = h.1.1.1.1.1.1.1.0;
      supported = h.1.1.1.1.1.1.1.1.0;
    },
    λ h. h.place & h.header & h.gdt & h.entry & h.selector & h.table & h.list & h.listed & h.supported & tt,
  )

  abbrev rs : List Rule
  rs = rules m base capacity c os_sinit_data

  abbrev ps : List Meaning
  ps = meanings m base capacity c os_sinit_data

  -- no rule fails exactly where every rule holds
  pub all_hold : (first_failing rs ≡ 0) ↔ ModuleHolds m base capacity c os_sinit_data
  all_hold =
      let say = all_mean rs ps agree in
      (λ e. holds_exactly.0 (say.0 e), λ h. say.1 (holds_exactly.1 h))

  -- where the values are answered, no rule fails, and they are those of the module; a number is that of the first rule that fails
  pub values_exactly : (values : ModuleData) → (module_of m base capacity c os_sinit_data ≡ Ok values) ↔ ((first_failing rs ≡ 0) × (values ≡ values_of m))
  unfolding module_of
  values_exactly values =
      let answer = value_by (values_of m) values (first_failing rs) in
      (λ e. let h = answer.0 e in (h.0, sym h.1), λ h. answer.1 (h.0, sym h.1))

  pub refusal_exactly : (n : ℕ) → (module_of m base capacity c os_sinit_data ≡ Err n) ↔ ((0 < n) × (first_failing rs ≡ n))
  unfolding module_of
  refusal_exactly n = refused_by (values_of m) (first_failing rs) n

pub number_is_first : NumberIsFirst
unfolding module_of
number_is_first m base capacity c os_sinit_data = number_by (values_of m) (first_failing (rs m base capacity c os_sinit_data))

pub accepted_exactly : AcceptedExactly
accepted_exactly m base capacity c os_sinit_data values =
    let answer = values_exactly m base capacity c os_sinit_data values in
    let hold = all_hold m base capacity c os_sinit_data in
    (λ e. let h = answer.0 e in (hold.0 h.0, h.1), λ h. answer.1 (hold.1 h.0, h.1))

pub refused_exactly : RefusedExactly
unfolding module_of
refused_exactly m base capacity c os_sinit_data n =
    refused_means (values_of m) (rs m base capacity c os_sinit_data) (ps m base capacity c os_sinit_data) (agree m base capacity c os_sinit_data) n
