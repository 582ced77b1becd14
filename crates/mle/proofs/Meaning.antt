-- The tests of rules 12 and 22 hold exactly where what the rules say is so.
use Prim.Native.Nat.{ℕ, ◌≤◌}
use mathlib.Core.Path.{◌≡◌, ap}
use mathlib.Core.Logic.{◌↔◌}
use mathlib.Core.Bool.{true, and-eq-true_iff}
use mathlib.Core.List.{List}
use native.Mathlib.Omega.{arith}
use borrow.Author.Tests.{leb-true, le-leb, ltb-true, lt-ltb, eqb-true, eq-eqb}
use lib.ListN.{length, length-take}
use Rattle.field.proofs.Laws.{marked_at_lem}
use Rattle.rules.specs.Rules.{all}
use Rattle.rules.proofs.Tests.{◌&◌, each}
use Rattle.mle.specs.declared.Image.{Image}
use Rattle.mle.specs.Header.{size_tests, mapped, place_tests, uuid, field_tests, header_tests}
use Rattle.mle.specs.Meaning.{Mapped, Place, Fields, SizeExactly, HeaderExactly}

pub size_exactly : SizeExactly
unfolding size_tests
size_exactly mleSize = (
  λ e.
      let t = (each _).0 e in
      record { some = ltb-true _ _ t.0; whole = eqb-true _ _ t.1.0; most = leb-true _ _ t.1.1.0 },
  λ h. (each _).1 (lt-ltb _ _ h.some & eq-eqb _ _ h.whole & le-leb _ _ h.most & tt),
)

module _ (image : Image) where
  pub mapped_exactly : (a : ℕ) → (mapped image a ≡ true) ↔ Mapped image a
  mapped_exactly a = (
    λ e. let t = (and-eq-true_iff _ _).0 e in record { from = leb-true _ _ t.0; to = ltb-true _ _ t.1 },
    λ h. (and-eq-true_iff _ _).1 (le-leb _ _ h.from, lt-ltb _ _ h.to),
  )

  pub place_exactly : (base : ℕ) → (all (place_tests image base) ≡ true) ↔ Place image base
  unfolding place_tests
  place_exactly base = (
    λ e. let t = (each _).0 e in record { mapped_base = (mapped_exactly _).0 t.0; offset_most = leb-true _ _ t.1.0 },
    λ h. (each _).1 ((mapped_exactly _).1 h.mapped_base & le-leb _ _ h.offset_most & tt),
  )

  -- a header that bears the mark has its bytes
  pub bears : (h : List ℕ) (mleSize min_mle_header_ver : ℕ) → Fields h image mleSize min_mle_header_ver → length uuid ≤ length h
  bears h mleSize min_mle_header_ver f = omega (arith, length-take (length uuid) h, ap length f.marked)

  pub fields_exactly : (h : List ℕ) (mleSize min_mle_header_ver : ℕ)
      → (all (field_tests h image mleSize min_mle_header_ver) ≡ true) ↔ Fields h image mleSize min_mle_header_ver
  unfolding field_tests
  fields_exactly h mleSize min_mle_header_ver = (
    λ e.
        let t = (each _).0 e in
        record {
          marked = ((marked_at_lem _ _ _).0 t.0).1;
          header_least = leb-true _ _ t.1.0;
          version_least = leb-true _ _ t.1.1.0;
          mapped_entry = (mapped_exactly _).0 t.1.1.1.0;
          first_page = eqb-true _ _ t.1.1.1.1.0;
          ordered = leb-true _ _ t.1.1.1.1.1.0;
          whole = eqb-true _ _ t.1.1.1.1.1.1.0;
        },
    λ f. (each _).1
        ((marked_at_lem _ _ _).1 (bears h mleSize min_mle_header_ver f, f.marked)
        & le-leb _ _ f.header_least
        & le-leb _ _ f.version_least
        & (mapped_exactly _).1 f.mapped_entry
        & eq-eqb _ _ f.first_page
        & le-leb _ _ f.ordered
        & eq-eqb _ _ f.whole
        & tt),
  )

pub header_exactly : HeaderExactly
unfolding header_tests
header_exactly w image base mleSize min_mle_header_ver = (
  λ e.
      let t = (each _).0 e in
      record { place = (place_exactly image base).0 t.0; fields = (fields_exactly image _ _ _).0 t.1.0 },
  λ h. (each _).1 ((place_exactly image base).1 h.place & (fields_exactly image _ _ _).1 h.fields & tt),
)
