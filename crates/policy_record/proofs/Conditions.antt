-- The tests of rules 23 to 25 say what the propositions of specs/Meaning.antt say.
use mathlib.Core.Bool.{◌||◌}
use borrow.Author.Tests.{eqb-true, eq-eqb}
use Rattle.rules.proofs.Tests.{◌&◌, each, eqb_exactly, leb_exactly, or_exactly, where_holds}
use Rattle.policy_record.specs.Record.{record_tests, policy_type, LIST, ANY, bit, control, worthy_or_allowed, version_reached}
use Rattle.policy_record.specs.Meaning.{RecordExactly, WorthyOrAllowedExactly, ReachedExactly}

pub record_exactly : RecordExactly
unfolding record_tests
record_exactly r =
    let type = or_exactly (eqb_exactly (policy_type r) LIST) (eqb_exactly (policy_type r) ANY) in (
      λ e.
          let t = (each _).0 e in
          record {
            size = eqb-true _ _ t.0;
            version = eqb-true _ _ t.1.0;
            algorithm = eqb-true _ _ t.1.1.0;
            type = type.0 t.1.1.1.0;
            mask = eqb-true _ _ t.1.1.1.1.0;
          },
      λ h. (each _).1 (eq-eqb _ _ h.size & eq-eqb _ _ h.version & eq-eqb _ _ h.algorithm & type.1 h.type & eq-eqb _ _ h.mask & tt),
    )

pub worthy_or_allowed_exactly : WorthyOrAllowedExactly
unfolding worthy_or_allowed
worthy_or_allowed_exactly flags r =
    where_holds (bit 14 flags || bit 15 flags) (bit 1 (control r)) (or_exactly (eqb_exactly _ _) (eqb_exactly _ _)) (eqb_exactly _ _)

pub reached_exactly : ReachedExactly
unfolding version_reached
reached_exactly acm_version r = leb_exactly _ _
