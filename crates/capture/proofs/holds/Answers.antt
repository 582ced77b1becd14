-- `holds` meets its contract: its tests are those of a capture.
use mathlib.Core.Path.{◌∙◌, ap, sym}
use native.Mathlib.Omega.{arith}
use borrow.Author.Tests.{eqb-true, eqb-false}
use Rattle.rules.proofs.Tests.{fails, agrees, confirmed, refuted}
use Rattle.field.proofs.Laws.{marked_at_lem}
use Rattle.capture.specs.Capture.{known_version}
use Rattle.capture.proofs.Conditions.{known_exactly, capture_exactly}
use Rattle.capture.proofs.holds.Goals as goal

pub returns-then-not-is_known : goal.returns-then-not-is_known
returns-then-not-is_known c =
    let known = c.is_known.ensures ∙ ap known_version c.version.ensures in
    fails (capture_exactly _) (λ h. refuted _ known c.if-not-is_known.true ((known_exactly _).1 h.known))

pub returns-then-range_count-gt-MOST_RESERVED : goal.returns-then-range_count-gt-MOST_RESERVED
returns-then-range_count-gt-MOST_RESERVED c = fails (capture_exactly _) (λ h. omega (arith, c.range_count.ensures.0, h.counted))

pub returns-then-s-gt-LARGEST : goal.returns-then-s-gt-LARGEST
returns-then-s-gt-LARGEST c = fails (capture_exactly _) (λ h. omega (arith, h.most))

pub returns-then-not-marked : goal.returns-then-not-marked
returns-then-not-marked c = fails (capture_exactly _) (λ h. refuted _ c.marked.ensures c.if-not-marked.true ((marked_at_lem _ _ _).1 (omega (arith, h.least), h.marked)))

pub returns-then-s-at : goal.returns-then-s-at
returns-then-s-at c = fails (capture_exactly _) (λ h. omega (arith, ap (λ x. x.window) c.offsets_in-at.ensures.0, h.least))

pub returns : goal.returns
returns c =
    let o = c.offsets_in-at.ensures.0 in
    agrees _ (capture_exactly _)
    (λ e.
    record {
      known = (known_exactly _).0 (confirmed _ (c.is_known.ensures ∙ ap known_version c.version.ensures) c.if-not-is_known.false);
      counted = omega (arith, c.range_count.ensures.0);
      least = omega (arith, ap (λ x. x.window) o);
      most = omega arith;
      marked = ((marked_at_lem _ _ _).0 (confirmed _ c.marked.ensures c.if-not-marked.false)).1;
      whole = sym (ap (λ x. x.end) o) ∙ eqb-true _ _ e;
    })
    (λ e h. eqb-false _ _ e (ap (λ x. x.end) o ∙ h.whole))
