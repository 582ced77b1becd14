-- `check` meets its contract: 30 for what is no capture, and else the answer for its parts.
use mathlib.Core.Path.{◌∙◌}
use Rattle.capture.proofs.Conditions.{no_capture, a_capture, counted, whole}
use native.Mathlib.Omega.{arith}
use Rattle.capture.proofs.check.Goals as goal

pub returns-then-not-holds : goal.returns-then-not-holds
returns-then-not-holds c =
    let r = no_capture c.args.s.now _ c.holds.ensures c.if-not-holds.true _ c.args.pages.now in
    record { answer = c.from.ensures ∙ r.0; places = r.1 }

pub slice_bounds-check-end : goal.slice_bounds-check-end
slice_bounds-check-end c =
    omega (arith, whole _ _ c.holds.ensures c.if-not-holds.false _ c.offsets_in-at.ensures.0)

pub slice_bounds-check-end-2 : goal.slice_bounds-check-end-2
slice_bounds-check-end-2 c =
    omega (arith, whole _ _ c.holds.ensures c.if-not-holds.false _ c.offsets_in-at.ensures.0)

pub slice_bounds-check-end-3 : goal.slice_bounds-check-end-3
slice_bounds-check-end-3 c =
    omega (arith, whole _ _ c.holds.ensures c.if-not-holds.false _ c.offsets_in-at.ensures.0)

pub slice_bounds-check-end-4 : goal.slice_bounds-check-end-4
slice_bounds-check-end-4 c =
    omega (arith, whole _ _ c.holds.ensures c.if-not-holds.false _ c.offsets_in-at.ensures.0)

pub platform-requires : goal.platform-requires
platform-requires c =
    counted _ _ c.holds.ensures c.if-not-holds.false

pub returns : goal.returns
returns c =
    let said = a_capture _ _ c.holds.ensures c.if-not-holds.false _ _ c.offsets_in-at.ensures.0 c.platform.ensures _ _ _
    c.check.ensures.answer c.check.ensures.places in
    record { answer = said.0; places = said.1 }
