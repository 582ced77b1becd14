-- The tests of a capture say what its propositions say, and its parts are the bytes between their offsets.
use Prim.Native.Nat.{ℕ, ◌+◌, ◌-◌, ◌≤◌}
use mathlib.Core.Path.{◌≡◌, refl, sym, ◌∙◌, ap}
use mathlib.Core.Bool.{Bool, true, false, cond}
use mathlib.Core.Logic.{◌↔◌, ◌⊎◌}
use mathlib.Core.List.{List, []}
use native.Mathlib.Omega.{arith}
use borrow.Author.Tests.{leb-true, le-leb, eqb-true, eq-eqb}
use lib.ListN.{length, take, drop}
use Rattle.field.proofs.Laws.{marked_at_lem}
use Rattle.rules.specs.Rules.{all}
use Rattle.rules.proofs.Tests.{◌&◌, each, eqb_exactly, or_exactly}
use Rattle.launch.specs.declared.Platform.{Platform}
use Rattle.answer.specs.declared.Answer.{Answer}
use Rattle.answer.specs.Answer.{refused}
use Rattle.launch.specs.Rules.{Input, input_of, most_reserved}
use Rattle.launch.specs.Answer.{answer_of, places_of}
use Rattle.launch.proofs.Demand1.{demand1}
use Rattle.capture.specs.declared.Offsets.{Offsets}
use Rattle.capture.specs.Capture.{version, known_version, range_count, numbers_at, reserved_of, platform_with, lengths_at, offsets_from, capture_tests, CaptureExactly, not_capture, input_in, capture_answer, capture_places, NumberMost, VersionOne}

pub known_exactly : (v : ℕ) → (known_version v ≡ true) ↔ ((v ≡ 1) ⊎ (v ≡ 2))
known_exactly v = or_exactly (eqb_exactly v 1) (eqb_exactly v 2)

pub capture_exactly : CaptureExactly
unfolding capture_tests
capture_exactly s = (
  λ e.
      let t = (each _).0 e in
      record {
        known = (known_exactly (version s)).0 t.0;
        counted = leb-true _ _ t.1.0;
        least = leb-true _ _ t.1.1.0;
        most = leb-true _ _ t.1.1.1.0;
        marked = ((marked_at_lem _ _ _).0 t.1.1.1.1.0).1;
        whole = eqb-true _ _ t.1.1.1.1.1.0;
      },
  λ h. (each _).1
      ((known_exactly (version s)).1 h.known
      & le-leb _ _ h.counted
      & le-leb _ _ h.least
      & le-leb _ _ h.most
      & (marked_at_lem _ _ _).1 (omega (arith, h.least), h.marked)
      & eq-eqb _ _ h.whole
      & tt),
)

-- the parts between the offsets that were worked out
module _ (s : List ℕ) (o : Offsets) (p : Platform) (n : ℕ) where
  abbrev lent : Input
  lent =
      input_of
      (take (o.heap - o.window) (drop o.window s))
      (take (o.sinit - o.heap) (drop o.heap s))
      (take (o.policy_record - o.sinit) (drop o.sinit s))
      (take (o.end - o.policy_record) (drop o.policy_record s))
      (take 0 s)
      p
      n

  after : (a b : ℕ) → a + b - a ≡ b
  after a b = omega arith

  parts : o ≡ offsets_from s (lengths_at s) → p ≡ platform_with s (reserved_of s) → lent ≡ input_in s n
  parts e f = rw (e, f) (simp after)

-- the answer and the page list of a string that is no capture, and of one that is
module _ (s : List ℕ) (t : Bool) (is-test : t ≡ all (capture_tests s)) where
  pub no_capture : t ≡ false → (n : ℕ) (places : List ℕ) → (refused not_capture 0 ≡ capture_answer s n) × (places ≡ capture_places s places)
  unfolding capture_answer capture_places
  no_capture h n places = rw (← is-test, h) (refl, refl)

  pub a_capture : t ≡ true → (o : Offsets) (p : Platform) → o ≡ offsets_from s (lengths_at s) → p ≡ platform_with s (reserved_of s) → (places : List ℕ) (r : Answer) (later : List ℕ)
      → r ≡ answer_of (lent s o p (length places)) → later ≡ places_of (lent s o p (length places)) places
      → (r ≡ capture_answer s (length places)) × (later ≡ capture_places s places)
  unfolding capture_answer capture_places
  a_capture h o p e f places r later x y =
      let l = parts s o p (length places) e f in
      rw (← is-test, h) (x ∙ ap answer_of l, y ∙ ap (λ (i : Input). places_of i places) l)

  pub counted : t ≡ true → range_count s ≤ most_reserved
  counted h = ((capture_exactly s).0 (sym is-test ∙ h)).counted

  pub whole : t ≡ true → (o : Offsets) → o ≡ offsets_from s (lengths_at s) → o.end ≡ length s
  whole h o e = ap (λ (x : Offsets). x.end) e ∙ ((capture_exactly s).0 (sym is-test ∙ h)).whole

-- with version 1 there is no range, and the lengths follow the chipset revision
pub version_one : VersionOne
unfolding all capture_answer capture_places capture_tests lengths_at reserved_of range_count numbers_at
version_one s places e = rw e (refl, refl)

pub number_most : NumberMost
unfolding capture_answer
number_most s n = by (all (capture_tests s))
  where
    by : (t : Bool) → (cond t (answer_of (input_in s n)) (refused not_capture 0)).number ≤ not_capture
    by true = omega (arith, (demand1 (input_in s n) []).most)
    by false = omega arith
