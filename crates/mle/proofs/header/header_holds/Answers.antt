-- `header_holds` meets its contract: a header that bears the mark and stands at a permitted offset is wholly in its page.
use Prim.Native.Nat.{ℕ, ◌+◌, ◌-◌, ◌≤◌}
use mathlib.Core.Path.{◌≡◌, sym, ◌∙◌, ap}
use mathlib.Core.Logic.{⊎_elim}
use mathlib.Core.Bool.{true≢false}
use mathlib.Core.List.{List}
use native.Mathlib.Nat.{add-sub_cancel_left}
use native.Mathlib.Omega.{arith}
use lib.ListN.{length, take, drop, length-take, length-drop}
use Rattle.rules.proofs.Tests.{fails, agrees, confirmed, refuted, ◌&◌, each}
use Rattle.mle.specs.declared.Image.{Image}
use Rattle.mle.specs.Image.{address_at, bytes_at}
use Rattle.mle.specs.Header.{header_size, last_offset, linear_page, offset, header_bytes, uuid, header_tests}
use Rattle.mle.proofs.Meaning.{bears, header_exactly}
use Rattle.mle.proofs.Pages.{whole_or_none}
use Rattle.mle.proofs.header.header_holds.Goals as goal

module _ (w : List ℕ) (image : Image) (base : ℕ) where
  page : List ℕ
  page = bytes_at w image (address_at w image (linear_page base))

  -- where the first bytes of the header are in its page, the others are
  there : offset base ≤ last_offset → length uuid ≤ length (header_bytes w image base) → offset base + header_size ≤ length page
  unfolding header_bytes page
  there o h =
      ⊎_elim (λ e. omega arith)
      (λ e. absurd (omega (arith, length-take header_size (drop (offset base) page), length-drop (offset base) page)))
      (whole_or_none w image (address_at w image (linear_page base)))

  part : (a : ℕ) (p : List ℕ) → a ≡ address_at w image (linear_page base) → p ≡ bytes_at w image a
      → take (offset base + header_size - offset base) (drop (offset base) p) ≡ header_bytes w image base
  unfolding header_bytes
  part a p e f = rw (add-sub_cancel_left, f, e)

pub returns-then-not-place_holds : goal.returns-then-not-place_holds
unfolding header_tests
returns-then-not-place_holds c = fails (each _) (λ t. refuted _ c.place_holds.ensures c.if-not-place_holds.true t.0)

pub returns-then-page-end : goal.returns-then-page-end
unfolding page
returns-then-page-end c =
    let g = c.args in
    let l = ap length (c.page_bytes-page.ensures ∙ ap (bytes_at g.w.now g.image) c.address.ensures) in
    fails (header_exactly _ _ _ _ _)
    (λ h. omega (arith, l, there g.w.now g.image g.base h.place.offset_most (bears _ _ _ _ h.fields)))

pub returns : goal.returns
unfolding header_tests
returns c =
    let g = c.args in
    let p = part g.w.now g.image g.base _ _ c.address.ensures c.page_bytes-page.ensures in
    let r = rw p at c.fields_hold.ensures in
    agrees _ (each _)
    (λ e. confirmed _ c.place_holds.ensures c.if-not-place_holds.false & (sym r ∙ e) & tt)
    (λ e t. true≢false (sym t.1.0 ∙ sym r ∙ e))
