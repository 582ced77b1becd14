-- The state holds the bytes of the pages before the one that the loop has come to, so at the end it holds those of all pages.
use Prim.Native.Nat.{ℕ, ◌+◌}
use mathlib.Core.Path.{◌≡◌, ◌∙◌}
use mathlib.Core.List.{List}
use native.Mathlib.Omega.{arith}
use borrow.Author.Rules.{rules}
use Rattle.sha256.specs.declared.Running.{Running}
use Rattle.sha256.specs.State.{Absorbed, Holds}
use Rattle.sha256.proofs.Parts.{start_holds, absorb_holds, finish_holds}
use Rattle.mle.specs.declared.Image.{Image}
use Rattle.mle.specs.Image.{address_at, bytes_at, bytes_from, image_digest}
use Rattle.mle.proofs.Pages.{bytes_nothing, bytes_more}
use Rattle.mle.proofs.linear.digest.Goals as goal

-- one page more
more : (w : List ℕ) (image : Image) (s r : Running) (l k a : ℕ) (page : List ℕ) → Holds s (bytes_from w image l k)
    → a ≡ address_at w image (l + k) → page ≡ bytes_at w image a → Absorbed s page r → Holds r (bytes_from w image l (k + 1))
more w image s r l k a page holds e f done =
    rw (← bytes_more w image l k, ← e, ← f) (absorb_holds s r _ page holds done)

pub loop-k-init : goal.loop-k-init
loop-k-init c = rw (bytes_nothing, c.start-state.ensures) start_holds

pub loop-k-preserved : goal.loop-k-preserved
loop-k-preserved c = search (rules, more)

pub returns : goal.returns
unfolding image_digest
returns c =
    let image = c.args.image in
    let e : c.loop-k.k ≡ image.count = omega arith in
    c.finish.ensures ∙ finish_holds _ _ (rw e at c.loop-k.invariant)
