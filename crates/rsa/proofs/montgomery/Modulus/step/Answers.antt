-- `step` meets its contract: two rows are added, the lowest word is then 0, and the words are moved one place down.
use Prim.Native.Nat.{ℕ, ◌%◌, ◌^◌}
use mathlib.Core.Path.{ap, ◌∙◌}
use Rattle.rsa.proofs.Products.{stepped, odd_words}
use borrow.Author.Rules.{rules}
use Rattle.rsa.proofs.montgomery.Modulus.step.Goals as goal

pub returns : goal.returns
returns c =
    let a = c.args in
    let row₁ = c.row-c in
    let low₁ = c.low-m in
    let row₂ = c.row-d in
    let sum₂ = c.accumulated-sum in
    let low₂ = c.low in
    let shifted = c.shift in
    stepped a.self.now.words.now a.t.now row₁.new.t row₂.new.t shifted.new.t a.b.now a.top a.x a.self.now.inverse row₁.result low₁.result
    row₂.result c.requires.0 (odd_words a.self.now.words.now a.self.now.odd) a.self.now.negative c.requires.1 row₁.auto.t row₂.auto.t row₁.ensures
    (low₁.ensures ∙ ap (λ (z : ℕ). z % 2 ^ 32) c.accumulated.ensures) row₂.ensures
    sum₂.result low₂.result c.high.result c.ranges.x.fits (search rules)
    sum₂.ensures low₂.ensures c.high.ensures shifted.ensures
