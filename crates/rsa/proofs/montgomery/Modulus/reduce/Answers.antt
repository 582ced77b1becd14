-- `reduce` meets its contract: a number below 2 * n is its remainder, or n more.
use Rattle.rsa.proofs.Products.{reduce_none, reduce_low, reduce_high}
use mathlib.Core.Path.{sym, ◌∙◌}
use borrow.Author.Tests.{ltb-true, ltb-false}
use borrow.Author.Rules.{rules}
use Rattle.rsa.proofs.montgomery.Modulus.reduce.Goals as goal

pub returns-then-less : goal.returns-then-less
returns-then-less c =
    let a = c.args in
    reduce_none a.self.now.words.now a.t.now a.top c.if-top-eq0.true (ltb-true _ _ (sym c.less.ensures ∙ c.if-less.true))

pub returns-then-top-eq0 : goal.returns-then-top-eq0
returns-then-top-eq0 c =
    let a = c.args in
    let d = c.subtract in
    reduce_low a.self.now.words.now a.t.now d.new.t a.top d.result c.requires.0 d.auto.t
    c.args.self.now.fit (λ i. search rules) (λ i. (c.type_inv.t i).fits) c.requires.1
    d.ensures c.if-top-eq0.true (ltb-false _ _ (sym c.less.ensures ∙ c.if-less.false))

pub returns : goal.returns
returns c =
    let a = c.args in
    let d = c.subtract-2 in
    reduce_high a.self.now.words.now a.t.now d.new.t a.top d.result c.requires.0 d.auto.t
    c.args.self.now.fit (λ i. search rules) (λ i. (c.type_inv.t i).fits) c.requires.1
    d.ensures c.if-top-eq0.false
