-- `judge_page` meets its contract: a region is left exactly where one holds all from the first page to this one.
use mathlib.Core.Path.{◌≡◌, ap, ◌∙◌}
use Rattle.range.specs.declared.Range.{Range}
use Rattle.range.specs.Range.{inside_of}
use Rattle.rules.specs.Tests.{any}
use Rattle.rules.proofs.Refusals.{rule_held, rule_last}
use Rattle.pages.specs.Memory.{regions, protected}
use Rattle.pages.specs.Inner.{common_of, told}
use Rattle.pages.proofs.Kept.{protected_is}
use Rattle.pages.proofs.levels.Walker.judge_page.Goals as goal

pub returns : goal.returns
returns c =
    let m = told c.args.self.now in
    let is : c.is_protected.result ≡ protected (common_of m c.args.p) c.args.a =
    c.is_protected.ensures c.args.self.now.reserved.now
    ∙ ap (λ (pages : Range). any (inside_of pages) (regions m)) c.pages_to.ensures
    ∙ protected_is c.args.p c.args.a c.requires m in
    rule_held _ _ _ _ _ _ c.in_ok-require.ensures c.page_follows.ensures (rule_last _ _ _ c.require-2.ensures is)
