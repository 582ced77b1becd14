-- `judge_table` meets its contract: its rules in their order.
use mathlib.Core.Path.{refl}
use Rattle.rules.proofs.Refusals.{rule_held, rule_last}
use Rattle.pages.proofs.levels.Walker.judge_table.Goals as goal

pub returns : goal.returns
returns c =
    rule_held _ _ _ _ _ _ c.in_ok-require.ensures refl (rule_last _ _ _ c.require-2.ensures (c.is_table_protected.ensures c.args.self.now.reserved.now))
