-- What the crate answers.
use Rattle.std.specs.Prelude.{ℕ, cond, List, eqb, Result, Ok, Err}
use Rattle.rules.specs.Rules.{answer_by}
use Rattle.policy_record.specs.declared.PolicyType.{PolicyType}
use Rattle.policy_record.specs.declared.PolicyType.TheVariants as types
use Rattle.policy_record.specs.Record.{policy_type, LIST, record_rules}

-- the kind of policy by its type
abbrev pub kind_of : ℕ → PolicyType
kind_of type = cond (eqb type LIST) types.List types.Any

-- the kind of policy where the rules of the record hold, else the number of the first that fails
unfoldable pub record_of : List ℕ → ℕ → ℕ → Result PolicyType ℕ
record_of r flags acm_version = answer_by Err (Ok (kind_of (policy_type r))) (record_rules r flags acm_version)
