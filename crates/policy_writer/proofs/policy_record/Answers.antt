-- `policy_record` meets its contract: PolicyHash stands behind the fields.
use mathlib.Core.Path.{refl}
use Rattle.policy_writer.proofs.Answered.{record_made}
use Rattle.policy_writer.proofs.policy_record.Goals as goal

pub returns : goal.returns
returns c = record_made _ _ _ _ _ refl c.well_formed.0.1.0.1 c.well_formed.1.0.1.0.1 c.put_bytes.ensures c.put_bytes-2.ensures
