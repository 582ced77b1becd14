-- What the contract of a private function says of the offsets that it works out.
use Rattle.std.specs.Prelude.{◌≤◌}
use Rattle.capture.specs.declared.Offsets.{Offsets}

-- each part ends at or behind its begin
pub record Rising (o : Offsets) : Type 0 where
  pub window : o.window ≤ o.heap
  pub heap : o.heap ≤ o.sinit
  pub sinit : o.sinit ≤ o.policy_record
  pub policy_record : o.policy_record ≤ o.end
