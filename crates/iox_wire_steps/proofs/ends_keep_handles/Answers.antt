use Rattle.iox_wire_steps.proofs.EndLaws.{ends_keep_released, ends_keep_states}
use Rattle.iox_wire_steps.proofs.ends_keep_handles.Goals as goal

pub returns-clause-released : goal.returns-clause-released
returns-clause-released c = ends_keep_released

pub returns-clause-states : goal.returns-clause-states
returns-clause-states c = ends_keep_states
