use Rattle.iox_wire_laws.proofs.WireOwners.WorkedOwners.{worked_are_released, worked_have_own_states, worked_is_firm, worked_have_room}
use Rattle.iox_wire_laws.proofs.wire_owners.worked_owners.Goals as goal

pub returns-clause-released : goal.returns-clause-released
returns-clause-released c = worked_are_released

pub returns-clause-states : goal.returns-clause-states
returns-clause-states c = worked_have_own_states

pub returns-clause-firm : goal.returns-clause-firm
returns-clause-firm c = worked_is_firm

pub returns-clause-room : goal.returns-clause-room
returns-clause-room c = worked_have_room
