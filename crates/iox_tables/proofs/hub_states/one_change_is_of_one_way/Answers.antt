use Rattle.iox_tables.proofs.HubStates.Steps.{one_lane_is_one_way, one_state_is_one_way}
use Rattle.iox_tables.proofs.hub_states.one_change_is_of_one_way.Goals as goal

pub returns-clause-lanes : goal.returns-clause-lanes
returns-clause-lanes c = one_lane_is_one_way

pub returns-clause-states : goal.returns-clause-states
returns-clause-states c = one_state_is_one_way
