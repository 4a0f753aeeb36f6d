use Rattle.iox_tables.proofs.HubLending.Bared.{holders_may_come_back_first}
use Rattle.iox_tables.proofs.HubLending.Chosen.{free_lanes_are_own, free_slots_have_lanes, free_slots_may_take_loans}
use Rattle.iox_tables.proofs.hub_lending.choosing.Goals as goal

pub returns-clause-slots : goal.returns-clause-slots
returns-clause-slots c = free_slots_may_take_loans

pub returns-clause-some : goal.returns-clause-some
returns-clause-some c = free_slots_have_lanes

pub returns-clause-lanes : goal.returns-clause-lanes
returns-clause-lanes c = free_lanes_are_own

pub returns-clause-shown : goal.returns-clause-shown
returns-clause-shown c = holders_may_come_back_first
