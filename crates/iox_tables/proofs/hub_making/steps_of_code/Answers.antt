use Rattle.iox_tables.proofs.HubMaking.Removing.{new_pipes_have_room, ports_go_one_by_one}
use Rattle.iox_tables.proofs.HubMaking.Rooming.{room_always_stays}
use Rattle.iox_tables.proofs.hub_making.steps_of_code.Goals as goal

pub returns-clause-removals : goal.returns-clause-removals
returns-clause-removals c = ports_go_one_by_one

pub returns-clause-room : goal.returns-clause-room
returns-clause-room c = new_pipes_have_room

pub returns-clause-stays : goal.returns-clause-stays
returns-clause-stays c = room_always_stays
