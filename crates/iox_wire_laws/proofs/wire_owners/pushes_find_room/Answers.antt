use Rattle.iox_wire_laws.proofs.WireOwners.Pushes.{deliveries_are_not_refused}
use Rattle.iox_wire_laws.proofs.WireOwners.PushesTold.{pushes_are_told}
use Rattle.iox_wire_laws.proofs.wire_owners.pushes_find_room.Goals as goal

pub returns-clause-room : goal.returns-clause-room
returns-clause-room c = deliveries_are_not_refused

pub returns-clause-told : goal.returns-clause-told
returns-clause-told c = pushes_are_told
