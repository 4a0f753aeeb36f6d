use Rattle.iox_laws.proofs.WeaveBeats.Rooms.{deliveries_find_room}
use Rattle.iox_laws.proofs.weave_beats.deliveries_find_room.Goals as goal

pub returns : goal.returns
returns c = record { room = deliveries_find_room }
