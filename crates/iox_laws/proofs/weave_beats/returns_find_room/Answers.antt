use Rattle.iox_laws.proofs.WeaveBeats.Rooms.{returns_find_room}
use Rattle.iox_laws.proofs.weave_beats.returns_find_room.Goals as goal

pub returns : goal.returns
returns c = record { room = returns_find_room }
