use Rattle.iox_laws.proofs.WeaveBeats.Rooms.{records_have_room}
use Rattle.iox_laws.proofs.weave_beats.records_have_room.Goals as goal

pub returns : goal.returns
returns c = record { room = records_have_room }
