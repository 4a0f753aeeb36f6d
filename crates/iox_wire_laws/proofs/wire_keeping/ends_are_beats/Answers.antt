use Rattle.iox_wire_laws.proofs.WireKeeping.EndBeats.{ends_are_beats}
use Rattle.iox_wire_laws.proofs.wire_keeping.ends_are_beats.Goals as goal

pub returns : goal.returns
returns c = ends_are_beats
