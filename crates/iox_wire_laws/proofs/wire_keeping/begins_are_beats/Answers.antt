use Rattle.iox_wire_laws.proofs.WireKeeping.BeginBeats.{refusals_are_the_machines, begins_are_beats}
use Rattle.iox_wire_laws.proofs.wire_keeping.begins_are_beats.Goals as goal

pub returns-clause-refused : goal.returns-clause-refused
returns-clause-refused c = refusals_are_the_machines

pub returns-clause-beat : goal.returns-clause-beat
returns-clause-beat c = begins_are_beats
