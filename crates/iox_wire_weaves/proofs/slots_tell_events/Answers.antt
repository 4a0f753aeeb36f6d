use Rattle.iox_wire_weaves.proofs.EventsTold.{slots_tell_events}
use Rattle.iox_wire_weaves.proofs.slots_tell_events.Goals as goal

pub returns : goal.returns
returns c = slots_tell_events
