use Rattle.iox_wire_laws.proofs.WireKeeping.PushesOverflow.{full_pushes_overflow}
use Rattle.iox_wire_laws.proofs.wire_keeping.full_pushes_overflow.Goals as goal

pub returns : goal.returns
returns c = full_pushes_overflow
