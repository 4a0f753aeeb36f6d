use Rattle.iox_wire_laws.proofs.WireKeeping.ReturnsFit.{returns_are_not_refused}
use Rattle.iox_wire_laws.proofs.wire_keeping.returns_are_not_refused.Goals as goal

pub returns : goal.returns
returns c = returns_are_not_refused
