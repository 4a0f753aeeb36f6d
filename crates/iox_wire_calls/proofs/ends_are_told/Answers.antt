use Rattle.iox_wire_calls.proofs.EndsKnown.{ends_are_told}
use Rattle.iox_wire_calls.proofs.ends_are_told.Goals as goal

pub returns : goal.returns
returns c = ends_are_told
