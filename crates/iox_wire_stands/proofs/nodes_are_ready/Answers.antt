use Rattle.iox_wire_stands.proofs.Readiness.{nodes_are_ready}
use Rattle.iox_wire_stands.proofs.nodes_are_ready.Goals as goal

pub returns : goal.returns
returns c = nodes_are_ready
