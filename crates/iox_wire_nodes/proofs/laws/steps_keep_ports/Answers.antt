use Rattle.iox_wire_nodes.proofs.PortsKept.{steps_keep_ports}
use Rattle.iox_wire_nodes.proofs.laws.steps_keep_ports.Goals as goal

pub returns : goal.returns
returns c = steps_keep_ports
