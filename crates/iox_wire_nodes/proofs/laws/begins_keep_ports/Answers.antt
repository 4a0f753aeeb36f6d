use Rattle.iox_wire_nodes.proofs.PortsKept.{begins_keep_ports}
use Rattle.iox_wire_nodes.proofs.laws.begins_keep_ports.Goals as goal

pub returns : goal.returns
returns c = begins_keep_ports
