-- Neither steps nor begins change the ports of a node.
use Rattle.iox_wire_begins.proofs.BeginCounts.{begins_alike}
use Rattle.iox_wire_begins.proofs.CountLemmas.{CountsAlike, PortsAlike}
use Rattle.iox_wire_begins.proofs.EndCounts.{steps_alike}
use Rattle.iox_wire_begins.specs.Begins.{begin}
use Rattle.iox_wire_begins.specs.Steps.{next}
use Rattle.iox_wire_nodes.specs.Ports.{BeginsKeepPorts, StepsKeepPorts}

pub steps_keep_ports : StepsKeepPorts
steps_keep_ports p x seen =
    let alike : PortsAlike x (next p x seen) = steps_alike p x seen in
    record { ports = alike.ports; sends = alike.sends; ways = alike.ways }

pub begins_keep_ports : BeginsKeepPorts
begins_keep_ports p x call =
    let counts : CountsAlike x (begin p x call) = begins_alike p x call in
    record { ports = counts.alike.ports; sends = counts.alike.sends; ways = counts.alike.ways }
