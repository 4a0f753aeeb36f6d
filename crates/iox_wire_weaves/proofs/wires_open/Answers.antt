use Rattle.iox_wire_weaves.proofs.Opened.{wires_open}
use Rattle.iox_wire_weaves.proofs.wires_open.Goals as goal

pub returns : goal.returns
returns c = wires_open
