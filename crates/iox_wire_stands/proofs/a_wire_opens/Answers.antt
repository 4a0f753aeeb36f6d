use Rattle.iox_wire_stands.proofs.Openings.{a_wire_opens}
use Rattle.iox_wire_stands.proofs.a_wire_opens.Goals as goal

pub returns : goal.returns
returns c = a_wire_opens
