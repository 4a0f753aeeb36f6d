use Rattle.iox_wire_laws.proofs.WireHolding.OthersNames.{others_leave_names}
use Rattle.iox_wire_laws.proofs.wire_holding.others_leave_names.Goals as goal

pub returns : goal.returns
returns c = others_leave_names
