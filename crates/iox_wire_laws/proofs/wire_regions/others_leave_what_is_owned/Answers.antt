use Rattle.iox_wire_laws.proofs.WireRegions.OwnedOthers.{others_leave_owned}
use Rattle.iox_wire_laws.proofs.wire_regions.others_leave_what_is_owned.Goals as goal

pub returns : goal.returns
returns c = others_leave_owned
