use Rattle.iox_wire_laws.proofs.WireOwners.FirmOwners.{others_leave_firm}
use Rattle.iox_wire_laws.proofs.wire_owners.others_leave_what_is_firm.Goals as goal

pub returns : goal.returns
returns c = others_leave_firm
