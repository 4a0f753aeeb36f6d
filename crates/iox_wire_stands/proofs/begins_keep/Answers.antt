use Rattle.iox_wire_stands.proofs.BeginsWhole.{begins_keep}
use Rattle.iox_wire_stands.proofs.begins_keep.Goals as goal

pub returns : goal.returns
returns c = begins_keep
