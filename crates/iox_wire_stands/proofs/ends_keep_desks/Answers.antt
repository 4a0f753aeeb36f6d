use Rattle.iox_wire_stands.proofs.EndsKept.{ends_keep_desks}
use Rattle.iox_wire_stands.proofs.ends_keep_desks.Goals as goal

pub returns : goal.returns
returns c = ends_keep_desks
