use Rattle.iox_wire_weaves.proofs.BeginsShown.{begins_show}
use Rattle.iox_wire_weaves.proofs.begins_show.Goals as goal

pub returns : goal.returns
returns c = begins_show
