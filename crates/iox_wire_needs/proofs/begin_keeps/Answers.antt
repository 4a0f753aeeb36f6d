use Rattle.iox_wire_needs.proofs.OwnBegins.{begin_keeps}
use Rattle.iox_wire_needs.proofs.begin_keeps.Goals as goal

pub returns : goal.returns
returns c = begin_keeps
