use Rattle.iox_wire_stands.proofs.Follows.{accesses_follow}
use Rattle.iox_wire_stands.proofs.accesses_follow.Goals as goal

pub returns : goal.returns
returns c = accesses_follow
