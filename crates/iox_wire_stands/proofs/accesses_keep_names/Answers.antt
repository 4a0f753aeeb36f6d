use Rattle.iox_wire_stands.proofs.NamesFollow.{accesses_keep_names}
use Rattle.iox_wire_stands.proofs.accesses_keep_names.Goals as goal

pub returns : goal.returns
returns c = accesses_keep_names
