use Rattle.iox_wire_stands.proofs.EndNumbers.{ends_keep_numbers}
use Rattle.iox_wire_stands.proofs.ends_keep_numbers.Goals as goal

pub returns : goal.returns
returns c = ends_keep_numbers
