use Rattle.iox_wire_stands.proofs.Deaths.{deaths_keep}
use Rattle.iox_wire_stands.proofs.deaths_keep.Goals as goal

pub returns : goal.returns
returns c = deaths_keep
