use Rattle.iox_wire_weaves.proofs.DeathsShown.{deaths_show}
use Rattle.iox_wire_weaves.proofs.deaths_show.Goals as goal

pub returns : goal.returns
returns c = deaths_show
