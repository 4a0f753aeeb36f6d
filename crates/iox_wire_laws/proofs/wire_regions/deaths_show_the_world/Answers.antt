use Rattle.iox_wire_laws.proofs.WireRegions.BeginsShow.{deaths_show_the_world}
use Rattle.iox_wire_laws.proofs.wire_regions.deaths_show_the_world.Goals as goal

pub returns : goal.returns
returns c = deaths_show_the_world
