use Rattle.iox_wire_laws.proofs.WireRegions.BeginsShow.{begins_show_the_world}
use Rattle.iox_wire_laws.proofs.wire_regions.begins_show_the_world.Goals as goal

pub returns : goal.returns
returns c = begins_show_the_world
