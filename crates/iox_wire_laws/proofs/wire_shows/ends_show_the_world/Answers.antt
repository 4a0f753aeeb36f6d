use Rattle.iox_wire_laws.proofs.WireShows.EndsShow.{ends_show_the_world}
use Rattle.iox_wire_laws.proofs.wire_shows.ends_show_the_world.Goals as goal

pub returns : goal.returns
returns c = ends_show_the_world
