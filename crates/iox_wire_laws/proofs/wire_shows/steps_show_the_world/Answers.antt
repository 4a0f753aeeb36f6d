use Rattle.iox_wire_laws.proofs.WireShows.StepsShow.{steps_show_the_world}
use Rattle.iox_wire_laws.proofs.wire_shows.steps_show_the_world.Goals as goal

pub returns : goal.returns
returns c = steps_show_the_world
