use Rattle.iox_wire_laws.proofs.WireShows.OwnedWorlds.{owned_steps_go_on}
use Rattle.iox_wire_laws.proofs.WireShows.OwnedCalls.{owned_calls_own_places}
use Rattle.iox_wire_laws.proofs.WireShows.OwnedSteps.{steps_own_the_next_place}
use Rattle.iox_wire_laws.proofs.wire_shows.calls_own_their_places.Goals as goal

pub returns-clause-places : goal.returns-clause-places
returns-clause-places c = owned_calls_own_places

pub returns-clause-steps : goal.returns-clause-steps
returns-clause-steps c = steps_own_the_next_place

pub returns-clause-shown : goal.returns-clause-shown
returns-clause-shown c = owned_steps_go_on
