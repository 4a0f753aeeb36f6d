use Rattle.iox_wire_laws.proofs.WireShows.Ids.{ids_stay_small, new_requests_are_small}
use Rattle.iox_wire_laws.proofs.wire_shows.ids_stay_small.Goals as goal

pub returns-clause-ids : goal.returns-clause-ids
returns-clause-ids c = ids_stay_small

pub returns-clause-new : goal.returns-clause-new
returns-clause-new c = new_requests_are_small
