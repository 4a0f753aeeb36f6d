use Rattle.iox_wire_laws.proofs.WireShows.NextPrograms.{next_programs_fit}
use Rattle.iox_wire_laws.proofs.wire_shows.next_programs_fit.Goals as goal

pub returns : goal.returns
returns c = next_programs_fit
