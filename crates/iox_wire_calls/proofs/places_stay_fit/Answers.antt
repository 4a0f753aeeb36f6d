use Rattle.iox_wire_calls.proofs.PlaceBegins.{begins_fit}
use Rattle.iox_wire_calls.proofs.PlaceEnds.{ends_fit}
use Rattle.iox_wire_calls.proofs.PlaceSteps.{accesses_fit}
use Rattle.iox_wire_calls.proofs.places_stay_fit.Goals as goal

pub returns-clause-begins : goal.returns-clause-begins
returns-clause-begins c = begins_fit

pub returns-clause-accesses : goal.returns-clause-accesses
returns-clause-accesses c = accesses_fit

pub returns-clause-ends : goal.returns-clause-ends
returns-clause-ends c = ends_fit
