use Rattle.iox_handles.specs.Places.{is_there_of}
use Rattle.iox_handles.proofs.AnyLemmas.{any_found}
use Rattle.iox_handles.proofs.places.place_of_port.Goals as goal

pub returns : goal.returns
returns c = any_found (is_there_of c.args.port) c.args.places.now c.first_of_port.result c.first_of_port.ensures
