use Rattle.std.specs.Prelude.{refl}
use Rattle.iox_rows_typed.proofs.long_requests.hub.Goals as goal

pub new-requires-clause-request : goal.new-requires-clause-request
new-requires-clause-request c = record { header = (3, refl); user = (3, refl); element = (3, refl) }

pub new-requires-clause-response : goal.new-requires-clause-response
new-requires-clause-response c = record { header = (3, refl); user = (3, refl); element = (3, refl) }
