use Rattle.std.specs.Prelude.{refl}
use Rattle.iox_wire_locals.proofs.worked_calls_take_so_many_accesses.Goals as goal

pub returns-clause-requests : goal.returns-clause-requests
returns-clause-requests c = (refl, refl, refl)

pub returns-clause-again : goal.returns-clause-again
returns-clause-again c = (refl, refl, refl, refl, refl, refl)

pub returns-clause-looks : goal.returns-clause-looks
returns-clause-looks c = (refl, refl, refl, refl, refl, refl)

pub returns-clause-responses : goal.returns-clause-responses
returns-clause-responses c = (refl, refl, refl)

pub returns-clause-read : goal.returns-clause-read
returns-clause-read c = (refl, refl, refl, refl, refl)
