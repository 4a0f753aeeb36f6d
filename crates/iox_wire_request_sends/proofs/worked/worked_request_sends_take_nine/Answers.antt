use Rattle.std.specs.Prelude.{refl}
use Rattle.iox_wire_request_sends.proofs.worked.worked_request_sends_take_nine.Goals as goal

pub returns : goal.returns
returns c = (refl, refl, refl, refl, refl, refl, refl, refl)
