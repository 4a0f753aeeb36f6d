use Rattle.std.specs.Prelude.{refl}
use Rattle.iox_wire_copies.proofs.worked.worked_copies_take_nineteen.Goals as goal

pub returns : goal.returns
returns c = (refl, refl, refl, refl, refl, refl, refl)
