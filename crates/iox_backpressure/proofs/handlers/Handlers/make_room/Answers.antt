use Rattle.std.specs.Prelude.{OnOk, Result, Ok, Err}
use Rattle.std.proofs.Common.{arith}
use Rattle.iox_backpressure.proofs.handlers.Handlers.make_room.Goals as goal

then_so : {A E P Q : Type 0} (r : Result A E) → (P → Q) → OnOk r P → OnOk r Q
then_so (Ok x) f p = f p
then_so (Err e) f p = tt

pub returns-clause-room : goal.returns-clause-room
returns-clause-room g c = then_so c.reserve.result (λ room some. omega (arith, room)) c.reserve.ensures.ok
