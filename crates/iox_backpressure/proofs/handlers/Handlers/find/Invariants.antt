use Rattle.std.proofs.Common.{◌≡◌}
use Rattle.std.specs.Prelude.{drop}
use Rattle.iox_backpressure.specs.Handlers.{handler_in}
use Rattle.iox_backpressure.proofs.handlers.Handlers.find.Given as goal

-- the handler is not among those that were looked at
abbrev pub invariant-loop-x : goal.invariant-loop-x
invariant-loop-x g l = handler_in (drop l.x-index l.self.list) l.port ≡ handler_in l.self.list l.port
