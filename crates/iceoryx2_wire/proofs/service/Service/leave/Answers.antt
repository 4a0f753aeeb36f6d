use Rattle.std.proofs.Common.{ap}
use Rattle.iceoryx2_wire.proofs.Comparing.{if_err, with_nodes}
use Rattle.iceoryx2_wire.proofs.service.Service.leave.Goals as goal

pub returns-clause-done : goal.returns-clause-done
returns-clause-done g c = rw (← c.self.view_is) c.leave.ensures.done

pub returns-clause-unchanged : goal.returns-clause-unchanged
returns-clause-unchanged g c =
    rw (← c.self.view_is)
    (if_err c.leave.result (ap (with_nodes c.self.inside.identity c.self.inside.description)) c.leave.ensures.unchanged)
