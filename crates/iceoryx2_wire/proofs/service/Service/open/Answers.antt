use Rattle.std.proofs.Common.{ap}
use Rattle.iceoryx2_wire.proofs.Comparing.{if_err, opened_so, with_nodes}
use Rattle.iceoryx2_wire.proofs.service.Service.open.Goals as goal

pub returns-clause-opened : goal.returns-clause-opened
returns-clause-opened g c =
    rw (← c.self.view_is)
    (opened_so c.self.inside.identity c.self.inside.description c.self.inside.nodes c.join.new.self c.args.types.now c.args.verifier.now c.args.id
    c.opener_refusal-asked.result c.join.result c.opener_refusal-asked.ensures c.join.ensures.joined)

pub returns-clause-unchanged : goal.returns-clause-unchanged
returns-clause-unchanged g c =
    rw (← c.self.view_is)
    (if_err c.join.result (ap (with_nodes c.self.inside.identity c.self.inside.description)) c.join.ensures.unchanged)
