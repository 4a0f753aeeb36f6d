use Rattle.iox_nodes.proofs.Questions.{has_so}
use Rattle.iox_nodes.proofs.service.Service.has.Goals as goal

pub returns : goal.returns
returns g c =
    rw (← c.self.view_is)
    (has_so c.self.inside.members.members c.self.inside.hub c.args.node c.args.number c.args.kind c.has.result c.has.ensures)
