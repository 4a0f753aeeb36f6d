use Rattle.iox_members.proofs.Keeping.{are-registered}
use Rattle.iox_members.proofs.members.Members.dynamic_config.Goals as goal

pub returns-clause-registered : goal.returns-clause-registered
returns-clause-registered c =
    rw (← c.self.view_is)
    (are-registered c.self.inside.nodes.items c.self.inside.joins c.self.inside.most c.self.inside.registered c.self.invariant)
