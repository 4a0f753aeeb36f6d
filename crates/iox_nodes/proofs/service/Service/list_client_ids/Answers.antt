use Rattle.iox_nodes.specs.Shown.{given_for}
use Rattle.iox_nodes.proofs.service.Service.list_client_ids.Goals as goal

pub returns : goal.returns
returns g c = rw (← c.self.view_is) (c.list_ids.ensures (given_for c.self.inside.members.members))
