use Rattle.iox_nodes.specs.Shown.{given_for}
use Rattle.iox_nodes.proofs.Leading.{if_ok}
use Rattle.iox_nodes.proofs.service.Service.list_servers.Goals as goal

pub returns : goal.returns
returns g c =
    rw (← c.self.view_is)
    (if_ok c.list_ports.result (λ numbers are. are (given_for c.self.inside.members.members)) c.list_ports.ensures)
