use Rattle.std.proofs.Common.{ap, ◌∙◌}
use Rattle.iox_nodes.specs.Shown.{service_of}
use Rattle.iox_nodes.proofs.service.Service.is_closed.Goals as goal

pub returns : goal.returns
returns g c = c.is_closed.ensures ∙ ap (λ v. (service_of v).members.closed) c.self.view_is
