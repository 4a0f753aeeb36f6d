use Rattle.std.proofs.Common.{subst}
use Rattle.iox_model.specs.Runs.{IsServed}
use Rattle.iox_nodes.specs.Shown.{service_of}
use Rattle.iox_nodes.proofs.service.Service.is_served.Goals as goal

pub returns : goal.returns
returns g c = subst (λ v. IsServed (service_of v)) c.self.view_is c.self.invariant.service.served
