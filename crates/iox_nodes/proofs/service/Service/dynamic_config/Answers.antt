use Rattle.std.proofs.Common.{subst}
use Rattle.iox_members.specs.Registering.{AreRegistered}
use Rattle.iox_nodes.specs.Shown.{service_of}
use Rattle.iox_nodes.proofs.service.Service.dynamic_config.Goals as goal

pub returns-clause-registered : goal.returns-clause-registered
returns-clause-registered g c =
    subst (λ v. AreRegistered (service_of v).members v.registry) c.self.view_is c.dynamic_config.ensures.registered
