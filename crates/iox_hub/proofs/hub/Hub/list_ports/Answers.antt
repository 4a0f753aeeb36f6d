use Rattle.std.proofs.Common.{ap, ◌∙◌}
use Rattle.iox_hub.specs.Hubs.{HubState}
use Rattle.iox_hub.proofs.ListingLemmas.{all_listed}
use Rattle.iox_hub.proofs.hub.Hub.list_ports.Goals as goal

pub returns : goal.returns
returns g c =
    all_listed c.args.self.now c.args.role c.ports.result.now.ports c.list.result
    (c.ports.ensures.ports ∙ ap (λ (h : HubState). h.control.tables.ports) c.self.view_is) c.list.ensures
