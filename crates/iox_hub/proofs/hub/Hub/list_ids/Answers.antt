use Rattle.std.proofs.Common.{ap, subst, ◌∙◌}
use Rattle.std.specs.Fn.{CalledAt}
use Rattle.iox_attributes.specs.Visits.{VisitsInOrder}
use Rattle.iox_hub.specs.Hubs.{HubState}
use Rattle.iox_hub.specs.Listings.{role_ids}
use Rattle.iox_hub.proofs.ListingLemmas.{ids_are}
use Rattle.iox_hub.proofs.hub.Hub.list_ids.Goals as goal

pub returns : goal.returns
returns g c x =
    subst (VisitsInOrder (CalledAt g.F.FnMut) c.args.callback)
    (ap (role_ids c.args.role) (c.ports.ensures.ports ∙ ap (λ (h : HubState). h.control.tables.ports) c.self.view_is)
    ∙ ids_are x c.args.self.now c.args.role)
    c.list_ids.ensures
