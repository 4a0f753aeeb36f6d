use Rattle.std.proofs.Common.{◌≡◌, ap, is_some, subst, sym, true}
use Rattle.iox_hub_ports.specs.HubStates.Wirings.{handle_in}
use Rattle.iox_hub.specs.Hubs.{HubState}
use Rattle.iox_hub.proofs.hub.Hub.near_handle.Goals as goal

pub near_known-requires : goal.near_known-requires
near_known-requires g c =
    subst (λ (d : HubState). is_some (handle_in d.control.tables.handles c.args.node c.args.number) ≡ true) (sym c.self.view_is)
    (ap is_some c.requires.1)

pub returns-in-Some : goal.returns-in-Some
returns-in-Some g c = rw (← c.self.view_is) (sym c.in-Some.ensures)
