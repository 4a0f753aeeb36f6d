use Rattle.std.specs.Prelude.{◌≡◌, List, Some, true}
use Rattle.std.proofs.Common.{ap, subst, sym, ◌∙◌}
use Rattle.iox_model.specs.Maps.{first_of}
use Rattle.iox_laws.specs.ServiceLaws.Listings.{are_ascending}
use Rattle.iox_tables.specs.HubStates.Tables.{PortState, numbers_of}
use Rattle.iox_hub.specs.Hubs.{HubState}
use Rattle.iox_hub.specs.Listings.{NoneBefore, held_ports}
use Rattle.iox_hub.proofs.Ahead.{first_held_is_least, none_passed, ports_in_order}
use Rattle.iox_hub.proofs.hub.Hub.next_port.Goals as goal

pub place_from-requires : goal.place_from-requires
place_from-requires g c =
    subst (λ (ps : List PortState). are_ascending (numbers_of ps) ≡ true)
    (sym (c.ports-ports.ensures.ports ∙ ap (λ (h : HubState). h.control.tables.ports) c.self.view_is))
    (ports_in_order c.args.self.now c.is_in_order.ensures.reached)

pub held_from-requires : goal.held_from-requires
held_from-requires g c =
    none_passed c.ports-ports.result.now.ports c.args.node c.in-Some.ahead.number c.place_from.result
    (subst (λ (ps : List PortState). NoneBefore (Some c.in-Some.ahead) (held_ports ps c.args.node))
    (sym (c.ports-ports.ensures.ports ∙ ap (λ (h : HubState). h.control.tables.ports) c.self.view_is))
    (subst (λ ahead. NoneBefore ahead (held_ports c.args.self.now.control.tables.ports c.args.node)) c.in-Some.is c.requires))
    c.place_from.ensures

pub returns : goal.returns
returns g c =
    c.held_from.ensures
    ∙ ap (λ (ps : List PortState). first_of (held_ports ps c.args.node))
    (c.ports-ports.ensures.ports ∙ ap (λ (h : HubState). h.control.tables.ports) c.self.view_is)
    ∙ first_held_is_least c.args.self.now.control.tables.ports c.args.node (ports_in_order c.args.self.now c.is_in_order.ensures.reached)
