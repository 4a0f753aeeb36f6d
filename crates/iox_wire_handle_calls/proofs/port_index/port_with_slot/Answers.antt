use Rattle.std.specs.Prelude.{◌==◌}
use Rattle.std.specs.List.{position}
use Rattle.std.proofs.Common.{◌<◌, List, ap, sym, ◌∙◌}
use Rattle.iox_wire_stops.specs.PlanPort.{PlanPort}
use Rattle.iox_wire_handle_calls.proofs.PlaceLemmas.{at_place, has_place, number_there}
use Rattle.iox_wire_handle_calls.proofs.port_index.port_with_slot.Goals as goal

pub unreachable-requires : goal.unreachable-requires
unreachable-requires c =
    has_place (λ q. c.args.slot < q.pool) (λ q. q.number == c.args.number) c.args.plan.now.ports.items
    (ap (λ (ps : List PlanPort). position (λ q. q.number == c.args.number) ps) (sym c.deref.ensures.value) ∙ sym c.place_of.ensures.first ∙ c.in-None.is) c.requires

pub returns-clause-number : goal.returns-clause-number
returns-clause-number c =
    number_there (λ q. c.args.slot < q.pool) c.args.number c.args.plan.now c.in-Some.index
    (ap (λ (ps : List PlanPort). position (λ q. q.number == c.args.number) ps) (sym c.deref.ensures.value) ∙ sym c.place_of.ensures.first ∙ c.in-Some.is) c.requires

pub returns-clause-slot : goal.returns-clause-slot
returns-clause-slot c =
    at_place (λ q. c.args.slot < q.pool) (λ q. q.number == c.args.number) c.args.plan.now.ports.items c.in-Some.index
    (ap (λ (ps : List PlanPort). position (λ q. q.number == c.args.number) ps) (sym c.deref.ensures.value) ∙ sym c.place_of.ensures.first ∙ c.in-Some.is) c.requires
