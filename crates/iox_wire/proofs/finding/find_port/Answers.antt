use Rattle.std.specs.Prelude.{position}
use Rattle.std.proofs.Common.{◌==◌, List, ap, sym, ◌∙◌}
use Rattle.iox_wire_weaves.specs.PlanPort.{PlanPort}
use Rattle.iox_wire_weaves.specs.WirePlan.{WirePlan}
use Rattle.iox_wire.proofs.Places.{found_port, none_found}
use Rattle.iox_wire.proofs.finding.find_port.Goals as goal

pub returns-clause-there : goal.returns-clause-there
returns-clause-there c =
    found_port c.args.map.now c.args.number c.place_in.result
    (c.place_in.ensures
    ∙ ap (λ (xs : List PlanPort). position (λ (q : PlanPort). q.number == c.args.number) xs) (c.deref.ensures.value ∙ ap (λ (q : WirePlan). q.ports.items) c.plan.ensures.value))

pub returns-clause-none : goal.returns-clause-none
returns-clause-none c none =
    none_found (λ (q : PlanPort). q.number == c.args.number) c.args.map.now.ports.items
    (sym (c.place_in.ensures
    ∙ ap (λ (xs : List PlanPort). position (λ (q : PlanPort). q.number == c.args.number) xs) (c.deref.ensures.value ∙ ap (λ (q : WirePlan). q.ports.items) c.plan.ensures.value))
    ∙ none)
