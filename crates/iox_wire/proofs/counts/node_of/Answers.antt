use Rattle.std.specs.Prelude.{List, find, option_map}
use Rattle.std.proofs.Common.{◌==◌, ap, ◌∙◌}
use Rattle.iox_wire_weaves.specs.PlanPort.{PlanPort}
use Rattle.iox_wire_weaves.specs.WirePlan.{WirePlan}
use Rattle.iox_wire.proofs.counts.node_of.Goals as goal

pub returns-in-Some : goal.returns-in-Some
returns-in-Some c =
    ap (option_map (λ (q : PlanPort). q.node))
    (c.in-Some.ensures
    ∙ ap (λ (xs : List PlanPort). find (λ (q : PlanPort). q.number == c.args.port) xs)
    (c.deref.ensures.value ∙ ap (λ (q : WirePlan). q.ports.items) c.plan.ensures.value))

pub returns-in-None : goal.returns-in-None
returns-in-None c =
    ap (option_map (λ (q : PlanPort). q.node))
    (c.in-None.ensures
    ∙ ap (λ (xs : List PlanPort). find (λ (q : PlanPort). q.number == c.args.port) xs)
    (c.deref.ensures.value ∙ ap (λ (q : WirePlan). q.ports.items) c.plan.ensures.value))
