use Rattle.std.proofs.Common.{◌≡◌, ◌∷◌, rules}
use Rattle.iox_word_places.specs.Plans.{HasSlots}
use Rattle.iox_wire_layouts.proofs.PlanTests.{slots_go_on}
use Rattle.iox_wire_layouts.proofs.checks.have_slots.Goals as goal

pub loop-first-preserved : goal.loop-first-preserved
loop-first-preserved c =
    let split : c.loop-first.rest.now ≡ c.in-Some.first.now ∷ c.in-Some.later.now = search rules in
    let here : HasSlots c.args.plan.now c.in-Some.first.now = search rules in
    let r = slots_go_on (HasSlots c.args.plan.now) c.in-Some.first.now c.in-Some.later.now c.loop-first.rest.now
    c.args.plan.now.ports.items split here c.loop-first.invariant.all c.loop-first.invariant.rest in
    record { all = r.0; rest = r.1 }
