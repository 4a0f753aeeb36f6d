-- No list of ways is longer than the most.
use Rattle.std.proofs.Common.{◌≡◌, ℕ, ◌+◌, ◌≤◌, List, [], ◌∷◌, length, arith}
use Rattle.std.specs.List.{sum_by}
use Rattle.std.proofs.lemmas.List.Sums.{sum_by-cons}
use Rattle.iox_word_places.specs.declared.plan.PlanPort.{PlanPort}
use Rattle.iox_word_places.specs.declared.plan.WirePlan.{WirePlan}
use Rattle.iox_word_places.specs.Plans.{most_ways, port_ways}

one_each : (ps : List PlanPort) → length ps ≤ sum_by port_ways ps
one_each [] = omega arith
one_each (p ∷ ps) =
    let first : sum_by port_ways (p ∷ ps) ≡ port_ways p + sum_by port_ways ps = sum_by-cons port_ways p ps in
    let rest : length ps ≤ sum_by port_ways ps = one_each ps in
    omega arith

-- one way for each port
pub ports_fit : (plan : WirePlan) → length plan.ports.items ≤ most_ways plan
ports_fit plan = one_each plan.ports.items
