use Rattle.std.proofs.Common.{◌≡◌, ℕ, ◌<◌, ◌==◌, length, None, Some, sym, ◌∙◌}
use Rattle.std.specs.Prelude.{Option, IfSome, position}
use Rattle.iox_wire_stops.specs.WirePlan.{WirePlan}
use Rattle.iox_wire_stops.specs.Plans.{IsPlan, number_at}
use Rattle.iox_wire_stops.proofs.ReleasesPlaceLemmas.{none_found, number_there}
use Rattle.iox_wire_handle_calls.proofs.finding.find_port.Goals as goal

found_number : (plan : WirePlan) → IsPlan plan → (n : ℕ) (o : Option ℕ) → o ≡ position (λ q. q.number == n) plan.ports.items
    → IfSome o (λ i. i < length plan.ports.items) → IfSome o (λ i. number_at plan i ≡ n)
found_number plan is n None first within = tt
found_number plan is n (Some i) first within = number_there plan is n i within first

pub returns-clause-there : goal.returns-clause-there
returns-clause-there c =
    found_number c.args.map.now c.place_of.ensures.plan c.args.number c.place_of.result c.place_of.ensures.first c.place_of.ensures.within

pub returns-clause-none : goal.returns-clause-none
returns-clause-none c none = none_found (λ q. q.number == c.args.number) c.args.map.now.ports.items (sym c.place_of.ensures.first ∙ none)
