-- No list of the ways on which responses return is longer than the most.
use Rattle.std.proofs.Common.{◌≡◌, ℕ, ◌+◌, ◌<◌, ◌≤◌, length, take, get_or, ap, arith}
use Rattle.std.specs.List.{sum_by}
use Rattle.std.specs.Option.{option_map_or}
use Rattle.std.proofs.lemmas.List.Sums.{sum_by_more, sum_by_more_le}
use Rattle.iox_wire_ways.specs.PlanPort.{PlanPort}
use Rattle.iox_wire_ways.specs.WirePlan.{WirePlan}
use Rattle.iox_wire_ways.specs.Plans.{IsPlan, most_ways, number_at, port_ways}
use Rattle.iox_wire_ways.specs.Visits.{pool_of}
use Rattle.iox_wire_ways.proofs.PlanLemmas.{port_is}
use Rattle.iox_wire_ways.proofs.PairLemmas.{one_of}

module _ (plan : WirePlan) (is : IsPlan plan) (i : ℕ) (low : i < length plan.ports.items) where
  d : PlanPort
  d = one_of plan.ports.items i low

  pool_there : pool_of plan (number_at plan i) ≡ (get_or plan.ports.items i d).pool
  pool_there = ap (λ o. option_map_or (λ p. p.pool) o 0) (port_is plan is.numbers i d low)

  -- the lanes of one more client fit
  pub lanes_fit : sum_by port_ways (take i plan.ports.items) + pool_of plan (number_at plan i) ≤ most_ways plan
  lanes_fit =
      let here = pool_there in
      let all : sum_by port_ways (take i plan.ports.items) + port_ways (get_or plan.ports.items i d) ≤ sum_by port_ways plan.ports.items
      = sum_by_more_le port_ways plan.ports.items i d low in
      omega (arith, here, all)

  -- and are among those of one more port
  pub lanes_more : sum_by port_ways (take i plan.ports.items) + pool_of plan (number_at plan i) ≤ sum_by port_ways (take (i + 1) plan.ports.items)
  lanes_more =
      let here = pool_there in
      let next : sum_by port_ways (take (i + 1) plan.ports.items) ≡ sum_by port_ways (take i plan.ports.items) + port_ways (get_or plan.ports.items i d)
      = sum_by_more port_ways plan.ports.items i d low in
      omega (arith, here, next)
