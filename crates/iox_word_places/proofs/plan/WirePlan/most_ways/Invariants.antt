use Rattle.std.proofs.Common.{◌≡◌, take}
use Rattle.std.specs.List.{sum_by}
use Rattle.iox_types.specs.Layouts.{as_usize}
use Rattle.iox_word_places.specs.Plans.{port_ways}
use Rattle.iox_word_places.proofs.plan.WirePlan.most_ways.Given as goal

abbrev pub invariant-loop-port : goal.invariant-loop-port
invariant-loop-port l = l.ways ≡ as_usize (sum_by port_ways (take l.port-index l.self.ports.items))
