use Rattle.std.proofs.Common.{◌≡◌, ◌≤◌, take}
use Rattle.std.specs.List.{sum_by}
use Rattle.iox_word_places.specs.PortSums.{server_count}
use Rattle.iox_word_places.proofs.plan.WirePlan.servers.Given as goal

abbrev pub invariant-loop-port : goal.invariant-loop-port
invariant-loop-port l =
    (l.servers ≡ sum_by server_count (take l.port-index l.self.ports.items)) × (l.servers ≤ l.port-index)
