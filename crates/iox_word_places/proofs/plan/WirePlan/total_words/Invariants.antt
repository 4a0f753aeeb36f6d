use Rattle.std.proofs.Common.{◌≡◌, ◌+◌, take}
use Rattle.std.specs.List.{sum_by}
use Rattle.iox_types.specs.Layouts.{as_usize}
use Rattle.iox_word_places.specs.PortSums.{region_words, client_words}
use Rattle.iox_word_places.proofs.plan.WirePlan.total_words.Given as goal

abbrev pub invariant-loop-port : goal.invariant-loop-port
invariant-loop-port l =
    l.total ≡ as_usize (sum_by (λ p. region_words p + client_words l.self.limits l.servers p) (take l.port-index l.self.ports.items))
