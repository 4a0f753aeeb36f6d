use Rattle.std.proofs.Common.{◌≡◌, length, ap, take, ◌∙◌, arith}
use Rattle.std.proofs.Math.Seq.{take-length}
use Rattle.std.specs.List.{sum_by}
use Rattle.iox_word_places.specs.PortSums.{server_count}
use Rattle.iox_word_places.proofs.PlanLemmas.{servers_counted}
use Rattle.iox_word_places.proofs.plan.WirePlan.servers.Goals as goal

pub returns : goal.returns
returns c =
    let ps = c.args.self.now.ports.items in
    let ended : c.loop-port.port-index ≡ length ps = omega (arith, c.loop-port-test.false, c.loop-port.auto.port-index-end, c.deref-port-items.ensures.len) in
    c.loop-port.invariant.0 ∙ ap (λ k. sum_by server_count (take k ps)) ended ∙ ap (λ xs. sum_by server_count xs) (take-length ps)
    ∙ servers_counted ps
