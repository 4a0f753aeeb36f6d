use Rattle.std.proofs.Common.{◌≡◌, ◌+◌, length, ap, sym, take, ◌∙◌, arith}
use Rattle.std.proofs.Math.Seq.{take-length}
use Rattle.std.specs.List.{sum_by}
use Rattle.iox_types.specs.Layouts.{as_usize}
use Rattle.iox_word_places.specs.PortSums.{region_words, client_words}
use Rattle.iox_word_places.proofs.PlanLemmas.{total_by_each}
use Rattle.iox_word_places.proofs.plan.WirePlan.total_words.Goals as goal

pub returns : goal.returns
returns c =
    let plan = c.args.self.now in
    let ps = plan.ports.items in
    let ended : c.loop-port.port-index ≡ length ps = omega (arith, c.loop-port-test.false, c.loop-port.auto.port-index-end, c.deref-port-items.ensures.len) in
    c.loop-port.invariant
    ∙ ap (λ k. as_usize (sum_by (λ p. region_words p + client_words plan.limits c.servers-servers.result p) (take k ps))) ended
    ∙ ap (λ xs. as_usize (sum_by (λ p. region_words p + client_words plan.limits c.servers-servers.result p) xs)) (take-length ps)
    ∙ ap (λ s. as_usize (sum_by (λ p. region_words p + client_words plan.limits s p) ps)) c.servers-servers.ensures
    ∙ ap as_usize (sym (total_by_each plan c.requires))
