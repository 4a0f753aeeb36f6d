use Rattle.std.proofs.Common.{◌≡◌, length, ap, take, ◌∙◌, arith}
use Rattle.std.proofs.Math.Seq.{take-length}
use Rattle.std.specs.List.{sum_by}
use Rattle.iox_types.specs.Layouts.{as_usize}
use Rattle.iox_word_places.specs.Plans.{port_ways}
use Rattle.iox_word_places.proofs.plan.WirePlan.most_ways.Goals as goal

pub returns : goal.returns
returns c =
    let ps = c.args.self.now.ports.items in
    let ended : c.loop-port.port-index ≡ length ps = omega (arith, c.loop-port-test.false, c.loop-port.auto.port-index-end, c.deref-port-items.ensures.len) in
    c.loop-port.invariant
    ∙ ap (λ k. as_usize (sum_by port_ways (take k ps))) ended
    ∙ ap (λ xs. as_usize (sum_by port_ways xs)) (take-length ps)
