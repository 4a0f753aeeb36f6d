use Rattle.std.proofs.Common.{◌≡◌, ◌+◌, ◌==◌, if◌then◌else◌, length, ap, take, ◌∙◌, arith, refl, List}
use Rattle.std.proofs.Math.Seq.{take-length}
use Rattle.std.specs.List.{sum_by}
use Rattle.iox_types.specs.Layouts.{as_usize}
use Rattle.iox_wire_weaves.specs.HandleBounds.{most_of_port}
use Rattle.iox_wire_weaves.specs.PlanPort.{PlanPort}
use Rattle.iox_wire.proofs.HandleRooms.{sum_of_some}
use Rattle.iox_wire.proofs.handle_room.handle_room.Goals as goal

pub returns : goal.returns
returns c =
    let qs = c.args.plan.now.ports.items in
    let most : PlanPort → _ = λ q. if q.node == c.args.node then most_of_port c.args.plan.now q else 0 in
    let ended : c.loop-port.port-index ≡ length qs = omega (arith, c.loop-port-test.false, c.loop-port.auto.port-index-end, c.deref-port-items.ensures.len) in
    c.sum.ensures (sum_by most qs) 1
    (c.loop-port.invariant ∙ ap (λ k. as_usize (sum_by most (take k qs))) ended ∙ ap (λ (xs : List PlanPort). as_usize (sum_by most xs)) (take-length qs)) refl
    ∙ ap (λ k. as_usize (k + 1)) (sum_of_some (most_of_port c.args.plan.now) (λ q. q.node == c.args.node) qs)
