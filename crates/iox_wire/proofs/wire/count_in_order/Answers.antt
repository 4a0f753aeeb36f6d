use Rattle.std.proofs.Common.{ap, sym, ◌∙◌, Some}
use Rattle.iox_wire.proofs.InOrder.{one_more_in_order}
use Rattle.iox_wire.proofs.wire.count_in_order.Goals as goal

pub loop-place-preserved : goal.loop-place-preserved
loop-place-preserved c = record {
  so_far = one_more_in_order c.loop-place.place c.args.members.now c.loop-place.invariant.so_far
      (sym c.in-Some.ensures.first ∙ ap Some c.if-first-place.false);
}
