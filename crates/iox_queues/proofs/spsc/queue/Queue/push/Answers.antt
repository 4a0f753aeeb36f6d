use Rattle.std.proofs.Common.{◌∙◌, arith}
use Rattle.iox_queues.proofs.ValueLemmas.{AreFilled-after, capacity-after, queue_of_values-after}
use Rattle.iox_queues.specs.Rings.{AreFilled}
use Rattle.iox_queues.proofs.spsc.queue.Queue.push.Goals as goal

pub invariant_of-self : goal.invariant_of-self
invariant_of-self g c = (
  AreFilled-after _ _ c.args.t.now c.push.result c.push.ensures.pushed c.push.ensures.unchanged
      c.self.invariant.0,
  capacity-after _ _ c.args.t.now c.push.result c.push.ensures.pushed c.push.ensures.unchanged
      ∙ c.self.invariant.1,
)

pub returns-clause-pushed : goal.returns-clause-pushed
returns-clause-pushed g c =
    rw (← c.self.view_is)
    (queue_of_values-after _ _ c.args.t.now c.push.result c.push.ensures.pushed)

pub returns-clause-within : goal.returns-clause-within
returns-clause-within g c =
    let filled : AreFilled c.push.new.self.waiting =
    AreFilled-after _ _ c.args.t.now c.push.result c.push.ensures.pushed
    c.push.ensures.unchanged c.self.invariant.0 in
    omega (arith, filled, c.push.ensures.within)
