use Rattle.std.proofs.Common.{◌∙◌, ap}
use Rattle.std.specs.Option.{option_flatten}
use Rattle.iox_queues.proofs.ValueLemmas.{AreFilled-pop, first-values, queue_of_values-pop}
use Rattle.iox_queues.proofs.spsc.queue.Queue.pop.Goals as goal

pub invariant_of-self : goal.invariant_of-self
invariant_of-self g c =
    rw c.pop.ensures.left
    (AreFilled-pop c.self.inside.ring.waiting c.self.invariant.0, c.self.invariant.1)

pub returns-clause-oldest : goal.returns-clause-oldest
returns-clause-oldest g c =
    rw (← c.self.view_is) (
    c.flatten.ensures ∙ ap option_flatten c.pop.ensures.oldest
    ∙ first-values c.self.inside.ring.waiting c.self.invariant.0)

pub returns-clause-left : goal.returns-clause-left
returns-clause-left g c =
    rw (c.pop.ensures.left, ← c.self.view_is) (
    queue_of_values-pop c.self.inside.ring c.self.invariant.0)
