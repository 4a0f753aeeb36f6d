use Rattle.iox_queue_steps.proofs.StoredLemmas.{pop_within, pop_played}
use Rattle.iox_queue_steps.proofs.stored.queue.StoredQueue.step_pop.Goals as goal

pub step-requires : goal.step-requires
step-requires c = record { within = pop_within c.self.inside.words.items c.self.inside.words.items c.self.inside.pusher c.self.inside.popper c.self.invariant }

pub invariant_of-self : goal.invariant_of-self
invariant_of-self c = pop_played c.self.inside.words.items c.step.new.words.items c.self.inside.pusher c.self.inside.popper c.self.invariant
    c.step.new.self c.step.ensures.words c.step.ensures.site c.step.ensures.place
