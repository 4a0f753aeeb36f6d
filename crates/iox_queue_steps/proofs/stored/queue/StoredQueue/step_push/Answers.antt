use Rattle.iox_queue_steps.proofs.StoredLemmas.{push_within, push_played}
use Rattle.iox_queue_steps.proofs.stored.queue.StoredQueue.step_push.Goals as goal

pub step-requires : goal.step-requires
step-requires c = record { within = push_within c.self.inside.words.items c.self.inside.words.items c.self.inside.pusher c.self.inside.popper c.self.invariant }

pub invariant_of-self : goal.invariant_of-self
invariant_of-self c = push_played c.self.inside.words.items c.step.new.words.items c.self.inside.pusher c.self.inside.popper c.self.invariant
    c.step.new.self c.step.ensures.words c.step.ensures.site c.step.ensures.place
