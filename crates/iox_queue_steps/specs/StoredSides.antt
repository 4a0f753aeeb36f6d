-- Either of the two stored parties, and what a machine answers for it. Only for proofs of this
-- crate.
use Rattle.std.specs.Prelude.{ℕ, true, false, Some, None}
use Rattle.iox_steps.specs.declared.access.Progress.{Progress}
use Rattle.iox_steps.specs.declared.access.Progress.TheVariants as progress
use Rattle.iox_steps.specs.declared.site.QueueKind.{QueueKind}
use Rattle.iox_steps.specs.declared.site.QueueKind.TheVariants.{Index, Overflowing}
use Rattle.iox_steps.specs.declared.site.Site.{Site}
use Rattle.iox_steps.specs.declared.side.QueueReply.{QueueReply}
use Rattle.iox_steps.specs.declared.side.QueueReply.TheVariants as reply
use Rattle.iox_steps.specs.declared.side.QueueReply.TheVariants.{HandedBack, Full, Popped, Empty}
use Rattle.iox_queue_steps.specs.declared.queue.Side.{Side}
use Rattle.iox_queue_steps.specs.declared.queue.Side.TheVariants as seat
use Rattle.iox_queue_steps.specs.declared.party.StoredSide.{StoredSide}
use Rattle.iox_queue_steps.specs.declared.party.StoredSide.TheVariants.{Pusher, Popper}
use Rattle.iox_queue_steps.specs.declared.stored.answer.StepAnswer.{StepAnswer}
use Rattle.iox_queue_steps.specs.declared.stored.answer.StepAnswer.TheVariants.{Going, Done, Gives, Refuses, Yes, No}
use Rattle.iox_queue_steps.specs.Stored.{pushing_says, popping_says}
use Rattle.iox_queue_steps.specs.Queues.{PartyView}

-- the stored party as clauses see it
abbrev pub party_view : StoredSide → PartyView
party_view (Pusher pusher) = record { site = pusher.site; side = seat.Pusher pusher.place }
party_view (Popper popper) = record { site = popper.site; side = seat.Popper popper.place }

-- what a step of a party says
abbrev pub side_says : Site → Side → ℕ → StepAnswer
side_says site (seat.Pusher pushes) seen = pushing_says site pushes seen
side_says site (seat.Popper pops) seen = popping_says site pops seen

-- what a machine answers where the pushing party of a queue of this kind says this
abbrev pub push_progress : QueueKind → StepAnswer → Progress QueueReply
push_progress kind Going = progress.Going
push_progress kind Yes = progress.Done (Full true)
push_progress kind No = progress.Done (Full false)
push_progress Index Done = progress.Done (reply.Pushed true)
push_progress Index (Gives value) = progress.Done (reply.Pushed true)
push_progress Index (Refuses value) = progress.Done (reply.Pushed false)
push_progress Overflowing Done = progress.Done (HandedBack None)
push_progress Overflowing (Gives value) = progress.Done (HandedBack (Some value))
push_progress Overflowing (Refuses value) = progress.Done (HandedBack (Some value))

-- what a machine answers where the popping party says this
abbrev pub pop_progress : StepAnswer → Progress QueueReply
pop_progress Going = progress.Going
pop_progress Yes = progress.Done (Empty true)
pop_progress No = progress.Done (Empty false)
pop_progress Done = progress.Done (Popped None)
pop_progress (Gives value) = progress.Done (Popped (Some value))
pop_progress (Refuses value) = progress.Done (Popped (Some value))
