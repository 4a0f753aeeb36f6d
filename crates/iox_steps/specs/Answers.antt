-- What a reply says of the event of the access that gave it, and of the value of the call.
use Rattle.std.specs.Prelude.{◌≡◌, ℕ, ◌⊎◌, true, false, Option, Some, None}
use Rattle.iox_steps.specs.declared.access.Progress.{Progress}
use Rattle.iox_steps.specs.declared.access.Progress.TheVariants.{Going, Done}
use Rattle.iox_steps.specs.declared.push.Push.{Push}
use Rattle.iox_steps.specs.declared.push.Push.TheVariants as push
use Rattle.iox_steps.specs.declared.side.Pushing.{Pushing}
use Rattle.iox_steps.specs.declared.side.Pushing.TheVariants as pushing
use Rattle.iox_steps.specs.declared.side.QueueEvent.{QueueEvent}
use Rattle.iox_steps.specs.declared.side.QueueEvent.TheVariants.{Quiet, Publish, HandOut, Learn, SeesEmpty, SeesWaiting, SeesFull, SeesRoom, SeesEnd}
use Rattle.iox_steps.specs.declared.side.QueueReply.{QueueReply}
use Rattle.iox_steps.specs.declared.side.QueueReply.TheVariants.{Pushed, HandedBack, Full, Popped, Empty}

-- the value that a push has yet to publish
abbrev pub unpublished_of : Push → Option ℕ
unpublished_of (push.LoadsWrite value) = Some value
unpublished_of (push.LoadsRead value write) = Some value
unpublished_of (push.StoresCell value cell next full) = Some value
unpublished_of (push.StoresWrite value next full) = Some value
unpublished_of (push.Evicts read) = None
unpublished_of (push.TakesOld cell) = None

-- the value that the pushing party has yet to publish
abbrev pub unpublished : Pushing → Option ℕ
unpublished pushing.AtRest = None
unpublished (pushing.Pushes place) = unpublished_of place
unpublished (pushing.Looks place) = None

-- the value that is yet to be published after an event
abbrev pub unpublished_after : QueueEvent → Option ℕ → Option ℕ
unpublished_after (Publish value) own = None
unpublished_after event own = own

-- what the reply of a push says that had yet to publish its value
abbrev pub PushReplyIsTrue : ℕ → QueueReply → QueueEvent → Type 0
-- this access published it
PushReplyIsTrue own (Pushed true) event = event ≡ Publish own
-- the queue was full at the load of the read position, or at its last position
PushReplyIsTrue own (Pushed false) event = (event ≡ SeesFull) ⊎ (event ≡ SeesEnd)
-- this access published it, and nothing is pushed out
PushReplyIsTrue own (HandedBack None) event = event ≡ Publish own
-- it comes back: the queue was at its last position
PushReplyIsTrue own (HandedBack (Some value)) event = (value ≡ own) × (event ≡ SeesEnd)
PushReplyIsTrue own (Full full) event = ⊥
PushReplyIsTrue own (Popped popped) event = ⊥
PushReplyIsTrue own (Empty empty) event = ⊥

-- what the reply of a look, of a pop or of a push that published earlier says
abbrev pub OtherReplyIsTrue : QueueReply → QueueEvent → Type 0
-- a push that may be refused ends where it publishes
OtherReplyIsTrue (Pushed pushed) event = ⊥
-- a pop was faster than the exchange
OtherReplyIsTrue (HandedBack None) event = event ≡ Quiet
-- what was pushed out
OtherReplyIsTrue (HandedBack (Some value)) event = event ≡ Learn value
OtherReplyIsTrue (Full true) event = event ≡ SeesFull
OtherReplyIsTrue (Full false) event = event ≡ SeesRoom
OtherReplyIsTrue (Popped (Some value)) event = event ≡ HandOut value
-- the queue was empty at the load of the write position
OtherReplyIsTrue (Popped None) event = event ≡ SeesEmpty
OtherReplyIsTrue (Empty true) event = event ≡ SeesEmpty
OtherReplyIsTrue (Empty false) event = event ≡ SeesWaiting

-- a reply, if the access gave one, says what the event was; `own` is the value that the party had
-- yet to publish
abbrev pub ReplyIsTrue : Option ℕ → Progress QueueReply → QueueEvent → Type 0
ReplyIsTrue own Going event = Unit {0}
ReplyIsTrue (Some own) (Done reply) event = PushReplyIsTrue own reply event
ReplyIsTrue None (Done reply) event = OtherReplyIsTrue reply event

-- one statement holds of a call that continues, the other of the reply of one that is done
abbrev pub OnProgress : {R : Type 0} → Progress R → Type 0 → (R → Type 0) → Type 0
OnProgress Going going done = going
OnProgress (Done reply) going done = done reply
