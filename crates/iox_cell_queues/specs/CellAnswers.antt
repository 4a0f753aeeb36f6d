-- What a reply says of the event of the access that gave it, and of the value of the call.
use Rattle.std.specs.Prelude.{◌≡◌, ◌⊎◌, true, false, Option, Some, None}
use Rattle.iox_steps.specs.declared.access.Progress.{Progress}
use Rattle.iox_steps.specs.declared.access.Progress.TheVariants.{Going, Done}
use Rattle.iox_cell_queues.specs.declared.push.CellPush.{CellPush}
use Rattle.iox_cell_queues.specs.declared.push.CellPush.TheVariants as push
use Rattle.iox_cell_queues.specs.declared.side.CellPushing.{CellPushing}
use Rattle.iox_cell_queues.specs.declared.side.CellPushing.TheVariants as pushing
use Rattle.iox_cell_queues.specs.declared.event.CellEvent.{CellEvent}
use Rattle.iox_cell_queues.specs.declared.event.CellEvent.TheVariants.{Publish, HandOut, SeesEmpty, SeesWaiting, SeesFull, SeesRoom, SeesEnd}
use Rattle.iox_cell_queues.specs.declared.event.CellReply.{CellReply}
use Rattle.iox_cell_queues.specs.declared.event.CellReply.TheVariants.{Pushed, Full, Popped, Empty}

-- the value that a push is to publish
abbrev pub value_of : {A : Type 0} → CellPush A → A
value_of (push.LoadsWrite value) = value
value_of (push.LoadsRead value write) = value
value_of (push.StoresWord value cell next word) = value
value_of (push.StoresWrite value next) = value

-- the value that the pushing party has yet to publish
abbrev pub unpublished : {A : Type 0} → CellPushing A → Option A
unpublished pushing.AtRest = None
unpublished (pushing.Pushes push) = Some (value_of push)
unpublished (pushing.Looks look) = None

-- what the reply of a push of this value says
abbrev pub PushReplyIsTrue : {A : Type 0} → A → CellReply A → CellEvent A → Type 0
-- this access published it
PushReplyIsTrue own (Pushed true) event = event ≡ Publish own
-- the queue was full at the load of the read position, or at its last position
PushReplyIsTrue own (Pushed false) event = (event ≡ SeesFull) ⊎ (event ≡ SeesEnd)
PushReplyIsTrue own (Full full) event = ⊥
PushReplyIsTrue own (Popped popped) event = ⊥
PushReplyIsTrue own (Empty empty) event = ⊥

-- what the reply of a look or of a pop says
abbrev pub OtherReplyIsTrue : {A : Type 0} → CellReply A → CellEvent A → Type 0
OtherReplyIsTrue (Pushed pushed) event = ⊥
OtherReplyIsTrue (Full true) event = event ≡ SeesFull
OtherReplyIsTrue (Full false) event = event ≡ SeesRoom
OtherReplyIsTrue (Popped (Some value)) event = event ≡ HandOut value
-- the queue was empty at the load of the write position
OtherReplyIsTrue (Popped None) event = event ≡ SeesEmpty
OtherReplyIsTrue (Empty true) event = event ≡ SeesEmpty
OtherReplyIsTrue (Empty false) event = event ≡ SeesWaiting

-- a reply, if the access gave one, says what the event was; `own` is the value that the party had
-- yet to publish
abbrev pub ReplyIsTrue : {A : Type 0} → Option A → Progress (CellReply A) → CellEvent A → Type 0
ReplyIsTrue own Going event = Unit {0}
ReplyIsTrue (Some own) (Done reply) event = PushReplyIsTrue own reply event
ReplyIsTrue None (Done reply) event = OtherReplyIsTrue reply event
