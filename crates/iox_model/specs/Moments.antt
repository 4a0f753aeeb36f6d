-- The moments of which each call is made: each is one change of the state, or one look at it.
use Rattle.std.specs.Prelude.{◌≡◌, ℕ, ◌+◌, Bool, true, false, not, if◌then◌else◌, nat_lt, nat_le, [], ◌∷◌, ◌++◌, length, Some, IsTrue, ⊤, take}
use Rattle.iox_model.specs.declared.way.Way.{Way}
use Rattle.iox_model.specs.declared.way.RequestState.{RequestState}
use Rattle.iox_model.specs.declared.way.RequestState.TheVariants.{Named}
use Rattle.iox_model.specs.declared.event.Event.{Event}
use Rattle.iox_model.specs.declared.event.Event.TheVariants as events
use Rattle.iox_model.specs.States.{Fixed, State}
use Rattle.iox_model.specs.Maps.{is_empty, first_of, rest_of, put_at, put}
use Rattle.iox_model.specs.Messages.{serials_of, closed_for, hinted_for, Message}
use Rattle.iox_model.specs.Peers.{is_counted_on, buffer_on, overflows_on}

-- One change or one look, on that way; a serial names a message, an id a request.
pub data Moment : Type 0 where
  Deliver : (way : Way) (message : Message) → Moment
  Evict : (way : Way) → Moment
  Take : (way : Way) (message : Message) → Moment
  GiveBack : (way : Way) (serial : ℕ) → Moment
  GetBack : (way : Way) (serial : ℕ) → Moment
  SeesEmpty SeesWaiting SeesFull SeesRoom SeesNoneBack : (way : Way) → Moment
  Open Close Hint : (way : Way) (id : ℕ) → Moment
  Look : (way : Way) (shown : RequestState) → Moment

-- whether more messages wait than the buffer holds
abbrev pub is_overfull : State → Way → Bool
is_overfull s w = nat_lt (buffer_on s.fixed w) (length (s.waiting w))

-- the most that may wait once one more is delivered
abbrev pub room_on : Fixed → Way → ℕ
room_on f w = buffer_on f w + (if overflows_on f w then 1 else 0)

-- What the moment requires of the state, and what it says of it, is true.
abbrev pub Holds : State → Moment → Type 0
-- there is room, or with overflow at most the buffer waits
Holds s (Deliver w m) = IsTrue (nat_lt (length (s.waiting w)) (room_on s.fixed w))
-- there is one too many
Holds s (Evict w) = IsTrue (is_overfull s w)
-- it is the first that waits
Holds s (Take w m) = first_of (s.waiting w) ≡ Some m
Holds s (GiveBack w k) = ⊤
-- it is the one in hand, or else the first of those given back
Holds s (GetBack w k) = first_of (s.in_hand w ++ s.returned w) ≡ Some k
-- a look is true: what it says it saw is in the state
Holds s (SeesEmpty w) = IsTrue (is_empty (s.waiting w))
Holds s (SeesWaiting w) = IsTrue (not (is_empty (s.waiting w)))
Holds s (SeesFull w) = IsTrue (nat_le (buffer_on s.fixed w) (length (s.waiting w)))
Holds s (SeesRoom w) = IsTrue (nat_lt (length (s.waiting w)) (buffer_on s.fixed w))
Holds s (SeesNoneBack w) = IsTrue (is_empty (s.returned w))
Holds s (Open w id) = ⊤
Holds s (Close w id) = ⊤
Holds s (Hint w id) = ⊤
Holds s (Look w shown) = shown ≡ s.request_state w

-- The state after the moment.
abbrev pub moved : State → Moment → State
-- the message waits as the last, and is outstanding
moved s (Deliver w m) = record s {
  waiting = put s.waiting w (s.waiting w ++ m ∷ []);
  delivered = put s.delivered w (put_at (s.delivered w) m.serial true);
}
-- the first that waits is in its sender's hand
moved s (Evict w) = record s {
  waiting = put s.waiting w (rest_of (s.waiting w));
  in_hand = put s.in_hand w (serials_of (take 1 (s.waiting w)));
}
-- the first that waits goes to the receiver
moved s (Take w m) = record s { waiting = put s.waiting w (rest_of (s.waiting w)) }
-- the receiver has it no longer, and a sender that still counts it may get it back
moved s (GiveBack w k) = record s {
  returned =
      put s.returned w (if is_counted_on s.fixed w then s.returned w ++ k ∷ [] else s.returned w);
}
-- it is no longer outstanding
moved s (GetBack w k) = record s {
  in_hand = put s.in_hand w [];
  returned = put s.returned w (if is_empty (s.in_hand w) then rest_of (s.returned w) else s.returned w);
  delivered = put s.delivered w (put_at (s.delivered w) k false);
}
-- the request state names the request; a close and a hint change it only where it names theirs
moved s (Open w id) = record s { request_state = put s.request_state w (Named id false) }
moved s (Close w id) = record s { request_state = put s.request_state w (closed_for (s.request_state w) id) }
moved s (Hint w id) = record s { request_state = put s.request_state w (hinted_for (s.request_state w) id) }
-- looks change nothing
moved s (SeesEmpty w) = s
moved s (SeesWaiting w) = s
moved s (SeesFull w) = s
moved s (SeesRoom w) = s
moved s (SeesNoneBack w) = s
moved s (Look w shown) = s

-- A moment as the code of a wire can name it: messages by their serials.
abbrev pub event_of : Moment → Event
event_of (Deliver w m) = events.Deliver w m.serial
event_of (Evict w) = events.Evict w
event_of (Take w m) = events.Take w m.serial
event_of (GiveBack w k) = events.GiveBack w k
event_of (GetBack w k) = events.GetBack w k
event_of (SeesEmpty w) = events.SeesEmpty w
event_of (SeesWaiting w) = events.SeesWaiting w
event_of (SeesFull w) = events.SeesFull w
event_of (SeesRoom w) = events.SeesRoom w
event_of (SeesNoneBack w) = events.SeesNoneBack w
event_of (Open w id) = events.Open w id
event_of (Close w id) = events.Close w id
event_of (Hint w id) = events.Hint w id
event_of (Look w shown) = events.Look w shown
