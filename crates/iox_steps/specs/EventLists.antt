-- What happened to a queue, event after event.
use Rattle.std.specs.Prelude.{◌≡◌, ℕ, ◌+◌, ◌++◌, List, [], ◌∷◌, Option, Some, None}
use Rattle.iox_steps.specs.declared.site.Site.{Site}
use Rattle.iox_steps.specs.declared.side.QueueEvent.{QueueEvent}
use Rattle.iox_steps.specs.declared.side.QueueEvent.TheVariants.{Quiet, Publish, HandOut, Evict}
use Rattle.iox_steps.specs.Events.{front, waiting_after, hand_after, IsTrueOf}

-- a queue as a list
pub record QueueState : Type 0 where
  -- the write position
  pub write : ℕ
  -- the values that wait, oldest first
  pub waiting : List ℕ
  -- what was pushed out, and its pusher did not learn yet: one value or none
  pub hand : List ℕ

-- the write position counts what is published
abbrev pub write_after : QueueEvent → ℕ → ℕ
write_after (Publish value) write = write + 1
write_after event write = write

-- the queue after an event
abbrev pub state_after : QueueEvent → QueueState → QueueState
state_after event state = record {
  write = write_after event state.write;
  waiting = waiting_after event state.waiting;
  hand = hand_after event state.waiting state.hand;
}

-- the events lead from one state to the other, and each is true of the queue when it comes
abbrev pub Follows : Site → QueueState → List QueueEvent → QueueState → Type 0
Follows site before [] after = after ≡ before
Follows site before (event ∷ events) after = IsTrueOf site before.write before.waiting before.hand event
    × Follows site (state_after event before) events after

-- what was published, in order
abbrev pub published : List QueueEvent → List ℕ
published [] = []
published (Publish value ∷ events) = value ∷ published events
published (event ∷ events) = published events

-- what leaves at an event: the value handed out, or the oldest, which is pushed out
abbrev pub leaving : QueueEvent → List ℕ → List ℕ
leaving (HandOut value) waiting = value ∷ []
leaving Evict waiting = front waiting
leaving event waiting = []

-- the values that left a queue in which these waited, in order
abbrev pub departed : List ℕ → List QueueEvent → List ℕ
departed waiting [] = []
departed waiting (event ∷ events) =
    leaving event waiting ++ departed (waiting_after event waiting) events

-- the event that a machine writes down: any but a quiet one
abbrev pub told : QueueEvent → Option QueueEvent
told Quiet = None
told event = Some event
