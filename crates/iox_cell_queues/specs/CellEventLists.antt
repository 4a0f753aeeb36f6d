-- What happened to a queue of values, event after event.
use Rattle.std.specs.Prelude.{◌≡◌, ℕ, ◌+◌, List, [], ◌∷◌, Option, Some, None}
use Rattle.iox_cell_queues.specs.declared.site.CellSite.{CellSite}
use Rattle.iox_cell_queues.specs.declared.event.CellEvent.{CellEvent}
use Rattle.iox_cell_queues.specs.declared.event.CellEvent.TheVariants.{Quiet, Publish, HandOut}
use Rattle.iox_cell_queues.specs.CellEvents.{waiting_after, IsTrueOf}

-- a queue as a list
pub record CellQueueState (A : Type 0) : Type 0 where
  -- the write position
  pub write : ℕ
  -- the values that wait, oldest first
  pub waiting : List A

-- the write position counts what is published
abbrev pub write_after : {A : Type 0} → CellEvent A → ℕ → ℕ
write_after (Publish value) write = write + 1
write_after event write = write

-- the queue after an event
abbrev pub state_after : {A : Type 0} → CellEvent A → CellQueueState A → CellQueueState A
state_after event state =
    record { write = write_after event state.write; waiting = waiting_after event state.waiting }

-- the events lead from one state to the other, and each is true of the queue when it comes
abbrev pub Follows : {A : Type 0} → CellSite → CellQueueState A → List (CellEvent A) → CellQueueState A → Type 0
Follows site before [] after = after ≡ before
Follows site before (event ∷ happened) after = IsTrueOf site before.write before.waiting event
    × Follows site (state_after event before) happened after

-- what was published, in order
abbrev pub published : {A : Type 0} → List (CellEvent A) → List A
published [] = []
published (Publish value ∷ happened) = value ∷ published happened
published (event ∷ happened) = published happened

-- what was handed out, in order
abbrev pub departed : {A : Type 0} → List (CellEvent A) → List A
departed [] = []
departed (HandOut value ∷ happened) = value ∷ departed happened
departed (event ∷ happened) = departed happened

-- the event that a machine writes down: any but a quiet one
abbrev pub told : {A : Type 0} → CellEvent A → Option (CellEvent A)
told Quiet = None
told event = Some event
