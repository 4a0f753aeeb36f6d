-- What a queue's step machine promises, step by step and for every schedule.
use Rattle.std.specs.Prelude.{◌≡◌, ℕ, ◌++◌, List, [], ◌∷◌, Option, None, slice_index}
use Rattle.std.specs.Option.{option_to_list}
use Rattle.iox_steps.specs.declared.access.Progress.{Progress}
use Rattle.iox_steps.specs.declared.error.MachineError.{MachineError}
use Rattle.iox_steps.specs.declared.machine.Entry.{Entry}
use Rattle.iox_steps.specs.declared.site.Site.{Site}
use Rattle.iox_steps.specs.declared.side.QueueEvent.{QueueEvent}
use Rattle.iox_steps.specs.declared.side.QueueReply.{QueueReply}
use Rattle.iox_steps.specs.Accesses.{KeepsOutside}
use Rattle.iox_steps.specs.Sites.{size}
use Rattle.iox_steps.specs.Events.{IsTrueOf}
use Rattle.iox_steps.specs.Fits.{Fits}
use Rattle.iox_steps.specs.EventLists.{QueueState, state_after, Follows, published, departed, told}
use Rattle.iox_steps.specs.Answers.{ReplyIsTrue, unpublished}
use Rattle.iox_steps.specs.MachineStates.{MachineState, IsParty, Stepped, IsStepRefused, Begun, IsBeginRefused, AllEntered, StopsAtStep}
use Rattle.iox_queue_steps.specs.declared.queue.Side.{Side}
use Rattle.iox_queue_steps.specs.declared.queue.Side.TheVariants.{Pusher, Popper}
use Rattle.iox_queue_steps.specs.declared.queue.Call.{Call}
use Rattle.iox_queue_steps.specs.Queues.{PartyView, queue_asks, queue_happens, queue_rests, QueueLeads, QueueBegins}

-- a queue's step machine: words, the two parties, and the events so far
abbrev pub QueueMachineState : Type 0
QueueMachineState = MachineState PartyView QueueEvent

-- one access of the party of this number, whose call is under way, with its answer
abbrev pub QueueStepped : QueueMachineState → ℕ → Progress QueueReply → QueueMachineState → Type 0
QueueStepped = Stepped queue_asks QueueLeads queue_happens queue_rests QueueBegins

-- why a step is refused
abbrev pub IsQueueStepRefused : QueueMachineState → ℕ → MachineError → Type 0
IsQueueStepRefused = IsStepRefused queue_asks QueueLeads queue_happens queue_rests QueueBegins

-- the party of this number began the call, and nothing else changed
abbrev pub QueueBegun : QueueMachineState → ℕ → Call → QueueMachineState → Type 0
QueueBegun = Begun queue_asks QueueLeads queue_happens queue_rests QueueBegins

-- why a begin is refused: there is no such party, or the party refuses the call
abbrev pub IsQueueBeginRefused : QueueMachineState → ℕ → Call → MachineError → Type 0
IsQueueBeginRefused = IsBeginRefused queue_asks QueueLeads queue_happens queue_rests QueueBegins

-- all entries lead from one machine to the other, one after another
abbrev pub AllQueueEntered : QueueMachineState → List (Entry Call) → QueueMachineState → Type 0
AllQueueEntered = AllEntered queue_asks QueueLeads queue_happens queue_rests QueueBegins

-- a schedule that found no memory stopped before a step of a party whose call is under way
abbrev pub QueueStopsAtStep : QueueMachineState → List (Entry Call) → QueueMachineState → Type 0
QueueStopsAtStep = StopsAtStep queue_asks QueueLeads queue_happens queue_rests QueueBegins

-- the words and both parties are those of the queue at this site in this state
abbrev pub SidesShow : Site → List ℕ → Side → Side → QueueState → Type 0
SidesShow site words (Pusher pushes) (Popper pops) state = (slice_index words site.base ≡ state.write)
    × Fits site (λ place. slice_index words place) state.waiting state.hand pushes pops
SidesShow site words a b state = ⊥

-- the words and the list of both parties are those of the queue at this site in this state
abbrev pub PartiesShow : Site → List ℕ → List PartyView → QueueState → Type 0
PartiesShow site words (a ∷ b ∷ []) state = (a.site ≡ site) × (b.site ≡ site)
    × SidesShow site words a.side b.side state
PartiesShow site words parties state = ⊥

-- the value that this side's push has yet to publish
abbrev pub side_unpublished : Side → Option ℕ
side_unpublished (Pusher pushes) = unpublished pushes
side_unpublished (Popper pops) = None

-- One access of the party of this number is one event. It is true of the queue before, leads to the
-- queue after, and is written down; a reply says it.
pub record IsEvent (old : QueueMachineState) (number : ℕ) (answer : Progress QueueReply)
    (new : QueueMachineState) : Type 0 where
  pub site : Site
  pub state : QueueState
  pub party : PartyView
  pub event : QueueEvent
  -- before the access the machine is this queue in this state
  pub shown : PartiesShow site old.words old.parties state
  pub is_party : IsParty old number party
  pub is_true : IsTrueOf site state.write state.waiting state.hand event
  -- after it the machine is the queue once the event happened
  pub leads_to : PartiesShow site new.words new.parties (state_after event state)
  -- the event is written down, unless it is quiet
  pub events : new.events ≡ old.events ++ option_to_list (told event)
  -- a reply, if there is one, says what the event was
  pub answers : ReplyIsTrue (side_unpublished party.side) answer event
  -- one word changed at most, and none outside the queue
  pub one_word : (place : ℕ)
      × ((other : ℕ) → (other ≡ place → ⊥)
      → slice_index new.words other ≡ slice_index old.words other)
  pub outside : KeepsOutside site.base (size site) old.words new.words

-- What a schedule came to: between two states of a machine, events, each true when it came, and
-- each written down.
pub record IsInterleaving (old new : QueueMachineState) : Type 0 where
  pub site : Site
  pub before : QueueState
  pub happened : List QueueEvent
  pub after : QueueState
  -- at first the machine is this queue in the state `before`
  pub shown : PartiesShow site old.words old.parties before
  -- the events lead from the queue before to the queue after, each true when it came
  pub run : Follows site before happened after
  -- at last the machine is the queue in the state `after`
  pub leads_to : PartiesShow site new.words new.parties after
  -- all these events are written down, and no others
  pub events : new.events ≡ old.events ++ happened
  -- the values that left and then those that wait are those that waited before and then those
  -- published
  pub order : before.waiting ++ published happened
      ≡ departed before.waiting happened ++ after.waiting
  -- no word changed outside the queue
  pub outside : KeepsOutside site.base (size site) old.words new.words
