-- What the step machine of a queue of values does, step by step and for every schedule.
use Rattle.std.specs.Prelude.{◌≡◌, ℕ, ◌++◌, List, [], ◌∷◌, slice_index, Option, None}
use Rattle.std.specs.Option.{option_to_list}
use Rattle.iox_words.specs.declared.word_list.Words.{Ghosts}
use Rattle.iox_steps.specs.declared.access.Progress.{Progress}
use Rattle.iox_steps.specs.declared.error.MachineError.{MachineError}
use Rattle.iox_steps.specs.declared.machine.Entry.{Entry}
use Rattle.iox_steps.specs.Accesses.{KeepsOutside}
use Rattle.iox_steps.specs.MachineStates.{IsParty, Stepped, IsStepRefused, Begun, IsBeginRefused, AllEntered, StopsAtStep}
use Rattle.iox_cell_queues.specs.declared.site.CellSite.{CellSite}
use Rattle.iox_cell_queues.specs.declared.event.CellEvent.{CellEvent}
use Rattle.iox_cell_queues.specs.declared.event.CellReply.{CellReply}
use Rattle.iox_cell_queues.specs.Cells.{size}
use Rattle.iox_cell_queues.specs.CellEvents.{IsTrueOf}
use Rattle.iox_cell_queues.specs.CellFits.{Fits}
use Rattle.iox_cell_queues.specs.CellEventLists.{CellQueueState, state_after, Follows, published, departed, told}
use Rattle.iox_cell_queues.specs.CellAnswers.{unpublished, ReplyIsTrue}
use Rattle.iox_cell_queues.specs.declared.queue.CellSide.{CellSide}
use Rattle.iox_cell_queues.specs.declared.queue.CellSide.TheVariants.{Pusher, Popper}
use Rattle.iox_cell_queues.specs.declared.queue.CellCall.{CellCall}
use Rattle.iox_cell_queues.specs.declared.queue.CellParty.{CellParty}
use Rattle.iox_cell_queues.specs.CellParties.{cell_asks, cell_happens, cell_rests, CellLeads, CellBegins}
use Rattle.iox_cell_queues.specs.CellQueues.{CellMachineState}

-- the words and both parties are those of the queue at this site in this state
abbrev pub SidesShow : {A : Type 0} → {width : ℕ} → (A → List ℕ) → (List ℕ → Option A) → CellSite
    → List ℕ → CellSide A width → CellSide A width → CellQueueState A → Type 0
SidesShow words of_words site list (Pusher pushes) (Popper pops) state =
    (slice_index list site.base ≡ state.write)
    × Fits words of_words site (λ at. slice_index list at) state.waiting pushes pops
SidesShow words of_words site list a b state = ⊥

-- the value that this side's push has yet to publish
abbrev pub side_unpublished : {A : Type 0} → {width : ℕ} → CellSide A width → Option A
side_unpublished (Pusher pushes) = unpublished pushes
side_unpublished (Popper pops) = None

-- `W` has the words of the values
module _ {A : Type 0} {width : ℕ} (W : Ghosts A) where
  -- one access of the party of this number, whose call is under way, with its answer
  abbrev pub CellStepped : CellMachineState A width → ℕ → Progress (CellReply A) → CellMachineState A width
      → Type 0
  CellStepped = Stepped (cell_asks W) (CellLeads W) (cell_happens W) cell_rests (CellBegins W)

  -- why a step is refused
  abbrev pub IsCellStepRefused : CellMachineState A width → ℕ → MachineError → Type 0
  IsCellStepRefused =
      IsStepRefused (cell_asks W) (CellLeads W) (cell_happens W) cell_rests (CellBegins W)

  -- the party of this number began the call, and nothing else changed
  abbrev pub CellBegun : CellMachineState A width → ℕ → CellCall A → CellMachineState A width → Type 0
  CellBegun = Begun (cell_asks W) (CellLeads W) (cell_happens W) cell_rests (CellBegins W)

  -- why a begin is refused: there is no such party, or the party refuses the call
  abbrev pub IsCellBeginRefused : CellMachineState A width → ℕ → CellCall A → MachineError → Type 0
  IsCellBeginRefused =
      IsBeginRefused (cell_asks W) (CellLeads W) (cell_happens W) cell_rests (CellBegins W)

  -- all entries lead from one machine to the other, one after another
  abbrev pub AllCellsEntered : CellMachineState A width → List (Entry (CellCall A)) → CellMachineState A width
      → Type 0
  AllCellsEntered =
      AllEntered (cell_asks W) (CellLeads W) (cell_happens W) cell_rests (CellBegins W)

  -- a schedule that found no memory stopped before a step of a party whose call is under way
  abbrev pub CellsStopAtStep : CellMachineState A width → List (Entry (CellCall A)) → CellMachineState A width
      → Type 0
  CellsStopAtStep =
      StopsAtStep (cell_asks W) (CellLeads W) (cell_happens W) cell_rests (CellBegins W)

  -- the words and the list of both parties are those of the queue at this site in this state
  abbrev pub PartiesShow : CellSite → List ℕ → List (CellParty A width) → CellQueueState A → Type 0
  PartiesShow site list (a ∷ b ∷ []) state = (a.site ≡ site) × (b.site ≡ site)
      × SidesShow W.words W.of_words site list a.side b.side state
  PartiesShow site list parties state = ⊥

  -- One access of the party of this number is one event. It is true of the queue before, leads to
  -- the queue after, and is written down; a reply says it.
  pub record IsEvent (old : CellMachineState A width) (number : ℕ) (answer : Progress (CellReply A))
      (new : CellMachineState A width) : Type 0 where
    pub site : CellSite
    pub state : CellQueueState A
    pub party : CellParty A width
    pub event : CellEvent A
    -- before the access the machine is this queue in this state
    pub shown : PartiesShow site old.words old.parties state
    pub is_party : IsParty old number party
    pub is_true : IsTrueOf site state.write state.waiting event
    -- after it the machine is the queue once the event happened
    pub leads_to : PartiesShow site new.words new.parties (state_after event state)
    -- the event is written down, unless it is quiet
    pub events : new.events ≡ old.events ++ option_to_list (told event)
    -- a reply, if there is one, says what the event was
    pub answers : ReplyIsTrue (side_unpublished party.side) answer event
    -- one word changed at most, and none outside the queue
    pub one_word : (at : ℕ)
        × ((other : ℕ) → (other ≡ at → ⊥)
        → slice_index new.words other ≡ slice_index old.words other)
    pub outside : KeepsOutside site.base (size site) old.words new.words

  -- What a schedule came to: between two states of a machine, events, each true when it came, and
  -- each written down.
  pub record IsInterleaving (old new : CellMachineState A width) : Type 0 where
    pub site : CellSite
    pub before : CellQueueState A
    pub happened : List (CellEvent A)
    pub after : CellQueueState A
    -- at first the machine is this queue in the state `before`
    pub shown : PartiesShow site old.words old.parties before
    -- the events lead from the queue before to the queue after, each true when it came
    pub run : Follows site before happened after
    -- at last the machine is the queue in the state `after`
    pub leads_to : PartiesShow site new.words new.parties after
    -- all these events are written down, and no others
    pub events : new.events ≡ old.events ++ happened
    -- the values that left and then those that wait are those that waited before and then those
    -- published
    pub order : before.waiting ++ published happened ≡ departed happened ++ after.waiting
    -- no word changed outside the queue
    pub outside : KeepsOutside site.base (size site) old.words new.words
