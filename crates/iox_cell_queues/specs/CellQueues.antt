-- What holds of the two parties of a queue of values at all times.
use Rattle.std.specs.Prelude.{◌≡◌, ℕ, ◌+◌, List, [], ◌∷◌, slice_index, Option}
use Rattle.iox_words.specs.declared.word_list.Words.{Ghosts}
use Rattle.iox_steps.specs.MachineStates.{MachineState}
use Rattle.iox_cell_queues.specs.declared.site.CellSite.{CellSite}
use Rattle.iox_cell_queues.specs.declared.event.CellEvent.{CellEvent}
use Rattle.iox_cell_queues.specs.declared.side.CellPushing.TheVariants as pushing
use Rattle.iox_cell_queues.specs.declared.side.CellPopping.TheVariants as popping
use Rattle.iox_cell_queues.specs.CellAfterCalls.{AfterCalls}
use Rattle.iox_cell_queues.specs.declared.queue.CellSide.{CellSide}
use Rattle.iox_cell_queues.specs.declared.queue.CellSide.TheVariants.{Pusher, Popper}
use Rattle.iox_cell_queues.specs.declared.queue.CellParty.{CellParty}

-- a step machine of a queue of values: words, the two parties, and the events so far
abbrev pub CellMachineState : Type 0 → ℕ → Type 0
CellMachineState A width = MachineState (CellParty A width) (CellEvent A)

-- words and both sides, the pushing one first, as they are after any calls with these events
abbrev pub BothAfterCalls : {A : Type 0} → {width : ℕ} → (A → List ℕ) → (List ℕ → Option A) → CellSite
    → List ℕ → CellSide A width → CellSide A width → List (CellEvent A) → Type 0
BothAfterCalls words of_words site list (Pusher pushes) (Popper pops) events =
    AfterCalls words of_words site list pushes pops events
BothAfterCalls words of_words site list a b events = ⊥

-- `W` has the words of the values
module _ {A : Type 0} {width : ℕ} (W : Ghosts A) where
  -- party 0 pushes and looks at fullness, party 1 pops and looks at emptiness, both at one queue
  abbrev pub PartiesAfterCalls : List ℕ → List (CellParty A width) → List (CellEvent A) → Type 0
  PartiesAfterCalls list (a ∷ b ∷ []) events = (b.site ≡ a.site)
      × BothAfterCalls W.words W.of_words a.site list a.side b.side events
  PartiesAfterCalls list parties events = ⊥

  -- what holds of the machine at all times; a cell has as many words as a value
  abbrev pub CellInvariant : CellMachineState A width → Type 0
  CellInvariant machine = (W.WORDS ≡ width) × PartiesAfterCalls machine.words machine.parties machine.events

-- these are the two parties of the queue at this site, both at rest
abbrev pub AtRestAt : {A : Type 0} → {width : ℕ} → CellSite → List (CellParty A width) → Type 0
AtRestAt site (a ∷ b ∷ []) = (a.site ≡ site) × (b.site ≡ site)
    × (a.side ≡ Pusher pushing.AtRest)
    × (b.side ≡ Popper popping.AtRest)
AtRestAt site parties = ⊥

-- a new machine: these words, both parties at rest at this queue, and no event
abbrev pub IsNewMachine : {A : Type 0} → {width : ℕ} → List ℕ → CellSite → CellMachineState A width → Type 0
IsNewMachine list site machine = (machine.words ≡ list) × AtRestAt site machine.parties
    × (machine.events ≡ [])

-- the two positions of the queue at this site are equal, so that nothing waits
abbrev pub IsEmptyAt : CellSite → List ℕ → Type 0
IsEmptyAt site list = slice_index list site.base ≡ slice_index list (site.base + 1)
