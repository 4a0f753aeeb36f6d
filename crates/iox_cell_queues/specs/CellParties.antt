-- A party of a queue of values in a step machine.
use Rattle.std.specs.Prelude.{◌≡◌, ℕ, Bool, false, List, Option, Result, MatchResult}
use Rattle.iox_words.specs.declared.word_list.Words.{Ghosts}
use Rattle.iox_steps.specs.declared.access.Access.{Access}
use Rattle.iox_steps.specs.declared.access.Progress.{Progress}
use Rattle.iox_steps.specs.declared.push.FullLook.TheVariants as full_look
use Rattle.iox_steps.specs.declared.pop.EmptyLook.TheVariants as empty_look
use Rattle.iox_steps.specs.declared.error.MachineError.{MachineError}
use Rattle.iox_steps.specs.declared.error.MachineError.TheVariants.{UnknownParty, Busy}
use Rattle.iox_cell_queues.specs.declared.push.CellPush.TheVariants as push
use Rattle.iox_cell_queues.specs.declared.pop.CellPop.TheVariants as pop
use Rattle.iox_cell_queues.specs.declared.event.CellEvent.{CellEvent}
use Rattle.iox_cell_queues.specs.declared.event.CellReply.{CellReply}
use Rattle.iox_cell_queues.specs.declared.side.CellPushing.TheVariants as pushing
use Rattle.iox_cell_queues.specs.declared.side.CellPopping.TheVariants as popping
use Rattle.iox_cell_queues.specs.CellFits.{IsWhole}
use Rattle.iox_cell_queues.specs.CellEventLists.{told}
use Rattle.iox_cell_queues.specs.declared.queue.CellSide.{CellSide}
use Rattle.iox_cell_queues.specs.declared.queue.CellSide.TheVariants.{Pusher, Popper}
use Rattle.iox_cell_queues.specs.declared.queue.CellCall.{CellCall}
use Rattle.iox_cell_queues.specs.declared.queue.CellCall.TheVariants.{Push, IsFull, Pop, IsEmpty}
use Rattle.iox_cell_queues.specs.declared.queue.CellParty.{CellParty}
use Rattle.iox_cell_queues.specs.CellPartySides.{side_access, side_after, side_progress, side_event, rests}

-- a party at rest began a call of its side; a pushed value has `count` words and can be read back
-- from them
abbrev pub IsBegun : {A : Type 0} → {width : ℕ} → ℕ → (A → List ℕ) → (List ℕ → Option A)
    → CellSide A width → CellCall A → CellSide A width → Type 0
IsBegun count words of_words (Pusher pushes) (Push value) after = (pushes ≡ pushing.AtRest)
    × (after ≡ Pusher (pushing.Pushes (push.LoadsWrite value))) × IsWhole words of_words count value
IsBegun count words of_words (Pusher pushes) IsFull after = (pushes ≡ pushing.AtRest)
    × (after ≡ Pusher (pushing.Looks full_look.LoadsWrite))
IsBegun count words of_words (Popper pops) Pop after = (pops ≡ popping.AtRest)
    × (after ≡ Popper (popping.Pops pop.LoadsRead))
IsBegun count words of_words (Popper pops) IsEmpty after = (pops ≡ popping.AtRest)
    × (after ≡ Popper (popping.Looks empty_look.LoadsRead))
IsBegun count words of_words side call after = ⊥

-- why a call is not begun: first `UnknownParty`, if it is the other side's; then `Busy`, if a call
-- is under way
abbrev pub IsNotBegun : {A : Type 0} → {width : ℕ} → CellSide A width → CellCall A → MachineError
    → Type 0
IsNotBegun (Popper pops) (Push value) error = error ≡ UnknownParty
IsNotBegun (Popper pops) IsFull error = error ≡ UnknownParty
IsNotBegun (Pusher pushes) Pop error = error ≡ UnknownParty
IsNotBegun (Pusher pushes) IsEmpty error = error ≡ UnknownParty
IsNotBegun side call error = (error ≡ Busy) × (rests side ≡ false)

-- is the party at rest?
abbrev pub cell_rests : {A : Type 0} → {width : ℕ} → CellParty A width → Bool
cell_rests party = rests party.side

-- `W` has the words of the values
module _ {A : Type 0} {width : ℕ} (W : Ghosts A) where
  -- the access that the party makes next
  abbrev pub cell_asks : CellParty A width → Access
  cell_asks party = side_access W.words party.site party.side

  -- the event that is written down of an access that found `seen`, if there is one
  abbrev pub cell_happens : CellParty A width → ℕ → Option (CellEvent A)
  cell_happens party seen = told (side_event W.of_words party.site party.side seen)

  -- the party continues like this after an access that found this word, with this answer
  abbrev pub CellLeads : CellParty A width → ℕ → Progress (CellReply A) → CellParty A width → Type 0
  CellLeads party seen answer after = (after.site ≡ party.site)
      × (after.side ≡ side_after W.of_words party.site party.side seen)
      × (answer ≡ side_progress W.of_words party.site party.side seen)

  -- the begin of a call by a party: the party after it, or the refusal
  abbrev pub CellBegins : CellParty A width → CellCall A → Result (CellParty A width) MachineError
      → Type 0
  CellBegins party call result = MatchResult result
      (λ after. (after.site ≡ party.site)
      × IsBegun W.WORDS W.words W.of_words party.side call after.side)
      (λ error. IsNotBegun party.side call error)
