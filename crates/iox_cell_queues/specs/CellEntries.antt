-- What a schedule makes of the step machine of a queue of values, as functions, and where the queue
-- stands.
use Rattle.std.specs.Prelude.{ℕ, Bool, List, [], ◌∷◌, Option, Some, None}
use Rattle.std.specs.List.{slice_get}
use Rattle.std.specs.Option.{option_map}
use Rattle.iox_words.specs.declared.word_list.Words.{Ghosts}
use Rattle.iox_steps.specs.declared.access.Access.{Access}
use Rattle.iox_steps.specs.declared.access.Progress.{Progress}
use Rattle.iox_steps.specs.declared.access.Progress.TheVariants.{Going}
use Rattle.iox_steps.specs.declared.machine.Entry.{Entry}
use Rattle.iox_steps.specs.declared.push.FullLook.TheVariants as full_look
use Rattle.iox_steps.specs.declared.pop.EmptyLook.TheVariants as empty_look
use Rattle.iox_steps.specs.MachineStates.{MachineState, seen_in}
use Rattle.iox_steps.specs.Entries.{of_party, seen_as, entered, all_entered}
use Rattle.iox_cell_queues.specs.declared.site.CellSite.{CellSite}
use Rattle.iox_cell_queues.specs.declared.push.CellPush.TheVariants as push
use Rattle.iox_cell_queues.specs.declared.pop.CellPop.TheVariants as pop
use Rattle.iox_cell_queues.specs.declared.event.CellEvent.{CellEvent}
use Rattle.iox_cell_queues.specs.declared.event.CellReply.{CellReply}
use Rattle.iox_cell_queues.specs.declared.side.CellPushing.TheVariants as pushing
use Rattle.iox_cell_queues.specs.declared.side.CellPopping.TheVariants as popping
use Rattle.iox_cell_queues.specs.CellContents.{values}
use Rattle.iox_cell_queues.specs.CellEventLists.{told}
use Rattle.iox_cell_queues.specs.declared.queue.CellSide.{CellSide}
use Rattle.iox_cell_queues.specs.declared.queue.CellSide.TheVariants.{Pusher, Popper}
use Rattle.iox_cell_queues.specs.declared.queue.CellCall.{CellCall}
use Rattle.iox_cell_queues.specs.declared.queue.CellCall.TheVariants.{Push, IsFull, Pop, IsEmpty}
use Rattle.iox_cell_queues.specs.declared.queue.CellParty.{CellParty}
use Rattle.iox_cell_queues.specs.CellPartySides.{side_access, side_after, side_progress, side_event, rests}
use Rattle.iox_cell_queues.specs.CellQueues.{CellMachineState}

-- a party as clauses see it: the site of its queue, which of the two it is, and where it is in its
-- call
pub record PartyView (A : Type 0) (width : ℕ) : Type 0 where
  pub site : CellSite
  pub side : CellSide A width

-- the party as clauses see it
abbrev pub party_view : {A : Type 0} → {width : ℕ} → CellParty A width → PartyView A width
party_view party = record { site = party.site; side = party.side }

-- a step machine as clauses see it
abbrev pub PlainMachineState : Type 0 → ℕ → Type 0
PlainMachineState A width = MachineState (PartyView A width) (CellEvent A)

-- the step machine with each party as clauses see it
abbrev pub plain : {A : Type 0} → {width : ℕ} → CellMachineState A width → PlainMachineState A width
plain machine = seen_as party_view machine

-- a new machine: these words, both parties at rest at this queue, and no event
abbrev pub new_machine : {A : Type 0} → {width : ℕ} → List ℕ → CellSite → PlainMachineState A width
new_machine list site = record {
  words = list;
  parties = record { site = site; side = Pusher pushing.AtRest }
      ∷ record { site = site; side = Popper popping.AtRest } ∷ [];
  events = [];
}

-- where the queue stands: the site of party 0; a machine always has two parties
abbrev pub site_of : {A : Type 0} → {width : ℕ} → CellMachineState A width → CellSite
site_of machine = of_party (record { base = 0; capacity = 0; width = 0 }) (λ party. party.site)
    (slice_get machine.parties 0)

-- the side once it began the call: a party at rest begins the calls of its side, and no others
abbrev pub side_begun : {A : Type 0} → {width : ℕ} → CellSide A width → CellCall A
    → Option (CellSide A width)
side_begun (Pusher pushing.AtRest) (Push value) =
    Some (Pusher (pushing.Pushes (push.LoadsWrite value)))
side_begun (Pusher pushing.AtRest) IsFull = Some (Pusher (pushing.Looks full_look.LoadsWrite))
side_begun (Popper popping.AtRest) Pop = Some (Popper (popping.Pops pop.LoadsRead))
side_begun (Popper popping.AtRest) IsEmpty = Some (Popper (popping.Looks empty_look.LoadsRead))
side_begun side call = None

-- the party once it began the call, if it may
abbrev pub plain_begun : {A : Type 0} → {width : ℕ} → PartyView A width → CellCall A
    → Option (PartyView A width)
plain_begun party call =
    option_map (λ side. record { site = party.site; side = side }) (side_begun party.side call)

-- is the party at rest?
abbrev pub plain_rests : {A : Type 0} → {width : ℕ} → PartyView A width → Bool
plain_rests party = rests party.side

-- `W` has the words of the values
module _ {A : Type 0} {width : ℕ} (W : Ghosts A) where
  -- the values that wait, as the words hold them
  abbrev pub waiting_of : CellMachineState A width → List A
  waiting_of machine = values W (site_of machine) machine.words

  -- the access that the party makes next
  abbrev pub plain_asks : PartyView A width → Access
  plain_asks party = side_access W.words party.site party.side

  -- the event that is written down of an access that found `seen`, if there is one
  abbrev pub plain_happens : PartyView A width → ℕ → Option (CellEvent A)
  plain_happens party seen = told (side_event W.of_words party.site party.side seen)

  -- where a party is after an access that found this word
  abbrev pub plain_goes : PartyView A width → ℕ → PartyView A width
  plain_goes party seen =
      record { site = party.site; side = side_after W.of_words party.site party.side seen }

  -- the machine after one entry of a schedule
  abbrev pub plain_entered : PlainMachineState A width → Entry (CellCall A) → PlainMachineState A width
  plain_entered = entered plain_asks plain_goes plain_happens plain_rests plain_begun

  -- the machine after all entries of a schedule
  abbrev pub plain_after : PlainMachineState A width → List (Entry (CellCall A)) → PlainMachineState A width
  plain_after = all_entered plain_asks plain_goes plain_happens plain_rests plain_begun

  -- what the next access of the party of this number answers
  abbrev pub plain_answer : PlainMachineState A width → ℕ → Progress (CellReply A)
  plain_answer machine number = of_party Going
      (λ party. side_progress W.of_words party.site party.side (seen_in machine (plain_asks party)))
      (slice_get machine.parties number)

-- a new machine with cells of `width` words, after these entries
abbrev pub new_after : {A : Type 0} → Ghosts A → (width : ℕ) → List ℕ → CellSite
    → List (Entry (CellCall A)) → PlainMachineState A width
new_after W width list site entries = plain_after W (new_machine list site) entries
