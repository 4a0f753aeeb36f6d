-- Either party of a queue of values: its access, where it goes then, what it answers, and its
-- event.
use Rattle.std.specs.Prelude.{ℕ, Bool, true, false, List, Option}
use Rattle.std.specs.Coded.{Coded, prop_coded, ×_prop, Unit-prop, le_prop}
use Rattle.iox_steps.specs.declared.access.Access.{Access}
use Rattle.iox_steps.specs.declared.access.Progress.{Progress}
use Rattle.iox_cell_queues.specs.declared.site.CellSite.{CellSite}
use Rattle.iox_cell_queues.specs.declared.event.CellEvent.{CellEvent}
use Rattle.iox_cell_queues.specs.declared.event.CellReply.{CellReply}
use Rattle.iox_cell_queues.specs.declared.push.CellPush.TheVariants as push
use Rattle.iox_cell_queues.specs.declared.pop.CellPop.TheVariants as pop
use Rattle.iox_cell_queues.specs.declared.side.CellPushing.TheVariants as pushing
use Rattle.iox_cell_queues.specs.declared.side.CellPopping.TheVariants as popping
use Rattle.iox_cell_queues.specs.CellSides.{pushing_access, pushing_after, pushing_progress, pushing_event}
use Rattle.iox_cell_queues.specs.CellSides.{popping_access, popping_after, popping_progress, popping_event}
use Rattle.iox_cell_queues.specs.CellReady.{IsWordInMemory, IsPusherReady, IsPopperReady}
use Rattle.iox_cell_queues.specs.declared.queue.CellSide.{CellSide}
use Rattle.iox_cell_queues.specs.declared.queue.CellSide.TheVariants.{Pusher, Popper}

-- the access that a side makes next
abbrev pub side_access : {A : Type 0} → {width : ℕ} → (A → List ℕ) → CellSite → CellSide A width
    → Access
side_access words site (Pusher pushes) = pushing_access words site pushes
side_access words site (Popper pops) = popping_access site pops

module _ {A : Type 0} {width : ℕ} (of_words : List ℕ → Option A) (site : CellSite) where
  -- the side after an access that found `seen`
  abbrev pub side_after : CellSide A width → ℕ → CellSide A width
  side_after (Pusher pushes) seen = Pusher (pushing_after site pushes seen)
  side_after (Popper pops) seen = Popper (popping_after of_words site pops seen)

  -- whether the side's call continues after an access that found `seen`, and else its reply
  abbrev pub side_progress : CellSide A width → ℕ → Progress (CellReply A)
  side_progress (Pusher pushes) seen = pushing_progress site pushes seen
  side_progress (Popper pops) seen = popping_progress of_words site pops seen

  -- what an access of the side, which found `seen`, does to the queue or sees there
  abbrev pub side_event : CellSide A width → ℕ → CellEvent A
  side_event (Pusher pushes) seen = pushing_event site pushes seen
  side_event (Popper pops) seen = popping_event of_words site pops seen

-- no call is under way
abbrev pub rests : {A : Type 0} → {width : ℕ} → CellSide A width → Bool
rests (Pusher pushing.AtRest) = true
rests (Popper popping.AtRest) = true
rests side = false

-- the word of a cell that it stores or loads next is in memory
abbrev pub IsSideReady : {A : Type 0} → {width : ℕ} → CellSite → CellSide A width → Type 0
IsSideReady site (Pusher pushes) = IsPusherReady site pushes
IsSideReady site (Popper pops) = IsPopperReady site pops

-- ---- proofs that a ghost field of the code needs

-- two proofs that such a word is in memory are equal
IsWordInMemory-prop : (site : CellSite) (cell word : ℕ) → IsProp (IsWordInMemory site cell word)
IsWordInMemory-prop site cell word = ×_prop le_prop le_prop

-- two proofs that a side is ready are equal
pub IsSideReady-prop : {A : Type 0} → {width : ℕ} → (site : CellSite) (side : CellSide A width)
    → IsProp (IsSideReady site side)
IsSideReady-prop site (Pusher pushing.AtRest) = Unit-prop
IsSideReady-prop site (Pusher (pushing.Pushes (push.LoadsWrite value))) = Unit-prop
IsSideReady-prop site (Pusher (pushing.Pushes (push.LoadsRead value write))) = Unit-prop
IsSideReady-prop site (Pusher (pushing.Pushes (push.StoresWord value cell next stored))) =
    IsWordInMemory-prop site cell stored
IsSideReady-prop site (Pusher (pushing.Pushes (push.StoresWrite value next))) = Unit-prop
IsSideReady-prop site (Pusher (pushing.Looks look)) = Unit-prop
IsSideReady-prop site (Popper popping.AtRest) = Unit-prop
IsSideReady-prop site (Popper (popping.Pops pop.LoadsRead)) = Unit-prop
IsSideReady-prop site (Popper (popping.Pops (pop.LoadsWrite read))) = Unit-prop
IsSideReady-prop site (Popper (popping.Pops (pop.LoadsWord read cell got loaded))) =
    IsWordInMemory-prop site cell loaded
IsSideReady-prop site (Popper (popping.Pops (pop.StoresRead read got))) = Unit-prop
IsSideReady-prop site (Popper (popping.Looks look)) = Unit-prop

-- a proof that a side is ready, coded as a value
pub ready_code : {A : Type 0} → {width : ℕ} → (site : CellSite) (side : CellSide A width)
    → Coded (IsSideReady site side)
ready_code site side = prop_coded (IsSideReady-prop site side)
