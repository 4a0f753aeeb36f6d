-- What an access does to the waiting values, and what its event says of them.
use Rattle.std.specs.Prelude.{◌≡◌, ℕ, ◌==◌, ◌<◌, ◌++◌, List, [], ◌∷◌, length, if◌then◌else◌, Option, Some, None}
use Rattle.iox_steps.specs.declared.push.FullLook.{FullLook}
use Rattle.iox_steps.specs.declared.push.FullLook.TheVariants as full_look
use Rattle.iox_steps.specs.declared.pop.EmptyLook.{EmptyLook}
use Rattle.iox_steps.specs.declared.pop.EmptyLook.TheVariants as empty_look
use Rattle.iox_steps.specs.Sites.{last_position}
use Rattle.iox_cell_queues.specs.declared.site.CellSite.{CellSite}
use Rattle.iox_cell_queues.specs.declared.push.CellPush.{CellPush}
use Rattle.iox_cell_queues.specs.declared.push.CellPush.TheVariants as push
use Rattle.iox_cell_queues.specs.declared.pop.CellPop.{CellPop}
use Rattle.iox_cell_queues.specs.declared.pop.CellPop.TheVariants as pop
use Rattle.iox_cell_queues.specs.declared.event.CellEvent.{CellEvent}
use Rattle.iox_cell_queues.specs.declared.event.CellEvent.TheVariants.{Quiet, Publish, HandOut, SeesEmpty, SeesWaiting, SeesFull, SeesRoom, SeesEnd}
use Rattle.iox_cell_queues.specs.Cells.{is_full, is_empty}

-- whether the queue is full at these positions, as an event
abbrev pub room_event : {A : Type 0} → CellSite → ℕ → ℕ → CellEvent A
room_event site read write = if is_full site read write then SeesFull else SeesRoom

-- what an access of a push does to the queue, or sees there
abbrev pub push_event : {A : Type 0} → CellSite → CellPush A → ℕ → CellEvent A
push_event site (push.LoadsWrite value) seen = Quiet
push_event site (push.LoadsRead value write) seen = if write == last_position then SeesEnd
    else room_event site seen write
push_event site (push.StoresWord value cell next word) seen = Quiet
push_event site (push.StoresWrite value next) seen = Publish value

-- whether a value waits at these positions, as an event
abbrev pub waiting_event : {A : Type 0} → CellSite → ℕ → ℕ → CellEvent A
waiting_event site read write = if is_empty site read write then SeesEmpty else SeesWaiting

-- the event of a value that leaves, if the words are those of a value
abbrev pub departed_as : {A : Type 0} → Option A → CellEvent A
departed_as (Some value) = HandOut value
departed_as None = Quiet

-- what an access of a pop does to the queue, or sees there
abbrev pub pop_event : {A : Type 0} → {width : ℕ} → (List ℕ → Option A) → CellSite → CellPop width
    → ℕ → CellEvent A
pop_event of_words site pop.LoadsRead seen = Quiet
pop_event of_words site (pop.LoadsWrite read) seen = waiting_event site read seen
pop_event of_words site (pop.LoadsWord read cell got loaded) seen = Quiet
pop_event of_words site (pop.StoresRead read got) seen = departed_as (of_words got)

-- what an access of a look at fullness sees of the queue
abbrev pub full_look_event : {A : Type 0} → CellSite → FullLook → ℕ → CellEvent A
full_look_event site full_look.LoadsWrite seen = Quiet
full_look_event site (full_look.LoadsRead write) seen = room_event site seen write

-- what an access of a look at emptiness sees of the queue
abbrev pub empty_look_event : {A : Type 0} → CellSite → EmptyLook → ℕ → CellEvent A
empty_look_event site empty_look.LoadsRead seen = Quiet
empty_look_event site (empty_look.LoadsWrite read) seen = waiting_event site read seen

-- all but the first
abbrev pub rest : {A : Type 0} → List A → List A
rest [] = []
rest (first ∷ others) = others

-- the values that wait after an event, oldest first
abbrev pub waiting_after : {A : Type 0} → CellEvent A → List A → List A
waiting_after (Publish value) waiting = waiting ++ value ∷ []
waiting_after (HandOut value) waiting = rest waiting
waiting_after event waiting = waiting

-- what an event says is true of a queue with this write position and these waiting values
abbrev pub IsTrueOf : {A : Type 0} → CellSite → ℕ → List A → CellEvent A → Type 0
IsTrueOf site write waiting Quiet = Unit {0}
-- there is a cell, and a position after this one
IsTrueOf site write waiting (Publish value) =
    (length waiting < site.capacity) × (write < last_position)
IsTrueOf site write waiting (HandOut value) = waiting ≡ value ∷ rest waiting
IsTrueOf site write waiting SeesEmpty = waiting ≡ []
IsTrueOf site write waiting SeesWaiting = 0 < length waiting
IsTrueOf site write waiting SeesFull = length waiting ≡ site.capacity
IsTrueOf site write waiting SeesRoom = length waiting < site.capacity
IsTrueOf site write waiting SeesEnd = write ≡ last_position
