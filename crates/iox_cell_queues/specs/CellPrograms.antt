-- The programs of a push and of a pop of a value of several words, access by access. `words` gives
-- the words of a value, and `of_words` the value of words.
use Rattle.std.specs.Prelude.{ℕ, Bool, true, false, ◌+◌, ◌==◌, ◌||◌, List, slice_index, slice_set, replicate, nat_le, if◌then◌else◌, Option, Some, None}
use Rattle.iox_steps.specs.declared.access.Access.{Access}
use Rattle.iox_steps.specs.declared.access.Access.TheVariants.{Load, Store}
use Rattle.iox_steps.specs.declared.access.Next.{Next}
use Rattle.iox_steps.specs.declared.access.Next.TheVariants.{Goes, Ends}
use Rattle.iox_steps.specs.declared.push.FullLook.{FullLook}
use Rattle.iox_steps.specs.declared.push.FullLook.TheVariants as full_look
use Rattle.iox_steps.specs.declared.pop.EmptyLook.{EmptyLook}
use Rattle.iox_steps.specs.declared.pop.EmptyLook.TheVariants as empty_look
use Rattle.iox_steps.specs.Sites.{last_position, position_after}
use Rattle.iox_cell_queues.specs.declared.site.CellSite.{CellSite}
use Rattle.iox_cell_queues.specs.declared.push.CellPush.{CellPush}
use Rattle.iox_cell_queues.specs.declared.push.CellPush.TheVariants as push
use Rattle.iox_cell_queues.specs.declared.pop.CellPop.{CellPop}
use Rattle.iox_cell_queues.specs.declared.pop.CellPop.TheVariants as pop
use Rattle.iox_cell_queues.specs.Cells.{cell_at, is_full, is_empty}

-- the access that a push makes next
abbrev pub push_access : {A : Type 0} → (A → List ℕ) → CellSite → CellPush A → Access
push_access words site (push.LoadsWrite value) = Load site.base
push_access words site (push.LoadsRead value write) = Load (site.base + 1)
push_access words site (push.StoresWord value cell next word) =
    Store (cell + word) (slice_index (words value) word)
push_access words site (push.StoresWrite value next) = Store site.base next

-- the push that stores the words from this one on, and then the write position
abbrev pub store_from : {A : Type 0} → CellSite → A → ℕ → ℕ → ℕ → CellPush A
store_from site value cell next word = if nat_le site.width word then push.StoresWrite value next
    else push.StoresWord value cell next word

-- where a push goes after an access that found `seen`; it ends with whether there was room
abbrev pub push_next : {A : Type 0} → CellSite → CellPush A → ℕ → Next (CellPush A) Bool
push_next site (push.LoadsWrite value) seen = Goes (push.LoadsRead value seen)
push_next site (push.LoadsRead value write) seen =
    if (write == last_position) || is_full site seen write then Ends false
    else Goes (store_from site value (cell_at site write) (write + 1) 0)
push_next site (push.StoresWord value cell next word) seen =
    Goes (store_from site value cell next (word + 1))
push_next site (push.StoresWrite value next) seen = Ends true

-- the access that a pop makes next
abbrev pub pop_access : {width : ℕ} → CellSite → CellPop width → Access
pop_access site pop.LoadsRead = Load (site.base + 1)
pop_access site (pop.LoadsWrite read) = Load site.base
pop_access site (pop.LoadsWord read cell got loaded) = Load (cell + loaded)
pop_access site (pop.StoresRead read got) = Store (site.base + 1) (position_after read)

-- the pop that loads the words from this one on, and then stores the read position
abbrev pub load_from : {width : ℕ} → CellSite → ℕ → ℕ → List ℕ → ℕ → CellPop width
load_from site read cell got loaded = if nat_le site.width loaded then pop.StoresRead read got
    else pop.LoadsWord read cell got loaded

-- where a pop goes after an access that found `seen`; it ends with the value, if one waited
abbrev pub pop_next : {A : Type 0} → {width : ℕ} → (List ℕ → Option A) → CellSite → CellPop width → ℕ
    → Next (CellPop width) (Option A)
pop_next of_words site pop.LoadsRead seen = Goes (pop.LoadsWrite seen)
pop_next of_words site (pop.LoadsWrite read) seen = if is_empty site read seen then Ends None
    else Goes (load_from site read (cell_at site read) (replicate site.width 0) 0)
pop_next of_words site (pop.LoadsWord read cell got loaded) seen =
    Goes (load_from site read cell (slice_set got loaded seen) (loaded + 1))
pop_next of_words site (pop.StoresRead read got) seen = Ends (of_words got)

-- how a program continues that ended with this reply, or is at this place now
abbrev pub goes_or_ends : {P R : Type 0} → Option R → P → Next P R
goes_or_ends None place = Goes place
goes_or_ends (Some reply) place = Ends reply

-- the access that a look at fullness makes next
abbrev pub full_look_access : CellSite → FullLook → Access
full_look_access site full_look.LoadsWrite = Load site.base
full_look_access site (full_look.LoadsRead write) = Load (site.base + 1)

-- where a look at fullness goes after an access that found `seen`; it ends with whether the queue
-- is full
abbrev pub full_look_next : CellSite → FullLook → ℕ → Next FullLook Bool
full_look_next site full_look.LoadsWrite seen = Goes (full_look.LoadsRead seen)
full_look_next site (full_look.LoadsRead write) seen = Ends (is_full site seen write)

-- the access that a look at emptiness makes next
abbrev pub empty_look_access : CellSite → EmptyLook → Access
empty_look_access site empty_look.LoadsRead = Load (site.base + 1)
empty_look_access site (empty_look.LoadsWrite read) = Load site.base

-- where a look at emptiness goes after an access that found `seen`; it ends with whether the queue
-- is empty
abbrev pub empty_look_next : CellSite → EmptyLook → ℕ → Next EmptyLook Bool
empty_look_next site empty_look.LoadsRead seen = Goes (empty_look.LoadsWrite seen)
empty_look_next site (empty_look.LoadsWrite read) seen = Ends (is_empty site read seen)
