-- The programs of the party that pops, access by access: what is accessed, where the program goes
-- then, and what happens to the queue.
use Rattle.std.specs.Prelude.{ℕ, Bool, true, ◌+◌, ◌==◌, if◌then◌else◌, Option, Some, None}
use Rattle.iox_steps.specs.declared.access.Access.{Access}
use Rattle.iox_steps.specs.declared.access.Access.TheVariants.{Load, Store, CompareExchange}
use Rattle.iox_steps.specs.declared.access.Next.{Next}
use Rattle.iox_steps.specs.declared.access.Next.TheVariants.{Goes, Ends}
use Rattle.iox_steps.specs.declared.site.QueueKind.{QueueKind}
use Rattle.iox_steps.specs.declared.site.QueueKind.TheVariants.{Index, Overflowing}
use Rattle.iox_steps.specs.declared.site.Site.{Site}
use Rattle.iox_steps.specs.declared.pop.Pop.{Pop}
use Rattle.iox_steps.specs.declared.pop.Pop.TheVariants as pop
use Rattle.iox_steps.specs.declared.pop.EmptyLook.{EmptyLook}
use Rattle.iox_steps.specs.declared.pop.EmptyLook.TheVariants as look
use Rattle.iox_steps.specs.declared.side.QueueEvent.{QueueEvent}
use Rattle.iox_steps.specs.declared.side.QueueEvent.TheVariants.{Quiet, HandOut, SeesEmpty, SeesWaiting}
use Rattle.iox_steps.specs.Sites.{cell_at, position_after, is_empty}

-- the access that moves the read position: a plain store where pushes never evict
abbrev pub take_access : QueueKind → ℕ → ℕ → Access
take_access Index place read = Store place (position_after read)
take_access Overflowing place read = CompareExchange place read (position_after read)

-- was the value taken by that access, which saw this?
abbrev pub is_taken : QueueKind → ℕ → ℕ → Bool
is_taken Index read seen = true
is_taken Overflowing read seen = seen == read

-- the access that a pop makes next
abbrev pub pop_access : Site → Pop → Access
pop_access site pop.LoadsRead = Load (site.base + 1)
pop_access site (pop.LoadsWrite read) = Load site.base
pop_access site (pop.LoadsCell read cell) = Load cell
pop_access site (pop.Takes read value) = take_access site.kind (site.base + 1) read

-- where a pop goes after an access that found `seen`
abbrev pub pop_next : Site → Pop → ℕ → Next Pop (Option ℕ)
pop_next site pop.LoadsRead seen = Goes (pop.LoadsWrite seen)
pop_next site (pop.LoadsWrite read) seen =
    if is_empty site read seen then Ends None else Goes (pop.LoadsCell read (cell_at site read))
pop_next site (pop.LoadsCell read cell) seen = Goes (pop.Takes read seen)
pop_next site (pop.Takes read value) seen =
    if is_taken site.kind read seen then Ends (Some value)
    else Goes (pop.LoadsCell seen (cell_at site seen))

-- whether a value waits at these positions, as an event
abbrev pub waiting_event : Site → ℕ → ℕ → QueueEvent
waiting_event site read write = if is_empty site read write then SeesEmpty else SeesWaiting

-- what an access of a pop does to the queue, or sees there
abbrev pub pop_event : Site → Pop → ℕ → QueueEvent
pop_event site pop.LoadsRead seen = Quiet
pop_event site (pop.LoadsWrite read) seen = waiting_event site read seen
pop_event site (pop.LoadsCell read cell) seen = Quiet
pop_event site (pop.Takes read value) seen =
    if is_taken site.kind read seen then HandOut value else Quiet

-- the access that a look at emptiness makes next
abbrev pub empty_look_access : Site → EmptyLook → Access
empty_look_access site look.LoadsRead = Load (site.base + 1)
empty_look_access site (look.LoadsWrite read) = Load site.base

-- where a look at emptiness goes after an access that found `seen`; it ends with whether the queue
-- is empty
abbrev pub empty_look_next : Site → EmptyLook → ℕ → Next EmptyLook Bool
empty_look_next site look.LoadsRead seen = Goes (look.LoadsWrite seen)
empty_look_next site (look.LoadsWrite read) seen = Ends (is_empty site read seen)

-- what an access of a look at emptiness sees of the queue
abbrev pub empty_look_event : Site → EmptyLook → ℕ → QueueEvent
empty_look_event site look.LoadsRead seen = Quiet
empty_look_event site (look.LoadsWrite read) seen = waiting_event site read seen
