-- The programs of the party that pushes, access by access: what is accessed, where the program goes
-- then, and what happens to the queue.
use Rattle.std.specs.Prelude.{ℕ, Bool, ◌+◌, ◌==◌, ◌||◌, if◌then◌else◌, Option, Some, None}
use Rattle.iox_steps.specs.declared.access.Access.{Access}
use Rattle.iox_steps.specs.declared.access.Access.TheVariants.{Load, Store, CompareExchange}
use Rattle.iox_steps.specs.declared.access.Next.{Next}
use Rattle.iox_steps.specs.declared.access.Next.TheVariants.{Goes, Ends}
use Rattle.iox_steps.specs.declared.site.QueueKind.{QueueKind}
use Rattle.iox_steps.specs.declared.site.QueueKind.TheVariants.{Index, Overflowing}
use Rattle.iox_steps.specs.declared.site.Site.{Site}
use Rattle.iox_steps.specs.declared.push.Push.{Push}
use Rattle.iox_steps.specs.declared.push.Push.TheVariants as push
use Rattle.iox_steps.specs.declared.push.PushReply.{PushReply}
use Rattle.iox_steps.specs.declared.push.PushReply.TheVariants.{Pushed, PushedOut, Refused}
use Rattle.iox_steps.specs.declared.push.FullLook.{FullLook}
use Rattle.iox_steps.specs.declared.push.FullLook.TheVariants as look
use Rattle.iox_steps.specs.declared.side.QueueEvent.{QueueEvent}
use Rattle.iox_steps.specs.declared.side.QueueEvent.TheVariants.{Quiet, Publish, Evict, Learn, SeesFull, SeesRoom, SeesEnd}
use Rattle.iox_steps.specs.Sites.{cell_at, last_position, position_after, is_full}

-- the access that a push makes next
abbrev pub push_access : Site → Push → Access
push_access site (push.LoadsWrite value) = Load site.base
push_access site (push.LoadsRead value write) = Load (site.base + 1)
push_access site (push.StoresCell value cell next full) = Store cell value
push_access site (push.StoresWrite value next full) = Store site.base next
push_access site (push.Evicts read) = CompareExchange (site.base + 1) read (position_after read)
push_access site (push.TakesOld cell) = Load cell

-- is a push refused that saw this of the last position and of a full queue?
abbrev pub is_refused : QueueKind → Bool → Bool → Bool
is_refused Index end full = end || full
is_refused Overflowing end full = end

-- the read position, if the queue is full there
abbrev pub full_at : Bool → ℕ → Option ℕ
full_at full read = if full then Some read else None

-- where a push goes once it saw both positions
abbrev pub with_positions : Site → ℕ → ℕ → ℕ → Next Push PushReply
with_positions site value write read = let full = is_full site read write in
    if is_refused site.kind (write == last_position) full then Ends (Refused value)
    else Goes (push.StoresCell value (cell_at site write) (write + 1) (full_at full read))

-- where a push goes once its value waits behind the others
abbrev pub once_published : Option ℕ → Next Push PushReply
once_published None = Ends Pushed
once_published (Some read) = Goes (push.Evicts read)

-- where a push goes after an access that found `seen`
abbrev pub push_next : Site → Push → ℕ → Next Push PushReply
push_next site (push.LoadsWrite value) seen = Goes (push.LoadsRead value seen)
push_next site (push.LoadsRead value write) seen = with_positions site value write seen
push_next site (push.StoresCell value cell next full) seen = Goes (push.StoresWrite value next full)
push_next site (push.StoresWrite value next full) seen = once_published full
push_next site (push.Evicts read) seen =
    if seen == read then Goes (push.TakesOld (cell_at site read)) else Ends Pushed
push_next site (push.TakesOld cell) seen = Ends (PushedOut seen)

-- whether the queue is full at these positions, as an event
abbrev pub room_event : Site → ℕ → ℕ → QueueEvent
room_event site read write = if is_full site read write then SeesFull else SeesRoom

-- what an access of a push does to the queue, or sees there
abbrev pub push_event : Site → Push → ℕ → QueueEvent
push_event site (push.LoadsWrite value) seen = Quiet
push_event site (push.LoadsRead value write) seen =
    if write == last_position then SeesEnd else room_event site seen write
push_event site (push.StoresCell value cell next full) seen = Quiet
push_event site (push.StoresWrite value next full) seen = Publish value
push_event site (push.Evicts read) seen = if seen == read then Evict else Quiet
push_event site (push.TakesOld cell) seen = Learn seen

-- the access that a look at fullness makes next
abbrev pub full_look_access : Site → FullLook → Access
full_look_access site look.LoadsWrite = Load site.base
full_look_access site (look.LoadsRead write) = Load (site.base + 1)

-- where a look at fullness goes after an access that found `seen`; it ends with whether the queue
-- is full
abbrev pub full_look_next : Site → FullLook → ℕ → Next FullLook Bool
full_look_next site look.LoadsWrite seen = Goes (look.LoadsRead seen)
full_look_next site (look.LoadsRead write) seen = Ends (is_full site seen write)

-- what an access of a look at fullness sees of the queue
abbrev pub full_look_event : Site → FullLook → ℕ → QueueEvent
full_look_event site look.LoadsWrite seen = Quiet
full_look_event site (look.LoadsRead write) seen = room_event site seen write
