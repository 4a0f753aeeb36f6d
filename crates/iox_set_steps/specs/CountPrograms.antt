-- The program of a party at counts, access by access: what is accessed, where the program goes
-- then, and its event.
use Rattle.std.specs.Prelude.{ℕ, true, false, ◌+◌, ◌-◌, ◌^◌, ◌==◌, Option, Some, None, if◌then◌else◌, min, nat_lt}
use Rattle.iox_steps.specs.declared.access.Access.{Access}
use Rattle.iox_steps.specs.declared.access.Access.TheVariants.{Local, Load, CompareExchange, FetchAnd}
use Rattle.iox_steps.specs.declared.access.Next.{Next}
use Rattle.iox_steps.specs.declared.access.Next.TheVariants.{Goes, Ends}
use Rattle.iox_steps.specs.declared.access.Progress.{Progress}
use Rattle.iox_set_steps.specs.declared.counting_bit_set.CountSite.{CountSite}
use Rattle.iox_set_steps.specs.declared.counting_bit_set.CountCall.{CountCall}
use Rattle.iox_set_steps.specs.declared.counting_bit_set.CountCall.TheVariants as call
use Rattle.iox_set_steps.specs.declared.counting_bit_set.CountReply.{CountReply}
use Rattle.iox_set_steps.specs.declared.counting_bit_set.CountReply.TheVariants as reply
use Rattle.iox_set_steps.specs.declared.counting_bit_set.CountEvent.{CountEvent}
use Rattle.iox_set_steps.specs.declared.counting_bit_set.CountEvent.TheVariants as event
use Rattle.iox_set_steps.specs.declared.counting_bit_set.CountProgram.{CountProgram}
use Rattle.iox_set_steps.specs.declared.counting_bit_set.CountProgram.TheVariants.{AtRest, Replies, Loads, Exchanges, Takes}
use Rattle.iox_set_steps.specs.Counts.{max_count, place_of_count}
use Rattle.iox_set_steps.specs.Kinds.{goes_to, progress_by}

-- the access that the program makes next; at rest, or where only a reply is left, it names no word
abbrev pub count_access : CountSite → CountProgram → Access
count_access site AtRest = Local
count_access site (Replies reply) = Local
count_access site (Loads id) = Load (place_of_count site id)
count_access site (Exchanges id count) = CompareExchange (place_of_count site id) count (min (count + 1) max_count)
count_access site (Takes id) = FetchAnd (place_of_count site id) 0

-- the program goes to add one to the count that it saw; at the greatest count it ends instead
abbrev pub adds_to : ℕ → ℕ → Next CountProgram CountReply
adds_to id count = if count == max_count then Ends (reply.Set false) else Goes (Exchanges id count)

-- the program continues at the next count, if there is one, or ends
abbrev pub taken_behind : CountSite → ℕ → Next CountProgram CountReply
taken_behind site id = if nat_lt (min (id + 1) (2 ^ 64 - 1)) site.capacity then Goes (Takes (min (id + 1) (2 ^ 64 - 1))) else Ends reply.ResetAll

-- where the program goes after an access that found `seen`
abbrev pub count_next : CountSite → CountProgram → ℕ → Next CountProgram CountReply
count_next site AtRest seen = Goes AtRest
count_next site (Replies reply) seen = Ends reply
count_next site (Loads id) seen = adds_to id seen
-- another party was faster: it tries again with the count that is there now
count_next site (Exchanges id count) seen = if seen == count then Ends (reply.Set true) else adds_to id seen
count_next site (Takes id) seen = taken_behind site id

-- what an access that found `seen` does to the counts, if anything
abbrev pub count_event : CountProgram → ℕ → Option CountEvent
count_event AtRest seen = None
count_event (Replies reply) seen = None
count_event (Loads id) seen = None
count_event (Exchanges id count) seen = if seen == count then Some (event.Added id) else None
count_event (Takes id) seen = if seen == 0 then None else Some (event.Taken id seen)

-- the first access of a call
abbrev pub count_start : CountSite → CountCall → CountProgram
count_start site (call.Set id) = if nat_lt id site.capacity then Loads id else Replies (reply.Set false)
count_start site call.ResetAll = if site.capacity == 0 then Replies reply.ResetAll else Takes 0

-- the program after an access: it continues, or is at rest
abbrev pub program_of : Next CountProgram CountReply → CountProgram
program_of = goes_to AtRest

-- whether the call continues, and else its reply
abbrev pub progress_of : Next CountProgram CountReply → Progress CountReply
progress_of = progress_by
