-- The program of a party at bits, access by access: what is accessed, where the program goes then,
-- and its event.
use Rattle.std.specs.Prelude.{ℕ, Bool, false, ◌+◌, ◌-◌, ◌*◌, ◌/◌, ◌%◌, ◌^◌, ◌==◌, Option, Some, None, if◌then◌else◌, min, nat_lt, not}
use Rattle.std.specs.Int.{bit_at, bit_not, trailing_zeros, w64}
use Rattle.iox_steps.specs.declared.access.Access.{Access}
use Rattle.iox_steps.specs.declared.access.Access.TheVariants.{Local, Load, FetchOr, FetchAnd}
use Rattle.iox_steps.specs.declared.access.Next.{Next}
use Rattle.iox_steps.specs.declared.access.Next.TheVariants.{Goes, Ends}
use Rattle.iox_steps.specs.declared.access.Progress.{Progress}
use Rattle.iox_set_steps.specs.declared.bit_set.BitSite.{BitSite}
use Rattle.iox_set_steps.specs.declared.bit_set.BitCall.{BitCall}
use Rattle.iox_set_steps.specs.declared.bit_set.BitCall.TheVariants as call
use Rattle.iox_set_steps.specs.declared.bit_set.BitReply.{BitReply}
use Rattle.iox_set_steps.specs.declared.bit_set.BitReply.TheVariants as reply
use Rattle.iox_set_steps.specs.declared.bit_set.BitEvent.{BitEvent}
use Rattle.iox_set_steps.specs.declared.bit_set.BitEvent.TheVariants as event
use Rattle.iox_set_steps.specs.declared.bit_set.BitProgram.{BitProgram}
use Rattle.iox_set_steps.specs.declared.bit_set.BitProgram.TheVariants.{AtRest, Replies, Sets, Looks, Clears, ClearsAll}
use Rattle.iox_set_steps.specs.Bits.{bit_words, place_of_word}
use Rattle.iox_set_steps.specs.Kinds.{goes_to, progress_by}

-- the word in which only this bit is set
abbrev pub mask : ℕ → ℕ
mask id = 1 * 2 ^ (id % 64) % 2 ^ 64

-- is the bit set in this word?
abbrev pub is_set : ℕ → ℕ → Bool
is_set seen id = bit_at seen (id % 64) == 1

-- the number of the lowest bit that is set in this word of the site
abbrev pub lowest_in : ℕ → ℕ → ℕ
lowest_in word seen = min (min (word * 64) (2 ^ 64 - 1) + trailing_zeros w64 seen) (2 ^ 64 - 1)

-- the access that the program makes next; at rest, or where only a reply is left, it names no word
abbrev pub bit_access : BitSite → BitProgram → Access
bit_access site AtRest = Local
bit_access site (Replies reply) = Local
bit_access site (Sets id) = FetchOr (place_of_word site (id / 64)) (mask id)
bit_access site (Looks word) = Load (place_of_word site word)
bit_access site (Clears id) = FetchAnd (place_of_word site (id / 64)) (bit_not w64 (mask id))
bit_access site (ClearsAll word) = FetchAnd (place_of_word site word) 0

-- the index of the next word, if it has bits
abbrev pub word_behind : BitSite → ℕ → Option ℕ
word_behind site word = if nat_lt (min (word + 1) (2 ^ 64 - 1)) (bit_words site.capacity) then Some (min (word + 1) (2 ^ 64 - 1)) else None

-- the program continues at that word, or ends with this reply
abbrev pub on_to : (ℕ → BitProgram) → BitReply → Option ℕ → Next BitProgram BitReply
on_to goes reply (Some word) = Goes (goes word)
on_to goes reply None = Ends reply

-- where the program goes after an access that found `seen`
abbrev pub bit_next : BitSite → BitProgram → ℕ → Next BitProgram BitReply
bit_next site AtRest seen = Goes AtRest
bit_next site (Replies reply) seen = Ends reply
bit_next site (Sets id) seen = Ends (reply.Set (not (is_set seen id)))
bit_next site (Looks word) seen = if seen == 0 then on_to Looks (reply.ResetNext None) (word_behind site word) else Goes (Clears (lowest_in word seen))
-- another party was faster: it looks again
bit_next site (Clears id) seen = if is_set seen id then Ends (reply.ResetNext (Some id)) else Goes (Looks (id / 64))
bit_next site (ClearsAll word) seen = on_to ClearsAll reply.ResetAll (word_behind site word)

-- what an access that found `seen` does to the bits, if anything
abbrev pub bit_event : BitProgram → ℕ → Option BitEvent
bit_event AtRest seen = None
bit_event (Replies reply) seen = None
bit_event (Sets id) seen = if is_set seen id then None else Some (event.Set id)
bit_event (Looks word) seen = None
bit_event (Clears id) seen = if is_set seen id then Some (event.Cleared id) else None
bit_event (ClearsAll word) seen = if seen == 0 then None else Some (event.ClearedAll word seen)

-- the first access of a call
abbrev pub bit_start : BitSite → BitCall → BitProgram
bit_start site (call.Set id) = if nat_lt id site.capacity then Sets id else Replies (reply.Set false)
bit_start site call.ResetNext = if site.capacity == 0 then Replies (reply.ResetNext None) else Looks 0
bit_start site call.ResetAll = if site.capacity == 0 then Replies reply.ResetAll else ClearsAll 0

-- the program after an access: it continues, or is at rest
abbrev pub program_of : Next BitProgram BitReply → BitProgram
program_of = goes_to AtRest

-- whether the call continues, and else its reply
abbrev pub progress_of : Next BitProgram BitReply → Progress BitReply
progress_of = progress_by
