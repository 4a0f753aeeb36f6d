-- The program of a party at a value of `size` words, access by access: what is accessed, where the
-- program goes then, and its event.
use Rattle.std.specs.Prelude.{ℕ, true, false, ◌+◌, ◌-◌, ◌^◌, ◌==◌, List, Option, Some, None, if◌then◌else◌, min, nat_lt, replicate, slice_index, slice_set}
use Rattle.iox_steps.specs.declared.access.Access.{Access}
use Rattle.iox_steps.specs.declared.access.Access.TheVariants.{Local, Load, Store}
use Rattle.iox_steps.specs.declared.access.Next.{Next}
use Rattle.iox_steps.specs.declared.access.Next.TheVariants.{Goes, Ends}
use Rattle.iox_steps.specs.declared.access.Progress.{Progress}
use Rattle.iox_steps.specs.declared.access.Progress.TheVariants.{Going, Done}
use Rattle.iox_set_steps.specs.declared.unrestricted_atomic.AtomicReply.{AtomicReply}
use Rattle.iox_set_steps.specs.declared.unrestricted_atomic.AtomicReply.TheVariants as reply
use Rattle.iox_set_steps.specs.declared.unrestricted_atomic.AtomicEvent.{AtomicEvent}
use Rattle.iox_set_steps.specs.declared.unrestricted_atomic.AtomicEvent.TheVariants as event
use Rattle.iox_set_steps.specs.declared.unrestricted_atomic.AtomicProgram.{AtomicProgram}
use Rattle.iox_set_steps.specs.declared.unrestricted_atomic.AtomicProgram.TheVariants.{AtRest, LoadsToStore, StoresWord, Raises, LoadsToLoad, LoadsWord}
use Rattle.iox_set_steps.specs.declared.unrestricted_atomic.AtomicProgram.TheVariants.{LoadsAgain}
use Rattle.iox_set_steps.specs.Values.{cell_of}

-- the last version, after which none comes
abbrev pub last_version : ℕ
last_version = 2 ^ 64 - 1

-- where a word of the value of a version stands
abbrev pub word_place : ℕ → ℕ → ℕ → ℕ → ℕ
word_place size base version index = min (min (min (base + 1) (2 ^ 64 - 1) + cell_of size version) (2 ^ 64 - 1) + index) (2 ^ 64 - 1)

-- a word of a value
abbrev pub word_in : List ℕ → ℕ → ℕ
word_in value index = slice_index value index

-- the version after this one, or the last one
abbrev pub version_behind : ℕ → ℕ
version_behind version = min (version + 1) last_version

-- the access that the program makes next; at rest it names no word
abbrev pub atomic_access : (size : ℕ) → ℕ → AtomicProgram size → Access
atomic_access size base AtRest = Local
atomic_access size base (LoadsToStore value) = Load base
atomic_access size base (StoresWord value version index) = Store (word_place size base (version_behind version) index) (word_in value index)
atomic_access size base (Raises value version) = Store base (version_behind version)
atomic_access size base LoadsToLoad = Load base
atomic_access size base (LoadsWord version words index) = Load (word_place size base version index)
atomic_access size base (LoadsAgain version words) = Load base

-- the store of the value's word of this index, or of the version once all words are stored
abbrev pub stores_from : (size : ℕ) → List ℕ → ℕ → ℕ → AtomicProgram size
stores_from size value version index = if nat_lt index size then StoresWord value version index else Raises value version

-- the load of the value's word of this index, or of the version again once all words are loaded
abbrev pub loads_from : (size : ℕ) → ℕ → List ℕ → ℕ → AtomicProgram size
loads_from size version words index = if nat_lt index size then LoadsWord version words index else LoadsAgain version words

-- the index after this one
abbrev pub index_behind : ℕ → ℕ
index_behind index = min (index + 1) (2 ^ 64 - 1)

-- where the program goes after an access that found `seen`
abbrev pub atomic_next : (size : ℕ) → AtomicProgram size → ℕ → Next (AtomicProgram size) (AtomicReply size)
atomic_next size AtRest seen = Goes AtRest
atomic_next size (LoadsToStore value) seen = if seen == last_version then Ends (reply.Stored false) else Goes (stores_from size value seen 0)
atomic_next size (StoresWord value version index) seen = Goes (stores_from size value version (index_behind index))
atomic_next size (Raises value version) seen = Ends (reply.Stored true)
atomic_next size LoadsToLoad seen = Goes (loads_from size seen (replicate size 0) 0)
atomic_next size (LoadsWord version words index) seen = Goes (loads_from size version (slice_set words index seen) (index_behind index))
-- a store came between: it loads the words of the version that is current now
atomic_next size (LoadsAgain version words) seen = if seen == version then Ends (reply.Loaded words) else Goes (loads_from size seen words 0)

-- what an access that found `seen` does to the value, or sees of it
abbrev pub atomic_event : {size : ℕ} → AtomicProgram size → ℕ → Option (AtomicEvent size)
atomic_event AtRest seen = None
atomic_event (LoadsToStore value) seen = None
atomic_event (StoresWord value version index) seen = None
atomic_event (Raises value version) seen = Some (event.Stored value)
atomic_event LoadsToLoad seen = None
atomic_event (LoadsWord version words index) seen = None
atomic_event (LoadsAgain version words) seen = if seen == version then Some (event.Loaded words) else None

-- the program after an access: it continues, or is at rest
abbrev pub program_of : {size : ℕ} → Next (AtomicProgram size) (AtomicReply size) → AtomicProgram size
program_of (Goes program) = program
program_of (Ends reply) = AtRest

-- whether the call continues, and else its reply
abbrev pub progress_of : {size : ℕ} → Next (AtomicProgram size) (AtomicReply size) → Progress (AtomicReply size)
progress_of (Goes program) = Going
progress_of (Ends reply) = Done reply
