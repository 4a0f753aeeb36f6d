-- What the reply to a call at a value says of the call's own value.
use Rattle.std.specs.Prelude.{◌≡◌, ℕ, true, false, List, [], ◌∷◌, Some, None, slice_index}
use Rattle.iox_steps.specs.declared.access.Next.{Next}
use Rattle.iox_steps.specs.declared.access.Next.TheVariants.{Goes, Ends}
use Rattle.iox_steps.specs.Accesses.{seen_by}
use Rattle.iox_set_steps.specs.declared.unrestricted_atomic.AtomicCall.{AtomicCall}
use Rattle.iox_set_steps.specs.declared.unrestricted_atomic.AtomicCall.TheVariants.{Store, Load}
use Rattle.iox_set_steps.specs.declared.unrestricted_atomic.AtomicReply.{AtomicReply}
use Rattle.iox_set_steps.specs.declared.unrestricted_atomic.AtomicReply.TheVariants as reply
use Rattle.iox_set_steps.specs.declared.unrestricted_atomic.AtomicEvent.{AtomicEvent}
use Rattle.iox_set_steps.specs.declared.unrestricted_atomic.AtomicEvent.TheVariants as event
use Rattle.iox_set_steps.specs.declared.unrestricted_atomic.AtomicProgram.{AtomicProgram}
use Rattle.iox_set_steps.specs.declared.unrestricted_atomic.AtomicProgram.TheVariants.{LoadsToStore, StoresWord, Raises, LoadsToLoad, LoadsWord}
use Rattle.iox_set_steps.specs.declared.unrestricted_atomic.AtomicProgram.TheVariants.{LoadsAgain}
use Rattle.iox_set_steps.specs.Values.{version_now}
use Rattle.iox_set_steps.specs.AtomicPrograms.{last_version, atomic_access, atomic_next, atomic_event, program_of}
use Rattle.iox_set_steps.specs.AtomicPlays.{atomic_start}
use Rattle.iox_set_steps.specs.Turns.{Turn}

-- one access of a call at a value: the words that it found, and its event
abbrev pub AtomicTurn : ℕ → Type 0
AtomicTurn size = Turn (AtomicEvent size)

-- The program is one of this call; a store keeps its own value until that is current. It holds
-- where a call begins, and each access keeps it.
abbrev pub IsDoing : {size : ℕ} → AtomicCall size → AtomicProgram size → Type 0
IsDoing (Store list) (LoadsToStore own) = own ≡ list
IsDoing (Store list) (StoresWord own version index) = own ≡ list
IsDoing (Store list) (Raises own version) = own ≡ list
IsDoing Load LoadsToLoad = Unit {0}
IsDoing Load (LoadsWord version words index) = Unit {0}
IsDoing Load (LoadsAgain version words) = Unit {0}
IsDoing call program = ⊥

module _ (size base : ℕ) where
  -- What a reply to a call says of the access that gave it.
  abbrev pub Says : AtomicCall size → AtomicTurn size → AtomicReply size → Type 0
  -- from this access on, the call's own value is current
  Says (Store list) turn (reply.Stored true) = turn.event ≡ Some (event.Stored list)
  -- it did nothing: it found the last version, after which none comes
  Says (Store list) turn (reply.Stored false) =
      (turn.event ≡ None) × (version_now base turn.found ≡ last_version)
  -- the value answered is the one that the event says is current
  Says Load turn (reply.Loaded list) = turn.event ≡ Some (event.Loaded list)
  Says call turn reply = ⊥

  -- what holds of an access of a call: it changes nothing and the call continues, or it replies
  abbrev pub Tells : AtomicCall size → AtomicTurn size
      → Next (AtomicProgram size) (AtomicReply size)
      → Type 0
  Tells call turn (Goes program) = (turn.event ≡ None) × IsDoing call program
  Tells call turn (Ends reply) = Says call turn reply

  -- what the next access of a program sees in these words
  abbrev pub seen_in_words : AtomicProgram size → List ℕ → ℕ
  seen_in_words program words =
      seen_by (atomic_access size base program) (λ place. slice_index words place)

  -- one access of a program that finds these words, with its event
  abbrev pub turn_of : AtomicProgram size → List ℕ → AtomicTurn size
  turn_of program words =
      record { found = words; event = atomic_event program (seen_in_words program words) }

  -- the program of a call whose accesses found these words, the last first
  abbrev pub program_after : AtomicCall size → List (List ℕ) → AtomicProgram size
  program_after call [] = atomic_start call
  program_after call (words ∷ earlier) = let program = program_after call earlier in
      program_of (atomic_next size program (seen_in_words program words))

-- Whatever words the accesses of a call at a value find, what its reply says of its own value is
-- true.
abbrev pub RepliesTellOfTheirValues : Type 0
RepliesTellOfTheirValues = (size base : ℕ) (call : AtomicCall size) (earlier : List (List ℕ))
    (words : List ℕ) (reply : AtomicReply size)
    → let program = program_after size base call earlier in
    atomic_next size program (seen_in_words size base program words) ≡ Ends reply
    → Says size base call (turn_of size base program words) reply
