-- Parties at a value in a step machine, and what holds of it at all times.
use Rattle.std.specs.Prelude.{◌≡◌, ℕ, Bool, true, false, ◌+◌, ◌==◌, ◌^◌, ◌<◌, ◌≤◌, ◌⊎◌, List, Option, Some, None, Result, MatchResult, length}
use Rattle.iox_steps.specs.declared.access.Access.{Access}
use Rattle.iox_steps.specs.declared.access.Progress.{Progress}
use Rattle.iox_steps.specs.declared.access.Progress.TheVariants.{Going, Done}
use Rattle.iox_steps.specs.declared.error.MachineError.{MachineError}
use Rattle.iox_steps.specs.declared.error.MachineError.TheVariants.{UnknownParty, Busy}
use Rattle.iox_steps.specs.MachineStates.{MachineState, IsParty}
use Rattle.iox_set_steps.specs.declared.unrestricted_atomic.AtomicCall.{AtomicCall}
use Rattle.iox_set_steps.specs.declared.unrestricted_atomic.AtomicCall.TheVariants.{Store, Load}
use Rattle.iox_set_steps.specs.declared.unrestricted_atomic.AtomicReply.{AtomicReply}
use Rattle.iox_set_steps.specs.declared.unrestricted_atomic.AtomicReply.TheVariants as reply
use Rattle.iox_set_steps.specs.declared.unrestricted_atomic.AtomicEvent.{AtomicEvent}
use Rattle.iox_set_steps.specs.declared.unrestricted_atomic.AtomicEvent.TheVariants as event
use Rattle.iox_set_steps.specs.declared.unrestricted_atomic.AtomicProgram.{AtomicProgram}
use Rattle.iox_set_steps.specs.declared.unrestricted_atomic.AtomicProgram.TheVariants.{AtRest, LoadsToStore, StoresWord, Raises, LoadsToLoad, LoadsWord}
use Rattle.iox_set_steps.specs.declared.unrestricted_atomic.AtomicProgram.TheVariants.{LoadsAgain}
use Rattle.iox_set_steps.specs.declared.unrestricted_atomic.party.AtomicParty.{AtomicParty}
use Rattle.iox_set_steps.specs.Values.{version_now, word_of, value_now, AgreeUpTo, words_of, ValueRun}
use Rattle.iox_set_steps.specs.AtomicPrograms.{last_version, atomic_access, atomic_next, atomic_event, program_of, progress_of}

-- a step machine of a value of `size` words: words, parties, and the events so far
abbrev pub AtomicMachineState : ℕ → Type 0
AtomicMachineState size = MachineState (AtomicParty size) (AtomicEvent size)

-- the access that the party makes next
abbrev pub atomics_ask : (size : ℕ) → AtomicParty size → Access
atomics_ask size party = atomic_access size party.base party.program

-- the event of the party's access that found this word, if there is one
abbrev pub atomics_happen : {size : ℕ} → AtomicParty size → ℕ → Option (AtomicEvent size)
atomics_happen party seen = atomic_event party.program seen

-- is no call under way?
abbrev pub rests : {size : ℕ} → AtomicProgram size → Bool
rests AtRest = true
rests program = false

-- is the party at rest?
abbrev pub atomics_rest : {size : ℕ} → AtomicParty size → Bool
atomics_rest party = rests party.program

-- the party continues like this after an access that found this word, with this answer
abbrev pub AtomicsLead : (size : ℕ) → AtomicParty size → ℕ → Progress (AtomicReply size) → AtomicParty size → Type 0
AtomicsLead size party seen answer after = (after.base ≡ party.base) × (after.stores ≡ party.stores)
    × (after.program ≡ program_of (atomic_next size party.program seen))
    × (answer ≡ progress_of (atomic_next size party.program seen))

-- may the party make the call?
abbrev pub may_call : {size : ℕ} → AtomicParty size → AtomicCall size → Bool
may_call party (Store value) = party.stores
may_call party Load = true

-- the first access of a call
abbrev pub atomic_start : {size : ℕ} → AtomicCall size → AtomicProgram size
atomic_start (Store value) = LoadsToStore value
atomic_start Load = LoadsToLoad

-- the begin of a call: the party after it, or a refusal; first of a store by a party that may not
-- store
abbrev pub AtomicsBegin : {size : ℕ} → AtomicParty size → AtomicCall size → Result (AtomicParty size) MachineError → Type 0
AtomicsBegin party call result = MatchResult result
    (λ after. (may_call party call ≡ true) × (party.program ≡ AtRest) × (after.base ≡ party.base)
    × (after.stores ≡ party.stores) × (after.program ≡ atomic_start call))
    (λ error. ((error ≡ UnknownParty) × (may_call party call ≡ false))
    ⊎ ((error ≡ Busy) × (may_call party call ≡ true) × (rests party.program ≡ false)))

-- whether an answer agrees with the event of its access
abbrev pub AtomicAnswers : {size : ℕ} → Progress (AtomicReply size) → Option (AtomicEvent size) → Type 0
AtomicAnswers (Done (reply.Stored true)) (Some (event.Stored list)) = Unit {0}
AtomicAnswers (Done (reply.Stored false)) None = Unit {0}
AtomicAnswers (Done (reply.Loaded list)) (Some (event.Loaded told)) = told ≡ list
AtomicAnswers Going None = Unit {0}
AtomicAnswers answer event = ⊥

-- a store found this version, and `count` words of its value are in the cell of the next version
pub record IsStoring (size base : ℕ) (words list : List ℕ) (version count : ℕ) : Type 0 where
  pub current : version ≡ version_now base words
  pub behind : version < last_version
  pub written : AgreeUpTo count (word_of size base words (version + 1)) (words_of list)

-- a load found this version; while that is current, `count` loaded words are those of the current
-- value
pub record IsLoading (size base : ℕ) (words : List ℕ) (version : ℕ) (list : List ℕ) (count : ℕ) : Type 0 where
  pub whole : length list ≡ size
  pub passed : version ≤ version_now base words
  pub loaded : version ≡ version_now base words → AgreeUpTo count (words_of list) (value_now size base words)

-- what holds of the words and of what a party's call found so far
abbrev pub AtomicsKnow : (size : ℕ) → ℕ → List ℕ → AtomicProgram size → Type 0
AtomicsKnow size base words AtRest = Unit {0}
AtomicsKnow size base words (LoadsToStore list) = Unit {0}
AtomicsKnow size base words (StoresWord list version index) = (index < size) × IsStoring size base words list version index
AtomicsKnow size base words (Raises list version) = IsStoring size base words list version size
AtomicsKnow size base words LoadsToLoad = Unit {0}
AtomicsKnow size base words (LoadsWord version list index) = (index < size) × IsLoading size base words version list index
AtomicsKnow size base words (LoadsAgain version list) = IsLoading size base words version list size

-- is a store under way?
abbrev pub is_storing : {size : ℕ} → AtomicProgram size → Bool
is_storing (LoadsToStore list) = true
is_storing (StoresWord list version index) = true
is_storing (Raises list version) = true
is_storing program = false

-- the party of this number is at the value at this base; only party 0 stores
pub record IsAtValue (size base : ℕ) (words : List ℕ) (number : ℕ) (party : AtomicParty size) : Type 0 where
  pub here : party.base ≡ base
  -- only party 0 may store
  pub role : party.stores ≡ (number == 0)
  -- a party that may not store is in no store
  pub stores : party.stores ≡ false → is_storing party.program ≡ false
  pub knows : AtomicsKnow size base words party.program

-- What holds of a value after any calls of its parties.
pub record AtomicsHold (size : ℕ) (machine : AtomicMachineState size) : Type 0 where
  -- the place of the version
  pub base : ℕ
  -- the words of the value that was current at first
  pub first : ℕ → ℕ
  -- each load handed out the value that was current then, and the last value stored is current now
  pub run : ValueRun size first machine.events (value_now size base machine.words)
  pub room : base + 1 + size + size ≤ length machine.words
  pub memory : length machine.words < 2 ^ 64
  pub version : version_now base machine.words < 2 ^ 64
  pub parties : (number : ℕ) (party : AtomicParty size) → IsParty machine number party → IsAtValue size base machine.words number party
