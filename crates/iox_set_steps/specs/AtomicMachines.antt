-- What a step machine of a value promises, step by step and for every schedule.
use Rattle.std.specs.Prelude.{◌≡◌, ℕ, ◌==◌, ◌<◌, ◌++◌, List, [], Option, None, true, false, length, replicate, slice_index, slice_index_or, slice_set}
use Rattle.std.specs.Option.{option_to_list}
use Rattle.iox_steps.specs.declared.access.Progress.{Progress}
use Rattle.iox_steps.specs.declared.error.MachineError.{MachineError}
use Rattle.iox_steps.specs.declared.machine.Entry.{Entry}
use Rattle.iox_steps.specs.MachineStates.{IsParty, with_party, seen_in, after_access, Stepped, IsStepRefused, Begun, IsBeginRefused, Entered, AllEntered, IsStepUnderWay, StopsAtStep}
use Rattle.iox_set_steps.specs.declared.unrestricted_atomic.AtomicCall.{AtomicCall}
use Rattle.iox_set_steps.specs.declared.unrestricted_atomic.AtomicCall.TheVariants.{Store, Load}
use Rattle.iox_set_steps.specs.declared.unrestricted_atomic.AtomicReply.{AtomicReply}
use Rattle.iox_set_steps.specs.declared.unrestricted_atomic.AtomicEvent.{AtomicEvent}
use Rattle.iox_set_steps.specs.declared.unrestricted_atomic.AtomicProgram.TheVariants.{AtRest}
use Rattle.iox_set_steps.specs.declared.unrestricted_atomic.party.AtomicParty.{AtomicParty}
use Rattle.iox_set_steps.specs.Values.{value_now, LeadsOn, ValueRun}
use Rattle.iox_steps.specs.Answers.{OnProgress}
use Rattle.iox_set_steps.specs.Turns.{IsInterleavingOf}
use Rattle.iox_set_steps.specs.AtomicPrograms.{atomic_next, program_of, progress_of}
use Rattle.iox_set_steps.specs.AtomicCalls.{IsDoing, Says}
use Rattle.iox_set_steps.specs.AtomicPlays.{AtomicMachineState, AtomicAnswers, atomic_start, atomics_ask, atomics_happen, atomics_rest, AtomicsLead, AtomicsBegin}

-- one access of the party of this number, whose call is under way, with its answer
abbrev pub AtomicsStepped : (size : ℕ) → AtomicMachineState size → ℕ → Progress (AtomicReply size) → AtomicMachineState size → Type 0
AtomicsStepped size = Stepped (atomics_ask size) (AtomicsLead size) atomics_happen atomics_rest AtomicsBegin

-- why a step is refused
abbrev pub IsAtomicStepRefused : (size : ℕ) → AtomicMachineState size → ℕ → MachineError → Type 0
IsAtomicStepRefused size = IsStepRefused (atomics_ask size) (AtomicsLead size) atomics_happen atomics_rest AtomicsBegin

-- the party of this number began the call, and nothing else changed
abbrev pub AtomicsBegun : (size : ℕ) → AtomicMachineState size → ℕ → AtomicCall size → AtomicMachineState size → Type 0
AtomicsBegun size = Begun (atomics_ask size) (AtomicsLead size) atomics_happen atomics_rest AtomicsBegin

-- why a begin is refused: there is no such party, or the party refuses the call
abbrev pub IsAtomicBeginRefused : (size : ℕ) → AtomicMachineState size → ℕ → AtomicCall size → MachineError → Type 0
IsAtomicBeginRefused size = IsBeginRefused (atomics_ask size) (AtomicsLead size) atomics_happen atomics_rest AtomicsBegin

-- one entry of a schedule leads from one machine to the other; one that is passed over changes
-- nothing
abbrev pub AtomicsEntered : (size : ℕ) → AtomicMachineState size → Entry (AtomicCall size) → AtomicMachineState size → Type 0
AtomicsEntered size = Entered (atomics_ask size) (AtomicsLead size) atomics_happen atomics_rest AtomicsBegin

-- all entries lead from one machine to the other, one after another
abbrev pub AllAtomicsEntered : (size : ℕ) → AtomicMachineState size → List (Entry (AtomicCall size)) → AtomicMachineState size → Type 0
AllAtomicsEntered size = AllEntered (atomics_ask size) (AtomicsLead size) atomics_happen atomics_rest AtomicsBegin

-- the entry is a step of a party whose call is under way: only such an entry may find no memory
abbrev pub IsAtomicStepUnderWay : (size : ℕ) → AtomicMachineState size → Entry (AtomicCall size) → Type 0
IsAtomicStepUnderWay size =
    IsStepUnderWay (atomics_ask size) (AtomicsLead size) atomics_happen atomics_rest AtomicsBegin

-- a schedule that found no memory stopped before a step of a party whose call is under way
abbrev pub AtomicsStopAtStep : (size : ℕ) → AtomicMachineState size → List (Entry (AtomicCall size))
    → AtomicMachineState size → Type 0
AtomicsStopAtStep size =
    StopsAtStep (atomics_ask size) (AtomicsLead size) atomics_happen atomics_rest AtomicsBegin

-- the place of the version of the party's value
abbrev pub base_of : {size : ℕ} → AtomicParty size → ℕ
base_of party = party.base

-- the party of this number may make the call: only party 0 stores
abbrev pub MayCall : {size : ℕ} → ℕ → AtomicCall size → Type 0
MayCall number (Store list) = number ≡ 0
MayCall number Load = Unit {0}

-- the party of this number is at the value at this base, and at rest
abbrev pub IsNewParty : {size : ℕ} → ℕ → ℕ → AtomicParty size → Type 0
IsNewParty base number party = (party.base ≡ base) × (party.stores ≡ (number == 0)) × (party.program ≡ AtRest)

-- these are `count` parties at the value at this base, all at rest
abbrev pub AreNewParties : {size : ℕ} → ℕ → ℕ → List (AtomicParty size) → Type 0
AreNewParties {size} base count parties = (length parties ≡ count)
    × ((number : ℕ) (party : AtomicParty size) → number < length parties → party ≡ slice_index_or parties number party → IsNewParty base number party)

-- a new machine: these words, `count` parties at rest at the value at this base, and no event
abbrev pub IsNewAtomic : {size : ℕ} → List ℕ → ℕ → ℕ → AtomicMachineState size → Type 0
IsNewAtomic words base count machine = (machine.words ≡ words) × (machine.events ≡ []) × AreNewParties base count machine.parties

-- The party of this number is in this call.
pub record IsInAtomicCall (size : ℕ) (machine : AtomicMachineState size) (number : ℕ)
    (call : AtomicCall size) : Type 0 where
  pub party : AtomicParty size
  pub is_party : IsParty machine number party
  pub doing : IsDoing call party.program

-- a party of another number is in the call that it was in
abbrev pub OthersStay : (size : ℕ) → AtomicMachineState size → ℕ → AtomicMachineState size → Type 0
OthersStay size old number new = (other : ℕ) (call : AtomicCall size) → (other ≡ number → ⊥)
    → IsInAtomicCall size old other call → IsInAtomicCall size new other call

-- One access of the party of this number: its event is written down and leads to the next value,
-- and the reply agrees with it.
pub record IsAtomicEvent (size : ℕ) (old : AtomicMachineState size) (number : ℕ)
    (answer : Progress (AtomicReply size)) (new : AtomicMachineState size) : Type 0 where
  -- the place of the version of the value
  pub base : ℕ
  pub event : Option (AtomicEvent size)
  -- all parties are at this value
  pub parties : (number : ℕ) (party : AtomicParty size) → IsParty old number party → party.base ≡ base
  -- the event is written down, if there is one
  pub told : new.events ≡ old.events ++ option_to_list event
  -- the event leads from the value before to the value after
  pub leads : LeadsOn size (value_now size base old.words) event (value_now size base new.words)
  -- a reply, if there is one, agrees with the event
  pub answers : AtomicAnswers answer event
  -- whatever call the party is in, it still is, or the reply says what is true of the call
  pub call : (call : AtomicCall size) → IsInAtomicCall size old number call
      → OnProgress answer ((event ≡ None) × IsInAtomicCall size new number call)
      (Says size base call (record { found = old.words; event = event }))
  -- the other parties are in the calls that they were in
  pub others : OthersStay size old number new
  -- one word changed at most
  pub length_stays : length new.words ≡ length old.words
  pub one_word : (place : ℕ)
      × ((other : ℕ) → (other ≡ place → ⊥) → slice_index new.words other ≡ slice_index old.words other)

-- The party of this number began the call, and nothing else changed.
pub record BeginsAtomicCall (size : ℕ) (old : AtomicMachineState size) (number : ℕ)
    (call : AtomicCall size) (new : AtomicMachineState size) : Type 0 where
  pub words : new.words ≡ old.words
  pub events : new.events ≡ old.events
  -- the party is in the call
  pub begun : IsInAtomicCall size new number call
  -- the other parties are in the calls that they were in
  pub others : OthersStay size old number new

-- what a schedule came to: each entry begins a call, is one event, or changes nothing
abbrev pub PlayAtomics : (size : ℕ) → AtomicMachineState size → List (Entry (AtomicCall size))
    → AtomicMachineState size → Type 0
PlayAtomics size = IsInterleavingOf (BeginsAtomicCall size) (IsAtomicEvent size)

-- From old to new, each load handed out the value that was current when it came.
pub record RunsOn (size : ℕ) (old new : AtomicMachineState size) : Type 0 where
  -- the place of the version of the value
  pub base : ℕ
  -- the events between the two
  pub more : List (AtomicEvent size)
  pub parties : (number : ℕ) (party : AtomicParty size) → IsParty old number party → party.base ≡ base
  -- these events are written down, and no others
  pub told : new.events ≡ old.events ++ more
  pub run : ValueRun size (value_now size base old.words) more (value_now size base new.words)

-- The machine after one begin or one access, as functions.
module _ {size : ℕ} where
  -- the party of this number; where there is none, one at rest that may not store
  abbrev pub atomic_party_at : AtomicMachineState size → ℕ → AtomicParty size
  atomic_party_at machine number =
      slice_index_or machine.parties number (record { base = 0; stores = false; program = AtRest })

  -- the machine once the party of this number began the call
  abbrev pub atomics_begun : AtomicMachineState size → ℕ → AtomicCall size → AtomicMachineState size
  atomics_begun machine number call = let party = atomic_party_at machine number in
      with_party machine number
      (record { base = party.base; stores = party.stores; program = atomic_start call })

  -- what the next access of the party of this number answers
  abbrev pub atomics_answer : AtomicMachineState size → ℕ → Progress (AtomicReply size)
  atomics_answer machine number = let party = atomic_party_at machine number in
      progress_of (atomic_next size party.program (seen_in machine (atomics_ask size party)))

  -- the machine once the party of this number made its next access
  abbrev pub atomics_stepped : AtomicMachineState size → ℕ → AtomicMachineState size
  atomics_stepped machine number = let party = atomic_party_at machine number in
      let seen = seen_in machine (atomics_ask size party) in
      let program = program_of (atomic_next size party.program seen) in
      after_access machine number (atomics_ask size party)
      (record { base = party.base; stores = party.stores; program = program })
      (atomics_happen party seen)

  -- `count` parties at rest at the value at this base; only the first may store
  abbrev pub new_parties : ℕ → ℕ → List (AtomicParty size)
  new_parties base count = slice_set
      (replicate count (record { base = base; stores = false; program = AtRest })) 0
      (record { base = base; stores = true; program = AtRest })

  -- a new machine: these words, `count` parties at rest at the value at this base, and no event
  abbrev pub new_atomics : List ℕ → ℕ → ℕ → AtomicMachineState size
  new_atomics words base count =
      record { words = words; parties = new_parties base count; events = [] }
