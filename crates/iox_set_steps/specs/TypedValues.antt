-- A value of a type among shared words, as its callers see it, and what happens to it.
use Rattle.std.specs.Prelude.{◌≡◌, ℕ, true, false, ◌++◌, List, [], ◌∷◌, Option, Some, None, map}
use Rattle.std.specs.Option.{option_to_list}
use Rattle.iox_steps.specs.declared.access.Progress.{Progress}
use Rattle.iox_steps.specs.declared.access.Progress.TheVariants.{Going, Done}
use Rattle.iox_steps.specs.declared.error.MachineError.{MachineError}
use Rattle.iox_steps.specs.declared.machine.Entry.{Entry}
use Rattle.iox_steps.specs.declared.machine.Entry.TheVariants.{Begin, Step}
use Rattle.iox_set_steps.specs.declared.unrestricted_atomic.AtomicCall.{AtomicCall}
use Rattle.iox_set_steps.specs.declared.unrestricted_atomic.AtomicCall.TheVariants as call
use Rattle.iox_set_steps.specs.declared.unrestricted_atomic.AtomicReply.{AtomicReply}
use Rattle.iox_set_steps.specs.declared.unrestricted_atomic.AtomicReply.TheVariants as reply
use Rattle.iox_set_steps.specs.declared.unrestricted_atomic.value.ValueCall.{ValueCall}
use Rattle.iox_set_steps.specs.declared.unrestricted_atomic.value.ValueCall.TheVariants.{Store, Load}
use Rattle.iox_set_steps.specs.declared.unrestricted_atomic.value.ValueReply.{ValueReply}
use Rattle.iox_set_steps.specs.declared.unrestricted_atomic.value.ValueReply.TheVariants as typed_reply
use Rattle.iox_set_steps.specs.declared.unrestricted_atomic.value.ValueEvent.{ValueEvent}
use Rattle.iox_set_steps.specs.declared.unrestricted_atomic.value.ValueEvent.TheVariants.{Stored, Loaded}
use Rattle.iox_set_steps.specs.AtomicPlays.{AtomicMachineState}
use Rattle.iox_set_steps.specs.AtomicMachines.{AllAtomicsEntered, AtomicsBegun, AtomicsEntered, AtomicsStepped, IsAtomicBeginRefused, IsAtomicStepUnderWay, IsInAtomicCall, AtomicsStopAtStep}
use Rattle.iox_steps.specs.Answers.{OnProgress}
use Rattle.iox_set_steps.specs.Turns.{IsInterleavingOf}
use Rattle.iox_set_steps.specs.Values.{version_now}
use Rattle.iox_set_steps.specs.AtomicPrograms.{last_version}

-- a step machine of a value of type T that has `size` words
pub record ValueMachineState (T : Type 0) (size : ℕ) : Type 0 where
  -- the place of the value's version
  pub base : ℕ
  -- the value that is current
  pub value : T
  -- the stores and loads of it, in order
  pub events : List (ValueEvent T)
  -- the words that it stands in, and the parties at them
  pub plays : AtomicMachineState size

-- `value` is current at first and `last` at last, and each load hands out the value that is current
-- when it comes.
abbrev pub TypedRun : {T : Type 0} → T → List (ValueEvent T) → T → Type 0
TypedRun value [] last = last ≡ value
TypedRun value (Stored next ∷ events) last = TypedRun next events last
TypedRun value (Loaded got ∷ events) last = (got ≡ value) × TypedRun value events last

-- From old to new, each load handed out the value that was current when it came.
pub record TypedRunsOn {T : Type 0} {size : ℕ} (old new : ValueMachineState T size) : Type 0 where
  -- the events between the two
  pub more : List (ValueEvent T)
  pub told : new.events ≡ old.events ++ more
  pub run : TypedRun old.value more new.value

-- whether an answer agrees with the event of its access
abbrev pub TypedAnswers : {T : Type 0} → Progress (ValueReply T) → Option (ValueEvent T) → Type 0
TypedAnswers (Done (typed_reply.Stored true)) (Some (Stored value)) = Unit {0}
TypedAnswers (Done (typed_reply.Stored false)) None = Unit {0}
TypedAnswers (Done (typed_reply.Loaded value)) (Some (Loaded got)) = got ≡ value
TypedAnswers Going None = Unit {0}
TypedAnswers answer event = ⊥

-- a load that ends answers the value that is current
abbrev pub LoadsCurrent : {T : Type 0} {size : ℕ} → ValueMachineState T size → Progress (ValueReply T)
    → Type 0
LoadsCurrent old (Done (typed_reply.Loaded value)) = value ≡ old.value
LoadsCurrent old answer = Unit {0}

-- the party of this number may make the call: only party 0 stores
abbrev pub MayCallTyped : {T : Type 0} → ℕ → ValueCall T → Type 0
MayCallTyped number (Store value) = number ≡ 0
MayCallTyped number Load = Unit {0}

module _ {T : Type 0} (words : T → List ℕ) where
  -- the call with the words of its value in the value's stead
  abbrev pub call_words : {size : ℕ} → ValueCall T → AtomicCall size
  call_words (Store value) = call.Store (words value)
  call_words Load = call.Load

  -- the entry of a schedule with the words of its value
  abbrev pub entry_words : {size : ℕ} → Entry (ValueCall T) → Entry (AtomicCall size)
  entry_words (Begin number call) = Begin number (call_words call)
  entry_words (Step number) = Step number

  -- the answer with the words of its value
  abbrev pub answer_words : {size : ℕ} → Progress (ValueReply T) → Progress (AtomicReply size)
  answer_words Going = Going
  answer_words (Done (typed_reply.Stored done)) = Done (reply.Stored done)
  answer_words (Done (typed_reply.Loaded value)) = Done (reply.Loaded (words value))

  -- begins, steps and schedules of values of a type
  module _ {size : ℕ} where
    -- one access of the party of this number, whose call is under way, with its answer
    abbrev pub TypedStepped : ValueMachineState T size → ℕ → Progress (ValueReply T) → ValueMachineState T size
        → Type 0
    TypedStepped old number answer new =
        AtomicsStepped size old.plays number (answer_words answer) new.plays

    -- the party of this number began the call, and nothing else changed
    abbrev pub TypedBegun : ValueMachineState T size → ℕ → ValueCall T → ValueMachineState T size → Type 0
    TypedBegun old number call new = AtomicsBegun size old.plays number (call_words call) new.plays

    -- why a begin is refused: there is no such party, or the party refuses the call
    abbrev pub IsTypedBeginRefused : ValueMachineState T size → ℕ → ValueCall T → MachineError → Type 0
    IsTypedBeginRefused old number call error =
        IsAtomicBeginRefused size old.plays number (call_words call) error

    -- one entry of a schedule leads from one machine to the other; one that is passed over changes
    -- nothing
    abbrev pub TypedEntered : ValueMachineState T size → Entry (ValueCall T) → ValueMachineState T size → Type 0
    TypedEntered old entry new = AtomicsEntered size old.plays (entry_words entry) new.plays

    -- all entries lead from one machine to the other, one after another
    abbrev pub AllTypedEntered : ValueMachineState T size → List (Entry (ValueCall T)) → ValueMachineState T size
        → Type 0
    AllTypedEntered old entries new =
        AllAtomicsEntered size old.plays (map entry_words entries) new.plays

    -- the entry is a step of a party whose call is under way: only such an entry may find no memory
    abbrev pub IsTypedStepUnderWay : ValueMachineState T size → Entry (ValueCall T) → Type 0
    IsTypedStepUnderWay machine entry = IsAtomicStepUnderWay size machine.plays (entry_words entry)

    -- a schedule that found no memory stopped before a step of a party whose call is under way
    abbrev pub TypedStopsAtStep : ValueMachineState T size → List (Entry (ValueCall T)) → ValueMachineState T size
        → Type 0
    TypedStopsAtStep old entries new =
        AtomicsStopAtStep size old.plays (map entry_words entries) new.plays

-- the value of a call is one of its type
abbrev pub IsCallOf : {T : Type 0} → (T → Type 0) → ValueCall T → Type 0
IsCallOf is_value (Store value) = is_value value
IsCallOf is_value Load = Unit {0}

-- What a reply to a call says of the access that gave it and of its event.
abbrev pub SaysOfValue : {T : Type 0} {size : ℕ} → ValueMachineState T size → ValueCall T
    → Option (ValueEvent T) → ValueReply T → Type 0
-- from this access on, the call's own value is current
SaysOfValue old (Store value) event (typed_reply.Stored true) = event ≡ Some (Stored value)
-- it did nothing: it found the last version, after which none comes
SaysOfValue old (Store value) event (typed_reply.Stored false) =
    (event ≡ None) × (version_now old.base old.plays.words ≡ last_version)
-- it answers the value that is current
SaysOfValue old Load event (typed_reply.Loaded value) =
    (event ≡ Some (Loaded value)) × (value ≡ old.value)
SaysOfValue old call event reply = ⊥

module _ {T : Type 0} (words : T → List ℕ) (is_value : T → Type 0) {size : ℕ} where
  -- The party of this number is in this call, whose value, if it has one, is of the type.
  pub record IsInValueCall (machine : ValueMachineState T size) (number : ℕ)
      (call : ValueCall T) : Type 0 where
    -- the value of the call, if it has one, is of the type
    pub known : IsCallOf is_value call
    -- the party is in the call with the words of that value
    pub is_in : IsInAtomicCall size machine.plays number (call_words words call)

  -- a party of another number is in the call that it was in
  abbrev pub OthersKeep : ValueMachineState T size → ℕ → ValueMachineState T size → Type 0
  OthersKeep old number new = (other : ℕ) (call : ValueCall T) → (other ≡ number → ⊥)
      → IsInValueCall old other call → IsInValueCall new other call

  -- One access of the party of this number: its event is written down and leads to the next value,
  -- and the reply agrees with it.
  pub record IsTypedEvent (old : ValueMachineState T size) (number : ℕ) (answer : Progress (ValueReply T))
      (new : ValueMachineState T size) : Type 0 where
    pub event : Option (ValueEvent T)
    pub here : new.base ≡ old.base
    -- the event is written down, if there is one
    pub told : new.events ≡ old.events ++ option_to_list event
    -- the event leads from the value before to the value after
    pub run : TypedRun old.value (option_to_list event) new.value
    -- a reply, if there is one, agrees with the event
    pub answers : TypedAnswers answer event
    -- whatever call the party is in, it still is, or the reply says what is true of the call
    pub call : (call : ValueCall T) → IsInValueCall old number call
        → OnProgress answer ((event ≡ None) × IsInValueCall new number call)
        (SaysOfValue old call event)
    -- the other parties are in the calls that they were in
    pub others : OthersKeep old number new

  -- The party of this number began the call, and nothing else changed.
  pub record BeginsValueCall (old : ValueMachineState T size) (number : ℕ) (call : ValueCall T)
      (new : ValueMachineState T size) : Type 0 where
    pub here : new.base ≡ old.base
    pub value : new.value ≡ old.value
    pub events : new.events ≡ old.events
    -- the party is in the call
    pub begun : IsInValueCall new number call
    -- the other parties are in the calls that they were in
    pub others : OthersKeep old number new

  -- what a schedule came to: each entry begins a call, is one event, or changes nothing
  abbrev pub PlayValues : ValueMachineState T size → List (Entry (ValueCall T)) → ValueMachineState T size
      → Type 0
  PlayValues = IsInterleavingOf BeginsValueCall IsTypedEvent
