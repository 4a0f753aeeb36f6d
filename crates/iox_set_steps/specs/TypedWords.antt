-- How a value of a type stands in words, and that the words stay those of a value.
use Rattle.std.specs.Prelude.{◌≡◌, ℕ, ◌+◌, ◌^◌, ◌<◌, ◌++◌, ◌⊎◌, List, [], ◌∷◌, take, drop, Option, Some, None, length, map, slice_index}
use Rattle.std.specs.List.{range_with_len}
use Rattle.iox_steps.specs.MachineStates.{IsParty}
use Rattle.iox_steps.specs.declared.access.Progress.{Progress}
use Rattle.iox_steps.specs.declared.access.Progress.TheVariants.{Going, Done}
use Rattle.iox_set_steps.specs.declared.unrestricted_atomic.AtomicReply.{AtomicReply}
use Rattle.iox_set_steps.specs.declared.unrestricted_atomic.AtomicReply.TheVariants as reply
use Rattle.iox_set_steps.specs.declared.unrestricted_atomic.AtomicEvent.{AtomicEvent}
use Rattle.iox_set_steps.specs.declared.unrestricted_atomic.AtomicEvent.TheVariants as event
use Rattle.iox_set_steps.specs.declared.unrestricted_atomic.AtomicProgram.{AtomicProgram}
use Rattle.iox_set_steps.specs.declared.unrestricted_atomic.AtomicProgram.TheVariants.{LoadsToStore, StoresWord, Raises}
use Rattle.iox_set_steps.specs.declared.unrestricted_atomic.party.AtomicParty.{AtomicParty}
use Rattle.iox_set_steps.specs.declared.unrestricted_atomic.value.ValueReply.{ValueReply}
use Rattle.iox_set_steps.specs.declared.unrestricted_atomic.value.ValueReply.TheVariants as typed_reply
use Rattle.iox_set_steps.specs.declared.unrestricted_atomic.value.ValueEvent.{ValueEvent}
use Rattle.iox_set_steps.specs.declared.unrestricted_atomic.value.ValueEvent.TheVariants.{Stored, Loaded}
use Rattle.iox_set_steps.specs.Values.{value_now}
use Rattle.iox_set_steps.specs.AtomicPlays.{AtomicMachineState}
use Rattle.iox_set_steps.specs.AtomicMachines.{AreNewParties}
use Rattle.iox_set_steps.specs.TypedValues.{ValueMachineState}

-- the words of the value that is current
abbrev pub words_now : ℕ → ℕ → List ℕ → List ℕ
words_now size base words = map (value_now size base words) (range_with_len 0 size)

-- the value, if there is one, and else the other
abbrev pub or_else : {T : Type 0} → Option T → T → T
or_else None other = other
or_else (Some value) other = value

module _ {T : Type 0} (of : List ℕ → Option T) (other : T) where
  -- the event with the value of its words, or with another where they are not those of a value
  abbrev pub event_of : {size : ℕ} → AtomicEvent size → ValueEvent T
  event_of (event.Stored list) = Stored (or_else (of list) other)
  event_of (event.Loaded list) = Loaded (or_else (of list) other)

  -- the answer with the value of its words, or with another where they are not those of a value
  abbrev pub answer_of : {size : ℕ} → Progress (AtomicReply size) → Progress (ValueReply T)
  answer_of Going = Going
  answer_of (Done (reply.Stored done)) = Done (typed_reply.Stored done)
  answer_of (Done (reply.Loaded list)) = Done (typed_reply.Loaded (or_else (of list) other))

  -- the step machine of a value of the type that the words and the parties make up
  abbrev pub shown : {size : ℕ} → ℕ → AtomicMachineState size → ValueMachineState T size
  shown {size} base machine = record {
    base = base;
    value = or_else (of (words_now size base machine.words)) other;
    events = map event_of machine.events;
    plays = machine;
  }

-- the words of the value that a party stores, if it does
abbrev pub stored_by : {size : ℕ} → AtomicProgram size → Option (List ℕ)
stored_by (LoadsToStore list) = Some list
stored_by (StoresWord list version index) = Some list
stored_by (Raises list version) = Some list
stored_by program = None

-- the value that is current is of the type, and so is each that is to be stored
pub record AreOfType {size : ℕ} (count : ℕ) (are : List ℕ → Type 0) (base : ℕ)
    (machine : AtomicMachineState size) : Type 0 where
  -- a value of the type has as many words as the cells have
  pub sized : count ≡ size
  pub small : size < 2 ^ 56
  pub current : are (words_now size base machine.words)
  -- all parties are at this value
  pub here : (number : ℕ) (party : AtomicParty size) → IsParty machine number party
      → party.base ≡ base
  -- each value that is yet to be stored is one of the type
  pub stores : (number : ℕ) (party : AtomicParty size) (list : List ℕ) → IsParty machine number party
      → stored_by party.program ≡ Some list → are list

-- from `base` on the new words are version 0 and then the `size` words of the value; all others are
-- unchanged
pub record AreLaid (size base : ℕ) (list old new : List ℕ) : Type 0 where
  pub length_stays : length new ≡ length old
  pub version : slice_index new base ≡ 0
  pub value : (index : ℕ) → index < size
      → slice_index new (base + 1 + index) ≡ slice_index list index
  pub others : (place : ℕ) → (place < base) ⊎ (base + size < place)
      → slice_index new place ≡ slice_index old place

-- the words once version 0 and the words of a value stand from `base` on
abbrev pub laid_words : ℕ → List ℕ → List ℕ → List ℕ
laid_words base list words = take base words ++ 0 ∷ (list ++ drop (base + 1 + length list) words)

-- a new machine: the value stands in the words, `count` parties are at rest, and no event
pub record IsNewValue {T : Type 0} {size : ℕ} (words : T → List ℕ) (value : T) (base count : ℕ)
    (old : List ℕ) (machine : ValueMachineState T size) : Type 0 where
  pub is : machine.value ≡ value
  pub none : machine.events ≡ []
  pub laid : AreLaid size base (words value) old machine.plays.words
  pub parties : AreNewParties base count machine.plays.parties
