-- What entries of a schedule make of a machine of a value, as functions.
use Rattle.std.specs.Prelude.{ℕ, List, Option, Some, None, map, if◌then◌else◌}
use Rattle.iox_steps.specs.declared.machine.Entry.{Entry}
use Rattle.iox_steps.specs.Entries.{all_entered}
use Rattle.iox_set_steps.specs.declared.unrestricted_atomic.AtomicCall.{AtomicCall}
use Rattle.iox_set_steps.specs.declared.unrestricted_atomic.party.AtomicParty.{AtomicParty}
use Rattle.iox_set_steps.specs.declared.unrestricted_atomic.value.ValueCall.{ValueCall}
use Rattle.iox_set_steps.specs.AtomicPrograms.{atomic_next, program_of}
use Rattle.iox_set_steps.specs.AtomicPlays.{AtomicMachineState, atomics_ask, atomics_happen, atomics_rest, atomic_start, may_call}
use Rattle.iox_set_steps.specs.TypedValues.{ValueMachineState, entry_words}

module _ {size : ℕ} where
  -- where a party is after an access that found this word
  abbrev pub atomics_go : AtomicParty size → ℕ → AtomicParty size
  atomics_go party seen = record {
    base = party.base;
    stores = party.stores;
    program = program_of (atomic_next size party.program seen);
  }

  -- the party once it began the call: one at rest begins each call that it may make
  abbrev pub atomic_call_begun : AtomicParty size → AtomicCall size → Option (AtomicParty size)
  atomic_call_begun party call = if may_call party call then
      if atomics_rest party then Some (record {
        base = party.base;
        stores = party.stores;
        program = atomic_start call;
      }) else None
      else None

  -- the machine after all entries
  abbrev pub atomics_after : AtomicMachineState size → List (Entry (AtomicCall size)) → AtomicMachineState size
  atomics_after =
      all_entered (atomics_ask size) atomics_go atomics_happen atomics_rest atomic_call_begun

  -- the words and parties of a value of a type after all entries
  abbrev pub plays_after : {T : Type 0} → (T → List ℕ) → ValueMachineState T size
      → List (Entry (ValueCall T)) → AtomicMachineState size
  plays_after words machine entries = atomics_after machine.plays (map (entry_words words) entries)
