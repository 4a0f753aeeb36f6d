-- The laws of parties that a step machine can play: each step and each begin keeps the invariant.
use Rattle.std.specs.Prelude.{◌≡◌, ℕ, Bool, false, length, Option, Result, Ok}
use Rattle.iox_steps.specs.declared.access.Access.{Access}
use Rattle.iox_steps.specs.declared.access.Progress.{Progress}
use Rattle.iox_steps.specs.declared.error.MachineError.{MachineError}
use Rattle.iox_steps.specs.Accesses.{IsWithin}
use Rattle.iox_steps.specs.MachineStates.{MachineState, IsParty, with_party, seen_in, after_access}

module _ {P E : Type 0} (Invariant : MachineState P E → Type 0) where
  -- the access of each party names a word that exists
  abbrev pub StaysIn : (P → Access) → Type 0
  StaysIn asks = (machine : MachineState P E) (number : ℕ) (party : P)
      → Invariant machine → IsParty machine number party
      → IsWithin 0 (length machine.words) (asks party)

  -- each access of a party whose call is under way keeps the invariant
  abbrev pub IsKept : {R : Type 0} → (P → Access) → (P → ℕ → Progress R → P → Type 0)
      → (P → ℕ → Option E) → (P → Bool) → Type 0
  IsKept {R} asks leads happens at_rest =
      (machine : MachineState P E) (number : ℕ) (party after : P) (answer : Progress R)
      → Invariant machine → IsParty machine number party → at_rest party ≡ false
      → let seen = seen_in machine (asks party) in leads party seen answer after
      → Invariant (after_access machine number (asks party) after (happens party seen))

  -- each begin of a call keeps the invariant
  abbrev pub IsKeptByBegins : {C : Type 0} → (P → C → Result P MachineError → Type 0) → Type 0
  IsKeptByBegins {C} begins = (machine : MachineState P E) (number : ℕ) (call : C) (party after : P)
      → Invariant machine → IsParty machine number party → begins party call (Ok after)
      → Invariant (with_party machine number after)
