-- What a schedule makes of a machine in which each access of a party has one result: every entry as
-- a function.
use Rattle.std.specs.Prelude.{ℕ, Bool, if◌then◌else◌, List, [], ◌∷◌, map, Option, Some, None}
use Rattle.std.specs.List.{slice_get}
use Rattle.iox_steps.specs.declared.access.Access.{Access}
use Rattle.iox_steps.specs.declared.machine.Entry.{Entry}
use Rattle.iox_steps.specs.declared.machine.Entry.TheVariants.{Begin, Step}
use Rattle.iox_steps.specs.MachineStates.{MachineState, with_party, seen_in, after_access}

-- what is said of a party, or the given value where there is no party
abbrev pub of_party : {P A : Type 0} → A → (P → A) → Option P → A
of_party otherwise says None = otherwise
of_party otherwise says (Some party) = says party

-- the same machine, with each party replaced by its view
abbrev pub seen_as : {P Q E : Type 0} → (P → Q) → MachineState P E → MachineState Q E
seen_as plain machine =
    record { words = machine.words; parties = map plain machine.parties; events = machine.events }

module _ {P E C : Type 0} (asks : P → Access) (goes : P → ℕ → P) (happens : P → ℕ → Option E)
    (at_rest : P → Bool) (begins : P → C → Option P) where
  -- the access of this party is made, unless it is at rest
  abbrev pub stepped : MachineState P E → ℕ → P → MachineState P E
  stepped machine number party = let seen = seen_in machine (asks party) in
      if at_rest party then machine
      else after_access machine number (asks party) (goes party seen) (happens party seen)

  -- this party begins the call, where it may
  abbrev pub begun : MachineState P E → ℕ → C → P → MachineState P E
  begun machine number call party =
      of_party machine (λ after. with_party machine number after) (begins party call)

  -- the machine after one entry; an entry that names no party changes nothing
  abbrev pub entered : MachineState P E → Entry C → MachineState P E
  entered machine (Begin number call) =
      of_party machine (begun machine number call) (slice_get machine.parties number)
  entered machine (Step number) =
      of_party machine (stepped machine number) (slice_get machine.parties number)

  -- the machine after all entries, one after another
  abbrev pub all_entered : MachineState P E → List (Entry C) → MachineState P E
  all_entered machine [] = machine
  all_entered machine (entry ∷ entries) = all_entered (entered machine entry) entries
