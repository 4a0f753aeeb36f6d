-- A step machine as its callers see it: shared words, the parties that play on them, and what
-- happened. Its laws are those of its parties.
use Rattle.std.specs.Prelude.{◌≡◌, ℕ, Bool, true, false, ◌<◌, ◌≤◌, ◌⊎◌, ◌++◌, List, [], ◌∷◌, length, slice_index, slice_index_or, slice_set, Option, Result, Ok, Err}
use Rattle.std.specs.Option.{option_to_list}
use Rattle.iox_steps.specs.declared.access.Access.{Access}
use Rattle.iox_steps.specs.declared.access.Progress.{Progress}
use Rattle.iox_steps.specs.declared.error.MachineError.{MachineError}
use Rattle.iox_steps.specs.declared.error.MachineError.TheVariants.{UnknownParty, AtRest, Busy, WantOfMemory}
use Rattle.iox_steps.specs.declared.machine.Entry.{Entry}
use Rattle.iox_steps.specs.declared.machine.Entry.TheVariants.{Begin, Step}
use Rattle.iox_steps.specs.Accesses.{seen_by, words_after}

-- a step machine: its shared words, its parties and the events so far
pub record MachineState (P E : Type 0) : Type 0 where
  pub words : List ℕ
  -- the parties, each named by its index
  pub parties : List P
  -- the events so far, oldest first
  pub events : List E

-- the party of this number
abbrev pub IsParty : {P E : Type 0} → MachineState P E → ℕ → P → Type 0
IsParty machine number party = (number < length machine.parties)
    × (party ≡ slice_index_or machine.parties number party)

-- the machine with another party at this number
abbrev pub with_party : {P E : Type 0} → MachineState P E → ℕ → P → MachineState P E
with_party machine number after = record machine { parties = slice_set machine.parties number after }

-- what a party that makes this access sees
abbrev pub seen_in : {P E : Type 0} → MachineState P E → Access → ℕ
seen_in machine access = seen_by access (λ place. slice_index machine.words place)

-- the machine once a party made an access: it is now at `after`, and its event is written down
abbrev pub after_access : {P E : Type 0} → MachineState P E → ℕ → Access → P → Option E → MachineState P E
after_access machine number access after event = record {
  words = words_after access machine.words;
  parties = slice_set machine.parties number after;
  events = machine.events ++ option_to_list event;
}

module _ {P E R C : Type 0} (asks : P → Access) (leads : P → ℕ → Progress R → P → Type 0)
    (happens : P → ℕ → Option E) (at_rest : P → Bool)
    (begins : P → C → Result P MachineError → Type 0) where
  -- one access of the party of this number, whose call is under way, with its answer
  pub record Stepped (old : MachineState P E) (number : ℕ) (answer : Progress R) (new : MachineState P E) : Type 0 where
    pub party : P
    pub after : P
    pub is_party : IsParty old number party
    pub under_way : at_rest party ≡ false
    -- the party continues like this after what its access found
    pub leads_on : leads party (seen_in old (asks party)) answer after
    -- the words, the party and the events are those after the access; nothing else changed
    pub leads_to : new
        ≡ after_access old number (asks party) after (happens party (seen_in old (asks party)))

  -- the party of this number has no call under way
  abbrev pub IsAtRest : MachineState P E → ℕ → Type 0
  IsAtRest machine number = (party : P) × (IsParty machine number party × (at_rest party ≡ true))

  -- the party of this number has a call under way
  abbrev pub IsUnderWay : MachineState P E → ℕ → Type 0
  IsUnderWay machine number = (party : P) × (IsParty machine number party × (at_rest party ≡ false))

  -- why a step is refused
  abbrev pub IsStepRefused : MachineState P E → ℕ → MachineError → Type 0
  IsStepRefused machine number UnknownParty = length machine.parties ≤ number
  IsStepRefused machine number AtRest = IsAtRest machine number
  IsStepRefused machine number Busy = ⊥
  IsStepRefused machine number WantOfMemory = IsUnderWay machine number

  -- the party of this number begins the call
  pub record Begun (old : MachineState P E) (number : ℕ) (call : C) (new : MachineState P E) : Type 0 where
    pub party : P
    pub after : P
    pub is_party : IsParty old number party
    -- the party begins the call and is `after` then
    pub begins_with : begins party call (Ok after)
    -- only the party changed
    pub leads_to : new ≡ with_party old number after

  -- why a begin is refused: there is no such party, or the party refuses the call
  abbrev pub IsBeginRefused : MachineState P E → ℕ → C → MachineError → Type 0
  IsBeginRefused machine number call error = ((error ≡ UnknownParty) × (length machine.parties ≤ number))
      ⊎ ((party : P) × (IsParty machine number party × begins party call (Err error)))

  -- why a schedule passes over a step: there is no such party, or it has no call under way
  abbrev pub IsStepPassedOver : MachineState P E → ℕ → Type 0
  IsStepPassedOver machine number = (length machine.parties ≤ number) ⊎ IsAtRest machine number

  -- one entry of a schedule; one that is passed over changes nothing and counts as absent
  abbrev pub Entered : MachineState P E → Entry C → MachineState P E → Type 0
  Entered old (Begin number call) new = Begun old number call new
      ⊎ (((error : MachineError) × IsBeginRefused old number call error) × (new ≡ old))
  Entered old (Step number) new = ((answer : Progress R) × Stepped old number answer new)
      ⊎ (IsStepPassedOver old number × (new ≡ old))

  -- all entries lead from one machine to the other, one after another
  abbrev pub AllEntered : MachineState P E → List (Entry C) → MachineState P E → Type 0
  AllEntered old [] new = new ≡ old
  AllEntered old (entry ∷ entries) new = (mid : MachineState P E)
      × (Entered old entry mid × AllEntered mid entries new)

  -- the entry is a step of a party whose call is under way: only such an entry may find no memory
  abbrev pub IsStepUnderWay : MachineState P E → Entry C → Type 0
  IsStepUnderWay machine (Begin number call) = ⊥
  IsStepUnderWay machine (Step number) = IsUnderWay machine number

  -- a schedule that found no memory stopped before such a step
  pub record StopsAtStep (old : MachineState P E) (entries : List (Entry C))
      (new : MachineState P E) : Type 0 where
    pub before : List (Entry C)
    pub entry : Entry C
    pub others : List (Entry C)
    pub parts : entries ≡ before ++ entry ∷ others
    pub played : AllEntered old before new
    pub under_way : IsStepUnderWay new entry
