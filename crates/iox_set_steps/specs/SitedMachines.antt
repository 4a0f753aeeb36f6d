-- What a step machine of parties at a site promises, step by step and for every schedule.
use Rattle.std.specs.Prelude.{◌≡◌, ℕ, ◌++◌, List, [], ◌∷◌, Option, Some, None, if◌then◌else◌, All, length, slice_index, slice_index_or, replicate}
use Rattle.std.specs.Option.{option_to_list}
use Rattle.iox_steps.specs.declared.access.Progress.{Progress}
use Rattle.iox_steps.specs.declared.error.MachineError.{MachineError}
use Rattle.iox_steps.specs.declared.machine.Entry.{Entry}
use Rattle.iox_steps.specs.MachineStates.{MachineState, IsParty, with_party, seen_in, after_access, Stepped, IsStepRefused, Begun, IsBeginRefused, AllEntered, StopsAtStep}
use Rattle.iox_steps.specs.Answers.{OnProgress}
use Rattle.iox_steps.specs.Entries.{all_entered}
use Rattle.iox_set_steps.specs.Turns.{Turn, IsInterleavingOf}
use Rattle.iox_set_steps.specs.Kinds.{Kind, Calls, goes_to, progress_by, asks, happens, party_rests, next_of, Leads, Begins, MakesUp}

-- A step machine of parties at one site, as its callers see it.
pub record Sited (S P E : Type 0) : Type 0 where
  pub site : S
  pub machine : MachineState P E

module _ {S G P C R E : Type 0} (kind : Kind S G P C R E) where
  -- one access of the party of this number, whose call is under way, with its answer
  abbrev pub KindStepped : MachineState P E → ℕ → Progress R → MachineState P E → Type 0
  KindStepped = Stepped (asks kind) (Leads kind) (happens kind) (party_rests kind) (Begins kind)

  -- why a step is refused
  abbrev pub IsKindStepRefused : MachineState P E → ℕ → MachineError → Type 0
  IsKindStepRefused =
      IsStepRefused (asks kind) (Leads kind) (happens kind) (party_rests kind) (Begins kind)

  -- the party of this number began the call, and nothing else changed
  abbrev pub KindBegun : MachineState P E → ℕ → C → MachineState P E → Type 0
  KindBegun = Begun (asks kind) (Leads kind) (happens kind) (party_rests kind) (Begins kind)

  -- why a begin is refused: there is no such party, or the party refuses the call
  abbrev pub IsKindBeginRefused : MachineState P E → ℕ → C → MachineError → Type 0
  IsKindBeginRefused =
      IsBeginRefused (asks kind) (Leads kind) (happens kind) (party_rests kind) (Begins kind)

  -- all entries lead from one machine to the other, one after another
  abbrev pub AllKindEntered : MachineState P E → List (Entry C) → MachineState P E → Type 0
  AllKindEntered =
      AllEntered (asks kind) (Leads kind) (happens kind) (party_rests kind) (Begins kind)

  -- a schedule that found no memory stopped before a step of a party whose call is under way
  abbrev pub KindStopsAtStep : MachineState P E → List (Entry C) → MachineState P E → Type 0
  KindStopsAtStep =
      StopsAtStep (asks kind) (Leads kind) (happens kind) (party_rests kind) (Begins kind)

  -- the party is at this site, and at rest
  abbrev pub IsAtRestAt : S → P → Type 0
  IsAtRestAt site party = (kind.site_of party ≡ site) × (kind.program_of party ≡ kind.at_rest)

  -- a new machine: these words, `count` parties at rest at this site, and no event
  abbrev pub AreNew : List ℕ → S → ℕ → Sited S P E → Type 0
  AreNew words site count sited = (sited.site ≡ site) × (sited.machine.words ≡ words)
      × (sited.machine.events ≡ []) × All (IsAtRestAt site) sited.machine.parties
      × (length sited.machine.parties ≡ count)

  -- The party of this number; where there is none, one at rest at the site.
  abbrev pub party_at : Sited S P E → ℕ → P
  party_at sited number =
      slice_index_or sited.machine.parties number (kind.party_of sited.site kind.at_rest)

  -- the machine once the party of this number began the call
  abbrev pub sited_begun : Sited S P E → ℕ → C → Sited S P E
  sited_begun sited number call = record {
    site = sited.site;
    machine = with_party sited.machine number
        (kind.party_of sited.site (kind.start sited.site call));
  }

  -- what the next access of the party of this number answers
  abbrev pub sited_answer : Sited S P E → ℕ → Progress R
  sited_answer sited number = let party = party_at sited number in
      progress_by
      (kind.next sited.site (kind.program_of party) (seen_in sited.machine (asks kind party)))

  -- the machine once the party of this number made its next access
  abbrev pub sited_stepped : Sited S P E → ℕ → Sited S P E
  sited_stepped sited number = let party = party_at sited number in
      let seen = seen_in sited.machine (asks kind party) in
      let program = goes_to kind.at_rest (kind.next sited.site (kind.program_of party) seen) in
      record {
        site = sited.site;
        machine = after_access sited.machine number (asks kind party)
            (kind.party_of sited.site program) (happens kind party seen);
      }

  -- a new machine: these words, `count` parties at rest at this site, and no event
  abbrev pub new_sited : List ℕ → S → ℕ → Sited S P E
  new_sited words site count = record {
    site = site;
    machine = record {
      words = words;
      parties = replicate count (kind.party_of site kind.at_rest);
      events = [];
    };
  }

  -- where a party is after an access that found this word
  abbrev pub goes : P → ℕ → P
  goes party seen = kind.party_of (kind.site_of party) (goes_to kind.at_rest (next_of kind party seen))

  -- the party once it began the call: one at rest begins each call, any other none
  abbrev pub call_begun : P → C → Option P
  call_begun party call =
      if party_rests kind party
      then Some (kind.party_of (kind.site_of party) (kind.start (kind.site_of party) call))
      else None

  -- the machine after all entries
  abbrev pub sited_after : Sited S P E → List (Entry C) → Sited S P E
  sited_after sited entries = record {
    site = sited.site;
    machine = all_entered (asks kind) goes (happens kind) (party_rests kind) call_begun
        sited.machine entries;
  }

  module _ (calls : Calls S G C R E) where
    -- The party of this number is in this call, which made these accesses so far, the last first.
    pub record IsInCall (sited : Sited S P E) (number : ℕ) (call : C)
        (turns : List (Turn E)) : Type 0 where
      pub party : P
      pub is_party : IsParty sited.machine number party
      pub here : kind.site_of party ≡ sited.site
      pub doing : calls.IsDoing sited.site call turns (kind.program_of party)

    -- a party of another number is in the call that it was in
    abbrev pub OthersStayInCalls : Sited S P E → ℕ → Sited S P E → Type 0
    OthersStayInCalls old number new = (other : ℕ) (call : C) (earlier : List (Turn E))
        → (other ≡ number → ⊥) → IsInCall old other call earlier → IsInCall new other call earlier

    -- One access of the party of this number: its event, and no other, is written down; the reply
    -- agrees with it.
    pub record IsEvent (old : Sited S P E) (number : ℕ) (answer : Progress R)
        (new : Sited S P E) : Type 0 where
      pub event : Option E
      pub here : new.site ≡ old.site
      -- the event is written down, if there is one
      pub told : new.machine.events ≡ old.machine.events ++ option_to_list event
      -- the amount at each number changes by what the event brought there and took out
      pub amounts : (id : ℕ) → MakesUp kind id (kind.now old.site old.machine.words id)
          (option_to_list event) (kind.now old.site new.machine.words id)
      -- a reply, if there is one, agrees with the event
      pub answers : kind.Answers answer event
      -- whatever call the party is in, this is one more access of it, or the reply says what is
      -- true of it
      pub call : (call : C) (earlier : List (Turn E)) → IsInCall old number call earlier
          → let turn : Turn E = record { found = old.machine.words; event = event } in
          OnProgress answer
          (calls.GoesOn old.site call turn × IsInCall new number call (turn ∷ earlier))
          (calls.Says old.site call earlier turn)
      -- the other parties are in the calls that they were in
      pub others : OthersStayInCalls old number new
      -- one word changed at most
      pub length_stays : length new.machine.words ≡ length old.machine.words
      pub one_word : (place : ℕ)
          × ((other : ℕ) → (other ≡ place → ⊥)
          → slice_index new.machine.words other ≡ slice_index old.machine.words other)

    -- The party of this number began the call, and made no access yet; the other parties are in the
    -- calls that they were in.
    pub record BeginsCall (old : Sited S P E) (number : ℕ) (call : C) (new : Sited S P E)
        : Type 0 where
      pub here : new.site ≡ old.site
      pub words : new.machine.words ≡ old.machine.words
      pub events : new.machine.events ≡ old.machine.events
      -- the party is in the call, with no access yet
      pub begun : IsInCall new number call []
      -- the other parties are in the calls that they were in
      pub others : OthersStayInCalls old number new

    -- what a schedule came to: each entry begins a call, is one event, or changes nothing
    abbrev pub PlaySited : Sited S P E → List (Entry C) → Sited S P E → Type 0
    PlaySited = IsInterleavingOf BeginsCall IsEvent
