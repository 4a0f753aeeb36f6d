-- Parties at a site, whether they set bits or count there: their accesses, and what holds at all
-- times.
use Rattle.std.specs.Prelude.{◌≡◌, ℕ, Bool, false, ◌+◌, ◌^◌, ◌<◌, ◌≤◌, All, List, [], ◌∷◌, Option, Result, MatchResult, length, slice_index}
use Rattle.std.specs.List.{sum_by}
use Rattle.iox_steps.specs.declared.access.Access.{Access}
use Rattle.iox_steps.specs.declared.access.Next.{Next}
use Rattle.iox_steps.specs.declared.access.Next.TheVariants.{Goes, Ends}
use Rattle.iox_steps.specs.declared.access.Progress.{Progress}
use Rattle.iox_steps.specs.declared.access.Progress.TheVariants.{Going, Done}
use Rattle.iox_steps.specs.declared.error.MachineError.{MachineError}
use Rattle.iox_steps.specs.declared.error.MachineError.TheVariants.{Busy}
use Rattle.iox_steps.specs.Accesses.{seen_by}
use Rattle.iox_steps.specs.MachineStates.{MachineState}
use Rattle.iox_set_steps.specs.Turns.{Turn, AtEach}

-- the program after an access: it continues, or is at rest
abbrev pub goes_to : {G R : Type 0} → G → Next G R → G
goes_to at_rest (Goes program) = program
goes_to at_rest (Ends reply) = at_rest

-- whether a call continues, and else its reply
abbrev pub progress_by : {G R : Type 0} → Next G R → Progress R
progress_by (Goes program) = Going
progress_by (Ends reply) = Done reply

-- What differs between kinds of parties (P): sites (S), programs (G), calls (C), replies (R) and
-- events (E).
pub record Kind (S G P C R E : Type 0) : Type 1 where
  pub site_of : P → S
  pub program_of : P → G
  -- the party at this site with this program
  pub party_of : S → G → P
  -- the access that a program makes next
  pub access : S → G → Access
  -- where a program goes after an access that found this word
  pub next : S → G → ℕ → Next G R
  -- the event of an access that found this word, if there is one
  pub event : G → ℕ → Option E
  -- the first access of a call
  pub start : S → C → G
  pub at_rest : G
  -- is no call under way?
  pub rests : G → Bool
  -- how many numbers the site has, and the first place behind its words
  pub capacity : S → ℕ
  pub behind : S → ℕ
  -- the amount at a number now, and the amounts that an event brought there and took out
  pub now : S → List ℕ → ℕ → ℕ
  pub brought : ℕ → E → ℕ
  pub taken : ℕ → E → ℕ
  -- what holds of a party at each point of its program, and whether a reply agrees with the event
  -- of its access
  pub Knows : S → G → Type 0
  pub Answers : Progress R → Option E → Type 0

-- What the clauses say of the calls of a kind.
pub record Calls (S G C R E : Type 0) : Type 1 where
  -- what a reply says of the access that gave it and of the call's earlier accesses
  pub Says : S → C → List (Turn E) → Turn E → R → Type 0
  -- what holds of an access that gives no reply
  pub GoesOn : S → C → Turn E → Type 0
  -- what holds of the program of a call that made these accesses
  pub IsDoing : S → C → List (Turn E) → G → Type 0

module _ {S G P C R E : Type 0} (kind : Kind S G P C R E) where
  -- the access that the party makes next
  abbrev pub asks : P → Access
  asks party = kind.access (kind.site_of party) (kind.program_of party)

  -- the event of the party's access that found this word, if there is one
  abbrev pub happens : P → ℕ → Option E
  happens party seen = kind.event (kind.program_of party) seen

  -- is the party at rest?
  abbrev pub party_rests : P → Bool
  party_rests party = kind.rests (kind.program_of party)

  -- where the party's program goes after an access that found this word
  abbrev pub next_of : P → ℕ → Next G R
  next_of party seen = kind.next (kind.site_of party) (kind.program_of party) seen

  -- the party continues like this after an access that found this word, with this answer
  abbrev pub Leads : P → ℕ → Progress R → P → Type 0
  Leads party seen answer after = (kind.site_of after ≡ kind.site_of party)
      × (kind.program_of after ≡ goes_to kind.at_rest (next_of party seen))
      × (answer ≡ progress_by (next_of party seen))

  -- the begin of a call: the party after it, or the refusal of a party whose call is under way
  abbrev pub Begins : P → C → Result P MachineError → Type 0
  Begins party call result = MatchResult result
      (λ after. (kind.program_of party ≡ kind.at_rest) × (kind.site_of after ≡ kind.site_of party)
      × (kind.program_of after ≡ kind.start (kind.site_of party) call))
      (λ error. (error ≡ Busy) × (party_rests party ≡ false))

  -- how much the events brought to a number
  abbrev pub all_brought : ℕ → List E → ℕ
  all_brought id events = sum_by (kind.brought id) events

  -- how much the events took out at a number
  abbrev pub all_taken : ℕ → List E → ℕ
  all_taken id events = sum_by (kind.taken id) events

  -- the old amount plus what the events brought is what they took out plus the new amount
  abbrev pub MakesUp : ℕ → ℕ → List E → ℕ → Type 0
  MakesUp id old events new = old + all_brought id events ≡ all_taken id events + new

  -- the party is at this site, and what its program relies on holds
  abbrev pub IsAt : S → P → Type 0
  IsAt site party = (kind.site_of party ≡ site) × kind.Knows site (kind.program_of party)

  -- What holds at a site after any calls of the parties.
  pub record HoldsAt (site : S) (machine : MachineState P E) : Type 0 where
    -- for each number, as much was brought as was taken out and stands there now
    pub conserved : (id : ℕ) → all_brought id machine.events
        ≡ all_taken id machine.events + kind.now site machine.words id
    -- nothing was brought to a number past the capacity
    pub inside : (id : ℕ) → kind.capacity site ≤ id → all_brought id machine.events ≡ 0
    pub room : kind.behind site ≤ length machine.words
    pub memory : length machine.words < 2 ^ 64
    -- each word has 64 bits
    pub words : All (λ word. word < 2 ^ 64) machine.words
    pub parties : All (IsAt site) machine.parties

  -- the machine is one of parties at a site, as it is after any calls
  abbrev pub Hold : MachineState P E → Type 0
  Hold machine = (site : S) × HoldsAt site machine

  -- the words of the site are among the words, and each word has 64 bits
  pub record HaveSite (site : S) (words : List ℕ) : Type 0 where
    pub room : kind.behind site ≤ length words
    pub memory : length words < 2 ^ 64
    pub small : All (λ word. word < 2 ^ 64) words

  -- what the next access of a program sees in these words
  abbrev pub seen_in_words : S → G → List ℕ → ℕ
  seen_in_words site program words =
      seen_by (kind.access site program) (λ place. slice_index words place)

  -- one access of a program that finds these words, with its event
  abbrev pub turn_of : S → G → List ℕ → Turn E
  turn_of site program words =
      record { found = words; event = kind.event program (seen_in_words site program words) }

  -- the program of a call whose accesses found these words, the last first
  abbrev pub program_after : S → C → List (List ℕ) → G
  program_after site call [] = kind.start site call
  program_after site call (words ∷ earlier) = let program = program_after site call earlier in
      goes_to kind.at_rest (kind.next site program (seen_in_words site program words))

  -- the accesses of a call that found these words, each with its event, the last first
  abbrev pub turns_of : S → C → List (List ℕ) → List (Turn E)
  turns_of site call [] = []
  turns_of site call (words ∷ earlier) =
      turn_of site (program_after site call earlier) words ∷ turns_of site call earlier

module _ {S G C R E : Type 0} (calls : Calls S G C R E) where
  -- what holds of an access of a call, whether the call continues after it or replies
  abbrev pub Tells : S → C → List (Turn E) → Turn E → Next G R → Type 0
  Tells site call earlier turn (Goes program) =
      calls.GoesOn site call turn × calls.IsDoing site call (turn ∷ earlier) program
  Tells site call earlier turn (Ends reply) = calls.Says site call earlier turn reply

-- Whatever words the accesses of a call find, what its reply says is true.
abbrev pub RepliesTell : {S G P C R E : Type 0} → Kind S G P C R E → Calls S G C R E → Type 0
RepliesTell {S} {G} {P} {C} {R} kind calls = (site : S) (call : C) (earlier : List (List ℕ))
    (words : List ℕ) (reply : R) → AtEach (HaveSite kind site) (words ∷ earlier)
    → let program = program_after kind site call earlier in
    kind.next site program (seen_in_words kind site program words) ≡ Ends reply
    → calls.Says site call (turns_of kind site call earlier) (turn_of kind site program words) reply
