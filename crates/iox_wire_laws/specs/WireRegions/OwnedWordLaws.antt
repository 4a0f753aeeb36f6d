-- A call that owns its place may access it, and owns the next one: at every place.
use Rattle.std.specs.Prelude.{◌≡◌, ℕ, None}
use Rattle.iox_model.specs.declared.way.RequestState.{RequestState}
use Rattle.iox_model.specs.declared.way.Way.{Way}
use Rattle.iox_model.specs.Joins.{not_living}
use Rattle.iox_model.specs.Maps.{put_at}
use Rattle.iox_model.specs.States.{Fixed, State}
use Rattle.iox_model.specs.Weaves.{World}
use Rattle.iox_steps.specs.Accesses.{seen_by}
use Rattle.iox_wire_words.specs.Programs.{program_access}
use Rattle.iox_wire_words.specs.Fits.{WireContents, contents_after}
use Rattle.iox_wire_words.specs.Laws.{AccessIsMade}
use Rattle.iox_wire_moments.specs.MomentsOf.{Pools}
use Rattle.iox_wire_locals.specs.declared.local.Local.{Local}
use Rattle.iox_wire_locals.specs.declared.local.Local.TheVariants.{LendEmpties, LendStores}
use Rattle.iox_wire_locals.specs.declared.seat.Seat.{Seat}
use Rattle.iox_wire_locals.specs.Knowing.{Knows}
use Rattle.iox_wire_locals.specs.Locals.{program_of}
use Rattle.iox_wire_locals.specs.StateMoments.{moment_at}
use Rattle.iox_wire_locals.specs.StepLaws.{ReliesOn}
use Rattle.iox_wire_locals.specs.Steps.{advance, accessed}
use Rattle.iox_wire_locals.specs.Tables.{Setting}
use Rattle.iox_wire_laws.specs.WireKeeping.Shows.{ShowsWorld, OwnsPlace}
use Rattle.iox_wire_laws.specs.WireShows.Ids.{NamesSmall}
use Rattle.iox_wire_laws.specs.WireShows.OwnedCalls.{LimitsAreKnown, TellsLane, WordsTell, state_after}
use Rattle.iox_wire_laws.specs.WireShows.StepsShow.{ShowsNext}
use Rattle.iox_wire_laws.specs.WireRegions.OwnedWords.{FreeSlotsAreThePools, HasLane, Owns}

-- What a call owns, it may access, and its place knows what it needs.
abbrev pub OwnersMayAccess : Type 0
OwnersMayAccess =
    (p : Setting) (held : Pools) (s : State) (x : Seat)
    → Owns p x.node s.fixed s.request_state x.local → TellsLane held x.local
    → OwnsPlace p held s x × NamesSmall x.local

-- what a node's call may do at a place, by the tables and the request states
abbrev pub Owning : Type 1
Owning = Setting → ℕ → Fixed → (Way → RequestState) → Local → Type 0

-- a loan that has its slot has a lane
abbrev pub LoanHasLane : Setting → Local → Type 0
LoanHasLane p (LendStores o slot next) = HasLane p o
LoanHasLane p local = Unit {0}

-- a loan that takes a slot has a lane
abbrev pub TakesLane : Setting → (before after : Local) → Type 0
TakesLane p (LendEmpties o w place left) after = LoanHasLane p after
TakesLane p before after = Unit {0}

-- After an access the call owns its next place, in this sense of owning.
abbrev pub StayOwners : Owning → Type 0
StayOwners owns =
    (p : Setting) (held : Pools) (s : State) (x : Seat) (seen : ℕ)
    → owns p x.node s.fixed s.request_state x.local → Knows p x s.fixed held
    → FreeSlotsAreThePools p x → LimitsAreKnown p x s.fixed
    → ReliesOn p (accessed x) s held x.local seen → WordsTell p x.local seen
    → let t = state_after s (moment_at p held x.local seen) in
    let y = advance p (accessed x) x.local seen in
    TakesLane p x.local y.local → owns p y.node t.fixed t.request_state y.local

-- Where words and seats show a world, and the call of a living node owns its place, the next access
-- is one beat of the machine or none. The world after it is shown, and the call owns its next
-- place.
abbrev pub GoOnAsOwners : Owning → Type 0
GoOnAsOwners owns =
    (p : Setting) (held : Pools) (word word' : ℕ → ℕ) (c : WireContents) (seats : ℕ → Seat)
    (w : World) (n : ℕ)
    → ShowsWorld p held word c seats w → not_living w.state n ≡ None
    → let x = seats n in let program = program_of p x.local in
    let seen = seen_by (program_access p.layout program) word in
    let y = advance p (accessed x) x.local seen in
    let t = state_after w.state (moment_at p held x.local seen) in
    owns p x.node w.state.fixed w.state.request_state x.local → FreeSlotsAreThePools p x
    → TellsLane held x.local → LimitsAreKnown p x w.state.fixed → WordsTell p x.local seen
    → ReliesOn p (accessed x) w.state held x.local seen → TakesLane p x.local y.local
    → AccessIsMade (program_access p.layout program) word word'
    → ShowsNext p held word' (contents_after p.layout program seen c) (put_at seats n y) w n
    (moment_at p held x.local seen)
    × owns p y.node t.fixed t.request_state y.local

-- So it is of what a call owns.
abbrev pub OwnersStayOwners : Type 0
OwnersStayOwners = StayOwners Owns

-- And a node whose call owns its place continues.
abbrev pub OwnersGoOn : Type 0
OwnersGoOn = GoOnAsOwners Owns
