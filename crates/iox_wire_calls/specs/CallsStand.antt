-- What is so of the calls of all living nodes of a wire, beside what stands, and that it stays so.
use Rattle.std.specs.Prelude.{◌^◌, ◌≤◌, ◌<◌, ◌≡◌, ◌==◌, ℕ, Bool, true, false, List, ◌∷◌, ◌++◌, [], length, Some, None}
use Rattle.iox_model.specs.declared.call.Call.TheVariants.{HasHint, HasRequests, HasResponse, IsConnected, Receive, Release}
use Rattle.iox_model.specs.declared.call.WireCall.TheVariants as wire_calls
use Rattle.iox_model.specs.Commands.{WireCall}
use Rattle.iox_model.specs.Joins.{not_living}
use Rattle.iox_model.specs.Maps.{put_at}
use Rattle.iox_model.specs.States.{State}
use Rattle.iox_model.specs.Weaves.{Begins, Dies, World, IsBeat, begin_refusal}
use Rattle.iox_steps.specs.Accesses.{seen_by}
use Rattle.iox_wire_steps.specs.Laws.{AccessIsMade}
use Rattle.iox_wire_steps.specs.Programs.{program_access}
use Rattle.iox_wire_steps.specs.MomentsOf.{Pools}
use Rattle.iox_wire_steps.specs.Seat.{Seat}
use Rattle.iox_wire_steps.specs.Entry.{Entry}
use Rattle.iox_wire_steps.specs.Begins.{begin, is_busy}
use Rattle.iox_wire_steps.specs.Known.{loans_at}
use Rattle.iox_wire_steps.specs.Locals.{program_of}
use Rattle.iox_wire_steps.specs.StateMoments.{moment_at}
use Rattle.iox_wire_steps.specs.Steps.{accessed, advance, tells}
use Rattle.iox_wire_steps.specs.Tables.{Setting, entry_at, words_to_read}
use Rattle.iox_wire_steps.specs.Readiness.{choice_for}
use Rattle.iox_wire_steps.specs.Aside.{shown}
use Rattle.iox_wire_steps.specs.Holding.{held_at}
use Rattle.iox_wire_steps.specs.OwnedWords.{Owns}
use Rattle.iox_wire_steps.specs.StandsBeginLaws.{MayBegin}
use Rattle.iox_wire_steps.specs.Openings.{opened_seat}
use Rattle.iox_wire_steps.specs.Runs.{Asked, GoesOnBy, Run}
use Rattle.iox_wire_steps.specs.Stands.{Player, Stands, seats_of, word_of}
use Rattle.iox_wire_steps.specs.WholeSteps.{GoesOnWith, HoldsNext, player_next, step_beats}
use Rattle.iox_wire_calls.specs.Lanes.{AllLanesAreCounted}
use Rattle.iox_wire_calls.specs.LoanSlots.{LoansStand, WordsAreTold}
use Rattle.iox_wire_calls.specs.Places.{CallFits}
use Rattle.iox_wire_calls.specs.StepsTold.{PayloadFits, PushesBelow}

-- of one node: its call and its table are as they may be, its clients' lanes are counted, and slots
-- hold what they may of loans
pub record CallStands (p : Setting) (held : Pools) (x : Seat) : Type 0 where
  pub fits : CallFits p x
  pub lanes : AllLanesAreCounted p x
  pub loans : LoansStand p held x

-- of each living node, as it is shown
abbrev pub CallsStand : Setting → Pools → (ℕ → Player) → State → Type 0
CallsStand p held players s =
    (n : ℕ) → not_living s n ≡ None → CallStands p held (seats_of p players n)

-- As a wire opens it is so of each node, with serials in the slots that are of no loan.
abbrev pub CallsStandAtFirst : Type 0
CallsStandAtFirst =
    (p : Setting) (held : Pools) (n : ℕ) → ((port slot : ℕ) → 2 ^ 64 ≤ (held port slot).serial)
    → CallStands p held (opened_seat p n)

-- whether the call lends, writes, sends, reads or hints: it is not one that only receives, looks,
-- checks or releases
abbrev pub moves_words : WireCall → Bool
moves_words (wire_calls.Port (Receive n)) = false
moves_words (wire_calls.Port (HasRequests n)) = false
moves_words (wire_calls.Port (HasResponse n)) = false
moves_words (wire_calls.Port (IsConnected n)) = false
moves_words (wire_calls.Port (HasHint n)) = false
moves_words (wire_calls.Port (Release n)) = false
moves_words (wire_calls.Port call) = true
moves_words (wire_calls.Forget dead) = false

-- What the begin of a call is still to be told: how long the messages of the node's entries are,
-- and that the first place of a call that moves words owns what it accesses.
pub record BeginIsTold (p : Setting) (held : Pools) (s : State) (x : Seat) (call : WireCall)
    : Type 0 where
  pub elements : (n : ℕ) (e : Entry) → entry_at n x.table ≡ Some e
      → (held e.sender e.slot).elements ≡ e.elements
  pub words : (n : ℕ) (e : Entry) → entry_at n x.table ≡ Some e → (words_to_read p e == 0) ≡ true
      → (held e.sender e.slot).user ++ (held e.sender e.slot).payload ≡ []
  pub owns : moves_words call ≡ true
      → Owns p x.node s.fixed s.request_state (begin p x call).local

-- A node that is told this may begin a call that is not refused, where fewer than 2^64 loans of each
-- of its ports succeeded.
abbrev pub CallsMayBegin : Type 0
CallsMayBegin =
    (p : Setting) (words : List ℕ) (players : ℕ → Player) (r : Run) (n : ℕ) (call : WireCall)
    (stands : Stands p words players r)
    → CallsStand p stands.held players r.last.state
    → let x = (players n).seat in
    ((port : ℕ) → loans_at x port < 2 ^ 64) → BeginIsTold p stands.held r.last.state x call
    → begin_refusal r.last n call ≡ None → MayBegin p stands.held r.last.state x call

-- After the begin of a call what stands stands, and so do calls.
abbrev pub BegunCallsStand : Type 0
BegunCallsStand =
    (p : Setting) (words : List ℕ) (players : ℕ → Player) (r : Run) (n : ℕ) (call : WireCall)
    (stands : Stands p words players r)
    → CallsStand p stands.held players r.last.state
    → let x = (players n).seat in
    ((port : ℕ) → loans_at x port < 2 ^ 64) → BeginIsTold p stands.held r.last.state x call
    → begin_refusal r.last n call ≡ None
    → (next : Run) × GoesOnBy r (Begins n call (choice_for p x call)) next
    × (later : Stands p words
    (put_at players n (record {
      seat = begin p x call;
      said = (players n).said ++ Asked call ∷ [];
    })) next)
    × (later.held ≡ held_at p stands.held (begin p x call).local)
    × (later.contents ≡ stands.contents)
    × CallsStand p later.held
    (put_at players n (record {
      seat = begin p x call;
      said = (players n).said ++ Asked call ∷ [];
    })) next.last.state

-- A step of a living node with a call leads from what stands to what stands, and calls stand. It is
-- told words of messages; the queue into which it pushes is below its last position, fewer than 2^64
-- loans of each port succeeded, and a new loan has a payload of its length.
abbrev pub SteppedCallsStand : Type 0
SteppedCallsStand =
    (p : Setting) (words words' : List ℕ) (players : ℕ → Player) (r : Run) (n : ℕ)
    (payload : List ℕ) (stands : Stands p words players r)
    → CallsStand p stands.held players r.last.state → not_living r.last.state n ≡ None
    → let x = (players n).seat in let q = seats_of p players n in
    let access = program_access p.layout (program_of p x.local) in
    let seen = seen_by access (word_of words) in
    is_busy x.local ≡ true → PushesBelow p (word_of words) q.local
    → ((port : ℕ) → loans_at q port < 2 ^ 64)
    → WordsAreTold p stands.held r.last.state q seen q.local
    → PayloadFits p payload (advance p (accessed q) q.local seen).local
    → AccessIsMade access (word_of words) (word_of words') → length words' ≡ length words
    → (after : Run)
    × GoesOnWith r
    (step_beats n payload (moment_at p stands.held x.local seen) (tells p x seen)) after
    × (later : Stands p words' (put_at players n (player_next p (players n) seen)) after)
    × HoldsNext p (shown p x) seen payload stands.held stands.contents later.held later.contents
    × CallsStand p later.held (put_at players n (player_next p (players n) seen)) after.last.state

-- The death of a node leaves calls as they stand.
abbrev pub DeathsLeaveCalls : Type 0
DeathsLeaveCalls =
    (p : Setting) (held : Pools) (players : ℕ → Player) (w u : World) (n : ℕ)
    → IsBeat w (Dies n) u → CallsStand p held players w.state → CallsStand p held players u.state
