-- Which slots are in use, as the desks of a node count it.
use Rattle.iox_steps.specs.declared.site.QueueKind.TheVariants.{Index}
use Rattle.iox_model.specs.declared.way.Way.{Way}
use Rattle.std.specs.Prelude.{Bool, List, None, [], false, length, true, ℕ, ◌+◌, ◌<◌, ◌^◌, ◌∷◌, ◌≡◌}
use Rattle.iox_model.specs.Joins.{not_living}
use Rattle.iox_steps.specs.Accesses.{seen_by}
use Rattle.iox_steps.specs.Sites.{last_position}
use Rattle.iox_steps.specs.declared.side.QueueEvent.TheVariants.{HandOut, Learn, Publish}
use Rattle.iox_word_map.specs.WordMaps.{MessageQueue, ReturningQueue}
use Rattle.iox_wire_loans.specs.Aims.{GetsBackUsed}
use Rattle.iox_wire_keeps.specs.Laws.{AccessIsMade}
use Rattle.iox_wire_keeps.specs.Programs.{program_access}
use Rattle.iox_wire_keeps.specs.Local.{Local}
use Rattle.iox_wire_keeps.specs.Local.TheVariants.{LendEmpties, SendEmpties, SendGetsBack, SendPushes}
use Rattle.iox_wire_keeps.specs.Seat.{Seat}
use Rattle.iox_wire_keeps.specs.Entry.{Entry}
use Rattle.iox_wire_keeps.specs.NewLoan.{NewLoan}
use Rattle.iox_wire_keeps.specs.NewLoans.{entry_in}
use Rattle.iox_model.specs.Handles.{is_request_loan}
use Rattle.iox_wire_keeps.specs.Begins.{is_busy}
use Rattle.iox_wire_keeps.specs.LocalsDesks.{at_desk, gets_back}
use Rattle.iox_wire_keeps.specs.Desk.{Desk}
use Rattle.iox_wire_keeps.specs.Locals.{program_of}
use Rattle.iox_wire_keeps.specs.Steps.{ending_at, pop_finds, push_finds}
use Rattle.iox_wire_keeps.specs.Tables.{Setting}
use Rattle.iox_wire_keeps.specs.Desks.{IsUsed, MayDeliver, MayGiveUp}
use Rattle.iox_wire_keeps.specs.Following.{Lent, Sent, message_at}
use Rattle.iox_wire_keeps.specs.Runs.{Run}
use Rattle.iox_wire_keeps.specs.Stands.{Player, word_of}
use Rattle.iox_wire_keeps.specs.WireStands.{WireStands}
use Rattle.iox_wire_needs.specs.Counts.{IsTidy}

-- each of these ports sends on fewer ways than a word counts
abbrev pub HaveFewWays : List Desk → Type 0
HaveFewWays [] = Unit {0}
HaveFewWays (d ∷ ds) = (length d.recorded + 3 < 2 ^ 64) × HaveFewWays ds

-- What an access that finds this gets back is in use, and what it delivers may be delivered. With
-- what was pushed out got back, the loan is in use still.
abbrev pub FindsInUse : Setting → Seat → Local → ℕ → Type 0
FindsInUse p x (LendEmpties o w place left) seen =
    (slot : ℕ) → pop_finds p (ReturningQueue w) place seen ≡ HandOut slot
    → IsUsed o.port slot x.desks
FindsInUse p x (SendEmpties d w place left) seen =
    (slot : ℕ) → pop_finds p (ReturningQueue w) place seen ≡ HandOut slot
    → IsUsed d.loan.port slot x.desks
FindsInUse p x (SendPushes d last w place left count) seen =
    (slot : ℕ) → push_finds p (MessageQueue w) place seen ≡ Publish slot
    → MayDeliver d.loan.port w slot x.desks
FindsInUse p x (SendGetsBack d w place left count) seen =
    (slot : ℕ) → push_finds p (MessageQueue w) place seen ≡ Learn slot
    → IsUsed d.loan.port slot x.desks
    × IsUsed d.loan.port d.loan.slot (at_desk x d.loan.port (gets_back w slot)).desks
FindsInUse p x local seen = Unit {0}

-- So it is of the next access of a living node with a call, wherever the wire stands.
abbrev pub AccessesFindInUse : Type 0
AccessesFindInUse =
    (p : Setting) (words words' : List ℕ) (players : ℕ → Player) (r : Run) (n : ℕ)
    → WireStands p words players r → not_living r.last.state n ≡ None
    → let x = (players n).seat in let access = program_access p.layout (program_of p x.local) in
    is_busy x.local ≡ true → x.accesses < last_position
    → AccessIsMade access (word_of words) (word_of words') → length words' ≡ length words → IsTidy x
    → HaveFewWays x.desks → FindsInUse p x x.local (seen_by access (word_of words))

-- The slot that a loan gets back with its next access is in use, whatever its access finds, where returning
-- queues are queues of indices: these have no other taker.
abbrev pub LoansGetBackInUse : Type 0
LoansGetBackInUse =
    (p : Setting) (x : Seat) (seen : ℕ) → ((w : Way) → p.layout.kind (ReturningQueue w) ≡ Index)
    → FindsInUse p x x.local seen → GetsBackUsed x x.local

-- A request that a living node's call sends may be given up: its slot is in use, and fewer lanes are
-- free than its client has.
abbrev pub RequestsMayBeGivenUp : Type 0
RequestsMayBeGivenUp =
    (p : Setting) (words : List ℕ) (players : ℕ → Player) (r : Run) (n : ℕ)
    → WireStands p words players r → not_living r.last.state n ≡ None
    → let x = (players n).seat in
    IsTidy x → ((e : Entry) (copied : Bool) → message_at x.local ≡ Sent e copied
    → ending_at x.local ≡ None → is_request_loan e.kind ≡ true → MayGiveUp e x.desks)
    × ((e : Entry) → message_at x.local ≡ Sent e false → is_request_loan e.kind ≡ true
    → MayGiveUp e x.desks)

-- A loan that a living node's call makes may be given up, of a request or of a response.
abbrev pub NewLoansMayBeGivenUp : Type 0
NewLoansMayBeGivenUp =
    (p : Setting) (words : List ℕ) (players : ℕ → Player) (r : Run) (n : ℕ)
    → WireStands p words players r → not_living r.last.state n ≡ None
    → let x = (players n).seat in
    IsTidy x → (o : NewLoan) (slot : ℕ) → message_at x.local ≡ Lent o slot
    → ending_at x.local ≡ None → MayGiveUp (entry_in o slot) x.desks

-- The slot of what a living node's call sends is in use, wherever the call is.
abbrev pub WhatIsSentIsInUse : Type 0
WhatIsSentIsInUse =
    (p : Setting) (words : List ℕ) (players : ℕ → Player) (r : Run) (n : ℕ)
    → WireStands p words players r → not_living r.last.state n ≡ None
    → let x = (players n).seat in
    IsTidy x → (e : Entry) (copied : Bool) → message_at x.local ≡ Sent e copied
    → IsUsed e.port e.slot x.desks
