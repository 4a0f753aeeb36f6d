-- Request states name requests by small ids.
use Rattle.std.specs.Prelude.{ℕ, ◌^◌, ◌<◌, Bool, List, Option, Some, None}
use Rattle.iox_model.specs.declared.way.Way.{Way}
use Rattle.iox_model.specs.Moments.{Moment, moved}
use Rattle.iox_model.specs.States.{Port, State}
use Rattle.iox_wire_moments.specs.MomentsOf.{Pools}
use Rattle.iox_wire_locals.specs.declared.local.Local.{Local}
use Rattle.iox_wire_locals.specs.declared.local.Local.TheVariants.{SendOpens, HintExchanges}
use Rattle.iox_wire_locals.specs.declared.seat.Seat.{Seat}
use Rattle.iox_wire_locals.specs.Laws.{HasSmallId}
use Rattle.iox_wire_locals.specs.Lendings.{new_request}
use Rattle.iox_wire_locals.specs.StateMoments.{moment_at}
use Rattle.iox_wire_locals.specs.Tables.{Setting}

-- all request states name small ids
abbrev pub AreSmallIds : State → Type 0
AreSmallIds s = (y : Way) → HasSmallId (s.request_state y)

-- and so they do after the moment, if there is one
abbrev pub AreSmallAfter : State → Option Moment → Type 0
AreSmallAfter s None = AreSmallIds s
AreSmallAfter s (Some m) = AreSmallIds (moved s m)

-- what the place opens, or gives a hint to, has a small id
abbrev pub NamesSmall : Local → Type 0
NamesSmall (SendOpens d w left full) = d.loan.request < 2 ^ 62
NamesSmall (HintExchanges e w left) = e.request < 2 ^ 62
NamesSmall local = Unit {0}

-- An access whose place names small ids leaves the ids of all request states small.
abbrev pub IdsStaySmall : Type 0
IdsStaySmall =
    (p : Setting) (held : Pools) (s : State) (local : Local) (seen : ℕ)
    → AreSmallIds s → NamesSmall local → AreSmallAfter s (moment_at p held local seen)

-- The id of a new request is small.
abbrev pub NewRequestsAreSmall : Type 0
NewRequestsAreSmall =
    (p : Setting) (x : Seat) (q : Port) (k : ℕ) (payload : List ℕ) (copies : Bool)
    → (new_request p x q k payload copies).request < 2 ^ 62
