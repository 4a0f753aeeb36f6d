-- Which lanes of a port are in use, and that its desk has all others as free ones.
use Rattle.std.specs.Prelude.{◌≡◌, ◌+◌, ◌==◌, ◌&&◌, ◌||◌, ◌++◌, ℕ, Bool, true, if◌then◌else◌, List, [], ◌∷◌, filter, map, nat_lt}
use Rattle.iox_model.specs.declared.kind.Kind.{Kind}
use Rattle.iox_model.specs.declared.kind.Kind.TheVariants.{PendingResponse}
use Rattle.iox_model.specs.Handles.{is_request_loan, same_kind}
use Rattle.iox_model.specs.Settings.{is_client}
use Rattle.iox_wire_steps.specs.Seat.{Seat}
use Rattle.iox_wire_steps.specs.Entry.{Entry}
use Rattle.iox_wire_steps.specs.Known.{free_lanes}
use Rattle.iox_wire_steps.specs.NewLoans.{entry_in}
use Rattle.iox_wire_steps.specs.Tables.{Setting}
use Rattle.iox_wire_steps.specs.SlotsKnown.{IsPortOfSeat}
use Rattle.iox_wire_steps.specs.Uses.{how_often}
use Rattle.iox_wire_steps.specs.Following.{CallMessage, Lent, Sent, message_at}

-- ---- lanes in use

-- whether a handle of the kind has a lane of its port
abbrev pub has_own_lane : Kind → Bool
has_own_lane kind = is_request_loan kind || same_kind kind PendingResponse

-- the loan that a call made, as the entry that it will be
abbrev pub lent_in : CallMessage → List Entry
lent_in (Lent o slot) = entry_in o slot ∷ []
lent_in (Sent e true) = e ∷ []
lent_in other = []

-- the lanes of a port that these entries have
abbrev pub lanes_in : ℕ → List Entry → List ℕ
lanes_in port entries =
    map (λ e. e.lane) (filter (λ e. has_own_lane e.kind && (e.port == port)) entries)

-- those that are in use: by the loan that the node's call made, and by its handles
abbrev pub lanes_used : Seat → ℕ → List ℕ
lanes_used x port = lanes_in port (lent_in (message_at x.local) ++ x.table)

-- ---- what is so of them

-- how many lanes a port has: a client as many as its pool has slots, a server none
abbrev pub lane_count : Setting → ℕ → ℕ
lane_count p port = if is_client (p.port port).role then (p.port port).pool else 0

-- Each lane of the port is free or in use, once, and no other is.
abbrev pub LanesAreCounted : Setting → Seat → ℕ → Type 0
LanesAreCounted p x port =
    (lane : ℕ)
    → how_often lane (free_lanes x port) + how_often lane (lanes_used x port)
    ≡ (if nat_lt lane (lane_count p port) then 1 else 0)

-- So it is at each port of the node.
abbrev pub AllLanesAreCounted : Setting → Seat → Type 0
AllLanesAreCounted p x =
    (port : ℕ) → IsPortOfSeat p x port → LanesAreCounted p x port
