-- The lanes of clients stay counted, and what follows from that.
use Rattle.std.specs.Prelude.{◌≡◌, ℕ, true, [], Some, None}
use Rattle.iox_model.specs.Commands.{WireCall}
use Rattle.iox_model.specs.Joins.{not_living}
use Rattle.iox_model.specs.Maps.{has_number}
use Rattle.iox_model.specs.Settings.{is_client}
use Rattle.iox_model.specs.States.{State}
use Rattle.iox_model.specs.Weaves.{World}
use Rattle.iox_wire_steps.specs.Fits.{WireContents}
use Rattle.iox_wire_steps.specs.MomentsOf.{Pools}
use Rattle.iox_wire_steps.specs.Ending.{Ending}
use Rattle.iox_wire_steps.specs.Local.TheVariants.{Idle}
use Rattle.iox_wire_steps.specs.Seat.{Seat}
use Rattle.iox_wire_steps.specs.Begins.{begin, misnamed_call}
use Rattle.iox_wire_steps.specs.Known.{free_lanes, free_slots}
use Rattle.iox_wire_steps.specs.Steps.{accessed, advance, closed}
use Rattle.iox_wire_steps.specs.Tables.{Setting}
use Rattle.iox_wire_steps.specs.Shows.{ShowsWorld}
use Rattle.iox_wire_steps.specs.SlotsKnown.{IsPortOfSeat}
use Rattle.iox_wire_steps.specs.Following.{message_at}
use Rattle.iox_wire_steps.specs.Nodes.{NodeStands}
use Rattle.iox_wire_steps.specs.Stands.{AreNumbered}
use Rattle.iox_wire_steps.specs.Over.{CallIsOver}
use Rattle.iox_wire_calls.specs.Lanes.{AllLanesAreCounted, lent_in}
use Rattle.iox_wire_calls.specs.Places.{CallFits, OwnersAreSet}

-- Where the node's call made no loan yet, each of its clients that has a free slot has a free lane.
abbrev pub HasLanesForSlots : Setting → Seat → Type 0
HasLanesForSlots p x =
    lent_in (message_at x.local) ≡ [] → (port slot : ℕ)
    → IsPortOfSeat p x port → is_client (p.port port).role ≡ true
    → has_number slot (free_slots x port) ≡ true → free_lanes x port ≡ [] → ⊥

-- So it is at a standing node of a shown world: each loan and pending response has a slot of its own.
abbrev pub FreeSlotsHaveLanes : Type 0
FreeSlotsHaveLanes =
    (p : Setting) (held : Pools) (word : ℕ → ℕ) (c : WireContents) (seats : ℕ → Seat) (w : World)
    (n : ℕ)
    → ShowsWorld p held word c seats w → not_living w.state n ≡ None
    → NodeStands p held w.state (seats n) → AllLanesAreCounted p (seats n)
    → HasLanesForSlots p (seats n)

-- Lanes stay counted as a call begins.
abbrev pub BeginsKeepLanes : Type 0
BeginsKeepLanes =
    (p : Setting) (held : Pools) (s : State) (x : Seat) (call : WireCall)
    → AreNumbered p → OwnersAreSet p → misnamed_call p x call ≡ None → x.local ≡ Idle
    → CallFits p x → NodeStands p held s x → HasLanesForSlots p x → AllLanesAreCounted p x
    → AllLanesAreCounted p (begin p x call)

-- So they do over each access,
abbrev pub AccessesKeepLanes : Type 0
AccessesKeepLanes =
    (p : Setting) (held : Pools) (s : State) (x : Seat) (seen : ℕ)
    → CallFits p x → NodeStands p held s x → HasLanesForSlots p x → AllLanesAreCounted p x
    → AllLanesAreCounted p (advance p (accessed x) x.local seen)

-- and as the call ends.
abbrev pub EndsKeepLanes : Type 0
EndsKeepLanes =
    (p : Setting) (held : Pools) (s : State) (x : Seat) (ending : Ending)
    → CallFits p x → CallIsOver p held s x ending → AllLanesAreCounted p x
    → AllLanesAreCounted p (closed p x (Some ending))
