-- What the end of a call is told, but for the header of a request that it received: that follows
-- from what is so of each place, and from the lanes of clients.
use Rattle.std.specs.Prelude.{◌≡◌, ℕ, true, false, Some, map}
use Rattle.iox_model.specs.declared.kind.Kind.TheVariants.{PendingResponse}
use Rattle.iox_model.specs.Handles.{same_kind}
use Rattle.iox_model.specs.Peers.{port_at}
use Rattle.iox_model.specs.Settings.{is_client}
use Rattle.iox_model.specs.States.{Port, State}
use Rattle.iox_wire_steps.specs.MomentsOf.{Pools}
use Rattle.iox_wire_steps.specs.Ending.{Ending}
use Rattle.iox_wire_steps.specs.Ending.TheVariants as endings
use Rattle.iox_wire_steps.specs.Local.TheVariants.{Idle}
use Rattle.iox_wire_steps.specs.Seat.{Seat}
use Rattle.iox_wire_steps.specs.Entry.{Entry}
use Rattle.iox_wire_steps.specs.Known.{known}
use Rattle.iox_wire_steps.specs.NewLoans.{lane_in, request_in}
use Rattle.iox_wire_steps.specs.Tables.{Setting}
use Rattle.iox_wire_steps.specs.Readiness.{LanesFit}
use Rattle.iox_wire_steps.specs.OwnedCalls.{AsksOn}
use Rattle.iox_wire_steps.specs.SentStates.{HasOpened, OpensElsewhere}
use Rattle.iox_wire_steps.specs.SlotsKnown.{HasEntry}
use Rattle.iox_wire_steps.specs.Nodes.{NodeStands}
use Rattle.iox_wire_steps.specs.Stands.{AreNumbered}
use Rattle.iox_wire_steps.specs.Over.{CallIsOver, EndIsTold}
use Rattle.iox_wire_calls.specs.Lanes.{AllLanesAreCounted}
use Rattle.iox_wire_calls.specs.Places.{CallFits}

-- the header of a request that a call received tells what it is
abbrev pub HeaderIsTold : Setting → Pools → Ending → Type 0
HeaderIsTold p held (endings.Receives v w slot header) =
    is_client v.role ≡ false
    → (lane_in v w header ≡ (held w.sender slot).lane)
    × (request_in v header ≡ (held w.sender slot).request) × AsksOn p v w header
HeaderIsTold p held ending = Unit {0}

-- Only that header is to be told: what was written is a filled loan, a response answers the
-- request, and a request that was sent is on a lane of its client, with states that name no other.
abbrev pub EndsAreTold : Type 0
EndsAreTold =
    (p : Setting) (held : Pools) (s : State) (x : Seat) (ending : Ending)
    → AreNumbered p → s.fixed.ports ≡ map p.port p.layout.sizes.ports
    → CallIsOver p held s x ending → HasOpened s.request_state x.local → CallFits p x → AllLanesAreCounted p x
    → HeaderIsTold p held ending → EndIsTold p held s x ending

-- A send opens no state on the lane of another pending response.
abbrev pub SendsOpenElsewhere : Type 0
SendsOpenElsewhere =
    (p : Setting) (held : Pools) (s : State) (x : Seat) (e : Entry)
    → NodeStands p held s x → CallFits p x → AllLanesAreCounted p x
    → HasEntry x e → same_kind e.kind PendingResponse ≡ true → OpensElsewhere x.local e

-- At rest the free lanes of a client are those of no handle.
abbrev pub LanesFitAtRest : Type 0
LanesFitAtRest =
    (p : Setting) (x : Seat) (n : ℕ) (q : Port)
    → AreNumbered p → AllLanesAreCounted p x → x.local ≡ Idle
    → port_at (known p x) n ≡ Some q → p.layout.owner q.number ≡ x.node
    → is_client q.role ≡ true → LanesFit p x q
