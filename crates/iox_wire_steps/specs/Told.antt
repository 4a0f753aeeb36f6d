-- Ends of calls that are told by what stands at the places before.
use Rattle.std.specs.Prelude.{◌≡◌, ◌<◌, ℕ, Bool, false, List, Option}
use Rattle.iox_model.specs.declared.kind.Role.TheVariants.{Server}
use Rattle.iox_model.specs.declared.way.Way.{Way}
use Rattle.iox_model.specs.Peers.{lanes_of, others}
use Rattle.iox_model.specs.Settings.{is_client}
use Rattle.iox_model.specs.States.{State}
use Rattle.iox_wire_moments.specs.MomentsOf.{Pools}
use Rattle.iox_wire_locals.specs.declared.local.Delivery.{Delivery}
use Rattle.iox_wire_locals.specs.declared.local.Ending.TheVariants.{Sends}
use Rattle.iox_wire_locals.specs.declared.local.Local.TheVariants.{ReceiveAsks, SendEnds}
use Rattle.iox_wire_locals.specs.declared.local.Visit.{Visit}
use Rattle.iox_wire_locals.specs.declared.seat.Seat.{Seat}
use Rattle.iox_wire_locals.specs.Known.{known}
use Rattle.iox_wire_locals.specs.Tables.{Setting}
use Rattle.iox_wire_stands.specs.NodeLaws.{ToldWhatIsSo}
use Rattle.iox_wire_stands.specs.Nodes.{NodeStands}
use Rattle.iox_wire_steps.specs.Over.{EndIsTold}
use Rattle.iox_wire_steps.specs.WholeSteps.{StepIsTold}

-- The end of a send to all servers that its node did not forget is told that no other request is
-- open on its lane.
abbrev pub SentRequestsAreTold : Type 0
SentRequestsAreTold =
    (p : Setting) (held : Pools) (s : State) (x : Seat) (d : Delivery) (last : Option Way)
    (count : ℕ)
    → NodeStands p held s x → x.local ≡ SendEnds d last count
    → d.to ≡ others (known p x) x.node Server → d.loan.lane < lanes_of s.fixed d.loan.port
    → EndIsTold p held s x (Sends d.loan d.copied count)

-- A server's receive that asks for the request state, and is told the request, is told all that it
-- receives.
abbrev pub AskedRequestsAreTold : Type 0
AskedRequestsAreTold =
    (p : Setting) (held : Pools) (s : State) (x : Seat) (seen : ℕ) (payload : List ℕ) (v : Visit)
    (w : Way) (slot : ℕ) (header : List ℕ) (left : List Way) (waiting : Bool)
    → NodeStands p held s x → x.local ≡ ReceiveAsks v w slot header left waiting
    → is_client v.role ≡ false → ToldWhatIsSo p held s x seen → StepIsTold p held s x seen payload
