-- What is left of ports that are gone, and of a service that is closed.
use Rattle.std.specs.Prelude.{◌≡◌, ℕ, false, [], Some, IsTrue}
use Rattle.iox_model.specs.declared.way.RequestState.TheVariants.{Closed}
use Rattle.iox_model.specs.declared.way.Way.{Way}
use Rattle.iox_model.specs.Maps.{is_empty}
use Rattle.iox_model.specs.Peers.{port_at, is_connected_port}
use Rattle.iox_model.specs.Runs.{is_member, IsReachableState, IsServed}
use Rattle.iox_model.specs.States.{Port, State}

-- On a way whose receiver is gone nothing waits, and no request is named.
abbrev pub NothingIsForTheGone : Type 0
NothingIsForTheGone =
    (s : State) (w : Way) → IsReachableState s → is_connected_port s.fixed w.receiver ≡ false
    → (s.waiting w ≡ []) × (s.request_state w ≡ Closed)

-- On a way whose sender is gone nothing is given back, and nothing is outstanding. Messages may
-- still wait.
abbrev pub NothingIsOwedToTheGone : Type 0
NothingIsOwedToTheGone =
    (s : State) (w : Way) → IsReachableState s → is_connected_port s.fixed w.sender ≡ false
    → (s.returned w ≡ []) × ((k : ℕ) → s.delivered w k ≡ false)

-- Between calls no sender has a message in hand that it evicted.
abbrev pub NothingIsInHand : Type 0
NothingIsInHand = (s : State) (w : Way) → IsReachableState s → s.in_hand w ≡ []

-- ---- a service that its own nodes use

-- There is no node, no port and no handle, and nothing on any way.
pub record IsBare (s : State) : Type 0 where
  pub nodes : s.members.nodes ≡ []
  pub ports : s.fixed.ports ≡ []
  pub handles : (n : ℕ) → s.fixed.handles n ≡ []
  pub waiting : (w : Way) → s.waiting w ≡ []
  pub returned : (w : Way) → s.returned w ≡ []
  pub in_hand : (w : Way) → s.in_hand w ≡ []
  pub delivered : (w : Way) (k : ℕ) → s.delivered w k ≡ false
  pub request_state : (w : Way) → s.request_state w ≡ Closed

-- A service is closed exactly if it has no node.
abbrev pub ClosedWithTheLastNode : Type 0
ClosedWithTheLastNode = (s : State) → IsServed s → s.members.closed ≡ is_empty s.members.nodes

-- A closed service has nothing left.
abbrev pub ClosedServicesAreBare : Type 0
ClosedServicesAreBare = (s : State) → IsServed s → IsTrue s.members.closed → IsBare s

-- Each connected port belongs to a node that did not leave.
abbrev pub PortsAreOfNodes : Type 0
PortsAreOfNodes =
    (s : State) (n : ℕ) (p : Port) → IsServed s → port_at s.fixed n ≡ Some p
    → IsTrue (is_member s p.node)
