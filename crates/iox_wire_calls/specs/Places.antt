-- What is so of the place of a node's call, and of its table, only by the node's own data.
use Rattle.std.specs.Prelude.{◌≡◌, ◌||◌, ℕ, Bool, true, false, ◌∷◌}
use Rattle.iox_model.specs.declared.kind.Kind.{Kind}
use Rattle.iox_model.specs.declared.kind.Kind.TheVariants.{ActiveRequest, PendingResponse, RequestMut, Response, ResponseMut}
use Rattle.iox_model.specs.declared.kind.Role.{Role}
use Rattle.iox_model.specs.declared.kind.Role.TheVariants.{Client, Server}
use Rattle.iox_model.specs.declared.way.Way.{Way}
use Rattle.iox_model.specs.Handles.{is_request_loan, is_response_loan, same_kind}
use Rattle.iox_model.specs.Loans.{kind_of_loan}
use Rattle.iox_model.specs.Maps.{has_number}
use Rattle.iox_model.specs.Peers.{forgot_port, others}
use Rattle.iox_model.specs.Settings.{is_client, other_role}
use Rattle.iox_steps.specs.declared.push.Push.TheVariants as push
use Rattle.iox_steps.specs.declared.side.Popping.{Popping}
use Rattle.iox_steps.specs.declared.side.Popping.TheVariants as popping
use Rattle.iox_steps.specs.declared.side.Pushing.{Pushing}
use Rattle.iox_steps.specs.declared.side.Pushing.TheVariants as pushing
use Rattle.iox_wire_steps.specs.Delivery.{Delivery}
use Rattle.iox_wire_steps.specs.Ending.{Ending}
use Rattle.iox_wire_steps.specs.Ending.TheVariants as endings
use Rattle.iox_wire_steps.specs.Local.{Local}
use Rattle.iox_wire_steps.specs.Local.TheVariants.{Ends, LendEmpties, LendStores, ReceiveAsks, ReceiveLoads, ReceiveLooks, ReceivePops, ReceiveReturns, ReleaseReturns, Seeks, SendAsks, SendEmpties, SendEnds, SendEvicts, SendGetsBack, SendLooks, SendOpens, SendPushes, Writes}
use Rattle.iox_wire_steps.specs.Visit.{Visit}
use Rattle.iox_wire_steps.specs.Seat.{Seat}
use Rattle.iox_wire_steps.specs.Entry.{Entry}
use Rattle.iox_wire_steps.specs.NewLoan.{NewLoan}
use Rattle.iox_wire_steps.specs.Known.{free_lanes, known, loans_at}
use Rattle.iox_wire_steps.specs.Lendings.{first_lane}
use Rattle.iox_wire_steps.specs.NewLoans.{request_in}
use Rattle.iox_wire_steps.specs.Tables.{Setting, way_in}
use Rattle.iox_wire_steps.specs.OwnedCalls.{Each}
use Rattle.iox_wire_steps.specs.SlotsKnown.{HasEntry, IsPortOfSeat}

-- ---- the node's part in a queue

-- it pops
abbrev pub IsPop : Popping → Type 0
IsPop (popping.Pops place) = Unit {0}
IsPop part = ⊥

-- it looks whether the queue is empty
abbrev pub IsEmptyLook : Popping → Type 0
IsEmptyLook (popping.Looks place) = Unit {0}
IsEmptyLook part = ⊥

-- it looks whether the queue is full
abbrev pub IsFullLook : Pushing → Type 0
IsFullLook (pushing.Looks place) = Unit {0}
IsFullLook part = ⊥

-- it pushes the oldest out
abbrev pub IsEvicting : Pushing → Type 0
IsEvicting (pushing.Pushes (push.Evicts read)) = Unit {0}
IsEvicting part = ⊥

-- it learns which that was
abbrev pub IsLearning : Pushing → Type 0
IsLearning (pushing.Pushes (push.TakesOld cell)) = Unit {0}
IsLearning part = ⊥

-- ---- handles

-- the kinds of handles that a port of the role has on a wire, where no loan is unfilled
abbrev pub is_kind_of : Role → Kind → Bool
is_kind_of Client kind =
    same_kind kind RequestMut || (same_kind kind PendingResponse || same_kind kind Response)
is_kind_of Server kind = same_kind kind ResponseMut || same_kind kind ActiveRequest

-- the port is one of the node's, and may have a handle of the kind
abbrev pub SuitsPort : Setting → Seat → (port : ℕ) → Kind → Type 0
SuitsPort p x port kind = IsPortOfSeat p x port × (is_kind_of (p.port port).role kind ≡ true)

-- the kind is that of a loan
abbrev pub IsOfLoan : Kind → Type 0
IsOfLoan kind = (is_request_loan kind || is_response_loan kind) ≡ true

-- ---- calls

-- a loan in the making is one that a port of the node lends, with the port's next serial
abbrev pub IsNext : Setting → Seat → NewLoan → Type 0
IsNext p x o =
    IsPortOfSeat p x o.port × (o.kind ≡ kind_of_loan (p.port o.port).role false)
    × (o.serial ≡ loans_at x o.port)

-- a request is to be lent on the first free lane of its client
abbrev pub TakesFirst : Setting → Seat → NewLoan → Type 0
TakesFirst p x o =
    is_client (p.port o.port).role ≡ true
    → o.lane ≡ first_lane (p.port o.port).pool (free_lanes x o.port)

-- what is sent is a loan of the node's port, a request to all servers that the node did not forget
abbrev pub SendFits : Setting → Seat → Delivery → Type 0
SendFits p x d =
    IsOfLoan d.loan.kind × SuitsPort p x d.loan.port d.loan.kind
    × (is_request_loan d.loan.kind ≡ true → d.to ≡ others (known p x) x.node Server)

-- a state that a send opens is on its lane
abbrev pub Opens : Delivery → Way → Type 0
Opens d y = (y.receiver ≡ d.loan.port) × (y.lane ≡ d.loan.lane)

-- the node's port receives, as its role says
abbrev pub VisitFits : Setting → Seat → Visit → Type 0
VisitFits p x v = IsPortOfSeat p x v.port × ((p.port v.port).role ≡ v.role)

-- it does so on ways from ports of the other role; a server that asks for request states
-- visits none of a client that its node forgot
abbrev pub VisitsWay : Setting → Seat → Visit → Way → Type 0
VisitsWay p x v y =
    VisitFits p x v × ((p.port y.sender).role ≡ other_role v.role)
    × (is_client v.role ≡ false → p.limits.fire_and_forget ≡ false
    → forgot_port (known p x) x.node y.sender ≡ false)

-- ---- places

-- Where a call is over but for its end: a loan is a next one, what was written or sent is a loan,
-- what was sent at once is no request, and a response that is received answers its request.
abbrev pub EndingFits : Setting → Seat → Ending → Type 0
EndingFits p x (endings.Lends o slot) = IsNext p x o
EndingFits p x (endings.Fills e words) = IsOfLoan e.kind
EndingFits p x (endings.Sends e copied count) = IsOfLoan e.kind × (is_request_loan e.kind ≡ false)
EndingFits p x (endings.FailsToSend e copied r) = IsOfLoan e.kind
EndingFits p x (endings.Receives v w slot header) =
    VisitFits p x v × (is_client v.role ≡ true → request_in v header ≡ v.request)
EndingFits p x ending = Unit {0}

-- So it is at each place: what is lent, written, sent or visited is such, only a response asks for
-- its request state, and nothing is given back to a forgotten sender. The node's part in the queue
-- of the place is in the program that the place says.
abbrev pub PlaceFits : Setting → Seat → Local → Type 0
PlaceFits p x (Ends ending) = EndingFits p x ending
PlaceFits p x (LendEmpties o w place left) = IsPop place × IsNext p x o × TakesFirst p x o
PlaceFits p x (LendStores o slot next) = IsNext p x o
PlaceFits p x (Writes e words next) = IsOfLoan e.kind
PlaceFits p x (SendAsks d) = SendFits p x d × (is_request_loan d.loan.kind ≡ false)
PlaceFits p x (SendEmpties d w place left) = IsPop place × SendFits p x d
PlaceFits p x (SendLooks d w place left full) = IsFullLook place × SendFits p x d
PlaceFits p x (SendOpens d w left full) = Each (Opens d) (w ∷ left) × SendFits p x d
PlaceFits p x (SendPushes d last w place left count) = SendFits p x d
PlaceFits p x (SendEvicts d w place left count) = IsEvicting place × SendFits p x d
PlaceFits p x (SendGetsBack d w place left count) = IsLearning place × SendFits p x d
PlaceFits p x (SendEnds d last count) = SendFits p x d
PlaceFits p x (ReceiveLooks v w place left waiting) =
    IsEmptyLook place × Each (VisitsWay p x v) (w ∷ left)
PlaceFits p x (ReceivePops v w more place left waiting) =
    IsPop place × Each (VisitsWay p x v) (w ∷ left)
PlaceFits p x (ReceiveLoads v w slot header left waiting) = Each (VisitsWay p x v) (w ∷ left)
PlaceFits p x (ReceiveAsks v w slot header left waiting) =
    (is_client v.role ≡ false) × (p.limits.fire_and_forget ≡ false) × Each (VisitsWay p x v) (w ∷ left)
PlaceFits p x (ReceiveReturns v w slot place left waiting) =
    (forgot_port (known p x) x.node w.sender ≡ false) × Each (VisitsWay p x v) (w ∷ left)
PlaceFits p x (ReleaseReturns e place) = forgot_port (known p x) x.node (way_in e).sender ≡ false
PlaceFits p x (Seeks w place left) = IsEmptyLook place
PlaceFits p x local = Unit {0}

-- What is so of a node's call and of its table: each handle is of a port of the node.
pub record CallFits (p : Setting) (x : Seat) : Type 0 where
  pub handles : (e : Entry) → HasEntry x e → SuitsPort p x e.port e.kind
  pub place : PlaceFits p x x.local

-- the layout tells the node of each port as the setting does
abbrev pub OwnersAreSet : Setting → Type 0
OwnersAreSet p =
    (port : ℕ) → has_number port p.layout.sizes.ports ≡ true
    → p.layout.owner port ≡ (p.port port).node

-- and has as many lanes of a client as its pool has slots
abbrev pub LanesAreSet : Setting → Type 0
LanesAreSet p =
    (port : ℕ) → has_number port p.layout.sizes.ports ≡ true → is_client (p.port port).role ≡ true
    → p.layout.sizes.lanes port ≡ (p.port port).pool
