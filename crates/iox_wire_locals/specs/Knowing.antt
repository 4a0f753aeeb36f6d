-- A node knows its own part of what the machine has fixed, so each course of its call is the
-- machine's.
use Rattle.std.specs.Prelude.{◌≡◌, ℕ, Bool, true, if◌then◌else◌, List, ◌∷◌, map, Some, None}
use Rattle.iox_model.specs.declared.way.Way.{Way}
use Rattle.iox_model.specs.declared.way.RequestState.{RequestState}
use Rattle.iox_model.specs.Doings.{Doing, Ended, Loans}
use Rattle.iox_model.specs.Looks as looks
use Rattle.iox_model.specs.Peers.{node_of_port}
use Rattle.iox_model.specs.Receives as receives
use Rattle.iox_model.specs.Releases as releases
use Rattle.iox_model.specs.Requests as requests
use Rattle.iox_model.specs.Responses as responses
use Rattle.iox_model.specs.States.{Fixed}
use Rattle.iox_wire_moments.specs.MomentsOf.{Pools}
use Rattle.iox_wire_locals.specs.declared.table.Entry.{Entry}
use Rattle.iox_wire_locals.specs.declared.table.NewLoan.{NewLoan}
use Rattle.iox_wire_locals.specs.declared.local.Delivery.{Delivery}
use Rattle.iox_wire_locals.specs.declared.local.Visit.{Visit}
use Rattle.iox_wire_locals.specs.declared.seat.Seat.{Seat}
use Rattle.iox_wire_locals.specs.Tables.{Setting, handle_of}
use Rattle.iox_wire_locals.specs.NewLoans.{loan_in, entry_in, request_in}
use Rattle.iox_wire_locals.specs.Doings.{receiver_in, send_of, doing_of}
use Rattle.iox_wire_locals.specs.Courses.{opening, looking, emptying, sends, asked, lent}
use Rattle.iox_wire_locals.specs.ReceiveCourses.{visiting, took, judged, seeking, closing, given_back, releasing, checking, hinting}

-- What a node knows is so: its ports and limits are the machine's, no handler is set, its handles
-- and the nodes that it forgot are its own tables, and a port's slots hold messages of that port.
pub record Knows (p : Setting) (x : Seat) (f : Fixed) (held : Pools) : Type 0 where
  pub limits : f.limits ≡ p.limits
  pub ports : f.ports ≡ map p.port p.layout.sizes.ports
  pub unhandled : (port : ℕ) → (p.port port).handler ≡ None
  pub handles : f.handles x.node ≡ map (handle_of held x.node) x.table
  pub forgot : f.forgot x.node ≡ x.forgot
  pub sent : (port slot : ℕ) → (held port slot).sender ≡ port

-- the node's place stands for this to do
abbrev pub StandsFor : Setting → Fixed → Pools → ℕ → Seat → Doing → Type 0
StandsFor p f held node y d = doing_of p f held node y.local ≡ Some d

-- ---- sends

-- Once a part of a send is done, the node's next place stands for what the machine does next.
abbrev pub SendsGoOn : Type 0
SendsGoOn =
    (p : Setting) (x : Seat) (f : Fixed) (held : Pools) (d : Delivery) (left : List Way)
    → Knows p x f held
    → StandsFor p f held x.node (emptying p x d left)
    (requests.emptying (send_of f held x.node d) left)
    × ((full : List Way) → StandsFor p f held x.node (looking p x d left full)
    (requests.looking (send_of f held x.node d) left full))
    × ((full : List Way) → StandsFor p f held x.node (opening p x d left full)
    (requests.opening (send_of f held x.node d) left full))
    × ((shown : RequestState) → StandsFor p f held x.node (asked p x d shown)
    (responses.asked (send_of f held x.node d) shown))

-- A send of a port of the node begins as in the machine.
abbrev pub SendsBegin : Type 0
SendsBegin =
    (p : Setting) (x : Seat) (f : Fixed) (held : Pools) (e : Entry) (copied : Bool)
    → Knows p x f held
    → node_of_port f e.port ≡ x.node
    → StandsFor p f held x.node (sends p x e copied)
    (responses.sends f (handle_of held x.node e) copied)

-- A loan whose words are stored is made, or sent, as the machine did when it had its slot.
abbrev pub LoansGoOn : Type 0
LoansGoOn =
    (p : Setting) (x : Seat) (f : Fixed) (held : Pools) (o : NewLoan) (slot : ℕ) → Knows p x f held
    → node_of_port f o.port ≡ x.node → handle_of held x.node (entry_in o slot) ≡ loan_in p o
    → StandsFor p f held x.node (lent p x o slot)
    (if o.copies then responses.sends f (loan_in p o) true else Ended (Loans (loan_in p o)))

-- ---- receives

-- A receive visits its ways as the machine does, and judges what it took by the header that it
-- loaded.
abbrev pub ReceivesGoOn : Type 0
ReceivesGoOn =
    (p : Setting) (x : Seat) (f : Fixed) (held : Pools) (v : Visit) (w : Way)
    (left : List Way) (waiting : Bool)
    → Knows p x f held
    → StandsFor p f held x.node (visiting p x v left waiting)
    (receives.visiting (receiver_in v) left waiting)
    × ((slot : ℕ) (header : List ℕ) → request_in v header ≡ (held w.sender slot).request
    → StandsFor p f held x.node (took p x v w slot header left waiting)
    (receives.took f x.node (receiver_in v) w (held w.sender slot) (w ∷ left) waiting)
    × ((shown : RequestState)
    → StandsFor p f held x.node (judged x v w slot header left waiting shown)
    (receives.judged (receiver_in v) w (held w.sender slot) (w ∷ left) waiting shown)))

-- ---- releases, questions and hints

-- A release begins and continues as in the machine.
abbrev pub ReleasesGoOn : Type 0
ReleasesGoOn =
    (p : Setting) (x : Seat) (f : Fixed) (held : Pools) (e : Entry) (left : List Way)
    → Knows p x f held
    → StandsFor p f held x.node (releasing p x e)
    (releases.releases_handle f (handle_of held x.node e))
    × StandsFor p f held x.node (closing x e left) (releases.closing (handle_of held x.node e) left)
    × StandsFor p f held x.node (given_back x e) (releases.given_back (handle_of held x.node e))

-- So do questions and hints.
abbrev pub LooksGoOn : Type 0
LooksGoOn =
    (p : Setting) (x : Seat) (f : Fixed) (held : Pools) (e : Entry) (hinted : Bool)
    (left : List Way)
    → StandsFor p f held x.node (checking x e hinted left)
    (looks.checking (handle_of held x.node e) hinted left)
    × StandsFor p f held x.node (hinting x e left) (looks.hinting (handle_of held x.node e) left)
    × StandsFor p f held x.node (seeking x left) (receives.seeking left)
