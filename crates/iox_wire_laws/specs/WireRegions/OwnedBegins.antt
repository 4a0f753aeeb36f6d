-- Calls that access words of messages begin as owners of their first place.
use Rattle.std.specs.Prelude.{◌≡◌, ℕ, ◌^◌, ◌*◌, ◌<◌, ◌≤◌, Bool, true, false, None, List, length, map}
use Rattle.iox_model.specs.declared.kind.Role.{Role}
use Rattle.iox_model.specs.declared.kind.Role.TheVariants.{Client, Server}
use Rattle.iox_model.specs.declared.way.RequestState.{RequestState}
use Rattle.iox_model.specs.declared.way.Way.{Way}
use Rattle.iox_model.specs.Handles.{is_request_loan}
use Rattle.iox_model.specs.Loans.{lending_ways}
use Rattle.iox_model.specs.Maps.{has_number, AreDistinct}
use Rattle.iox_model.specs.Peers.{is_connected_port, lanes_of, node_of_port, ports_of_role}
use Rattle.iox_model.specs.Joins.{not_living}
use Rattle.iox_model.specs.Receives.{server_ways}
use Rattle.iox_model.specs.States.{Fixed, Port}
use Rattle.iox_model.specs.Weaves.{World, Beat, IsBeat}
use Rattle.iox_laws.specs.WeaveWorlds.Worlds.{IsReachable}
use Rattle.iox_wire_words.specs.Fits.{WireContents}
use Rattle.iox_wire_moments.specs.MomentsOf.{Pools}
use Rattle.iox_wire_locals.specs.declared.local.Visit.{Visit}
use Rattle.iox_wire_locals.specs.declared.seat.Seat.{Seat}
use Rattle.iox_wire_locals.specs.declared.table.Entry.{Entry}
use Rattle.iox_wire_locals.specs.declared.table.NewLoan.{NewLoan}
use Rattle.iox_wire_locals.specs.Begins.{reads, ways_for, writing}
use Rattle.iox_wire_locals.specs.Courses.{loaning, sends}
use Rattle.iox_wire_locals.specs.Known.{free_slots, known}
use Rattle.iox_wire_locals.specs.Knowing.{Knows}
use Rattle.iox_wire_locals.specs.NewLoans.{loan_in, loan_words}
use Rattle.iox_wire_locals.specs.ReceiveCourses.{seeking, visiting}
use Rattle.iox_wire_locals.specs.Tables.{Setting, port_shape}
use Rattle.iox_wire_locals.specs.WorkedWires.{ones}
use Rattle.iox_wire_locals.specs.WorkedCalls.{fresh}
use Rattle.iox_wire_laws.specs.WireKeeping.Shows.{ShowsWorld}
use Rattle.iox_wire_laws.specs.WireShows.OwnedCalls.{LimitsAreKnown}
use Rattle.iox_wire_laws.specs.WireRegions.Regions.{HasRegion, words_of_longest}
use Rattle.iox_wire_laws.specs.WireRegions.OwnedWords.{FreeSlotsAreThePools, HasLane, HasSlot, Owns, OwnsCopy}

-- The layout of a wire agrees with the machine's ports on numbers, roles, nodes and lanes.
pub record LayoutFits (p : Setting) (f : Fixed) : Type 0 where
  -- no two ports have one number
  pub numbers : AreDistinct (map (λ q. q.number) f.ports)
  pub clients : p.layout.sizes.clients ≡ ports_of_role f Client
  pub servers : p.layout.sizes.servers ≡ ports_of_role f Server
  pub owner : (port : ℕ) → is_connected_port f port ≡ true
      → p.layout.owner port ≡ node_of_port f port
  pub lanes : (client : ℕ) → has_number client (ports_of_role f Client) ≡ true
      → p.layout.sizes.lanes client ≡ lanes_of f client

-- a connected port of that role, on that node
abbrev pub IsPortOf : Fixed → ℕ → Role → ℕ → Type 0
IsPortOf f node role port =
    (has_number port (ports_of_role f role) ≡ true) × (node_of_port f port ≡ node)

-- A loan's port is one of the node's: a client lends requests on one of its lanes, with a small id,
-- a server lends responses on a lane of the client that it answers.
pub record LendsByOwnPort (f : Fixed) (node : ℕ) (e : Entry) : Type 0 where
  pub own : e.sender ≡ e.port
  pub small : e.request < 2 ^ 62
  pub request : is_request_loan e.kind ≡ true
      → IsPortOf f node Client e.port × (e.lane < lanes_of f e.port)
  pub response : is_request_loan e.kind ≡ false
      → IsPortOf f node Server e.port × (e.lane < lanes_of f e.client)

-- The send of such a loan is owned.
abbrev pub CopiesAreOwned : Type 0
CopiesAreOwned =
    (p : Setting) (f : Fixed) (node : ℕ) (e : Entry) → LayoutFits p f → LendsByOwnPort f node e
    → OwnsCopy p node f e

-- A loan in the making is one of the node's own ports, with a small id: a client lends requests, a
-- server lends responses on a lane of the client that it answers.
pub record LendsFromHome (f : Fixed) (node : ℕ) (o : NewLoan) : Type 0 where
  pub small : o.request < 2 ^ 62
  pub request : is_request_loan o.kind ≡ true → IsPortOf f node Client o.port
  pub response : is_request_loan o.kind ≡ false
      → IsPortOf f node Server o.port × (o.lane < lanes_of f o.client)

-- a free slot of its port leaves it a lane
abbrev pub LeavesLane : Setting → Seat → NewLoan → Type 0
LeavesLane p x o =
    (slot : ℕ) → has_number slot (free_slots x o.port) ≡ true → HasLane p o

-- A loan that has room in a slot of its port's pool, and a lane where one is free, begins as the
-- owner of its first place: it gets back on the port's own ways, or has taken its slot.
abbrev pub LoansBeginAsOwners : Type 0
LoansBeginAsOwners =
    (p : Setting) (x : Seat) (f : Fixed) (held : Pools) (shown : Way → RequestState) (o : NewLoan)
    → LayoutFits p f → Knows p x f held → FreeSlotsAreThePools p x
    → (p.port o.port).node ≡ x.node → LendsFromHome f x.node o → LeavesLane p x o
    → HasRegion p o.port → length (loan_words p o) ≤ words_of_longest p o.port
    → Owns p x.node f shown (loaning x o (lending_ways (known p x) (loan_in p o))).local

-- So does a write of a payload that is no longer than its loan, and a read.
abbrev pub WritesAndReadsBeginAsOwners : Type 0
WritesAndReadsBeginAsOwners =
    (p : Setting) (x : Seat) (f : Fixed) (shown : Way → RequestState) (e : Entry) (words : List ℕ)
    → HasSlot p e
    → (e.sender ≡ e.port → length words ≤ e.elements * (port_shape p e.sender).width
    → Owns p x.node f shown (writing x e words).local)
    × Owns p x.node f shown (reads p x e).local

-- A send of a loan of the node's own ports begins as the owner of its first place.
abbrev pub SendsBeginAsOwners : Type 0
SendsBeginAsOwners =
    (p : Setting) (x : Seat) (f : Fixed) (held : Pools) (shown : Way → RequestState) (e : Entry)
    (copied : Bool)
    → LayoutFits p f → Knows p x f held → LendsByOwnPort f x.node e
    → Owns p x.node f shown (sends p x e copied).local

-- In a shown world a living node's receives, and its looks for a message that waits, begin as
-- owners of their first place: those of a server on lane 0, those of a pending response on its
-- lane.
abbrev pub ReceivesBeginAsOwners : Type 0
ReceivesBeginAsOwners =
    (p : Setting) (held : Pools) (word : ℕ → ℕ) (c : WireContents) (seats : ℕ → Seat) (w : World)
    (n : ℕ) (v : Visit) (waiting : Bool)
    → ShowsWorld p held word c seats w → not_living w.state n ≡ None
    → LayoutFits p w.state.fixed → LimitsAreKnown p (seats n) w.state.fixed
    → let x = seats n in let f = w.state.fixed in let shown = w.state.request_state in
    ((q : Port) → IsPortOf f n Server q.number
    → Owns p x.node f shown (visiting p x v (server_ways (known p x) q) waiting).local
    × Owns p x.node f shown (seeking x (server_ways (known p x) q)).local)
    × ((e : Entry) → IsPortOf f n Client e.port → e.lane < lanes_of f e.port
    → Owns p x.node f shown (visiting p x v (ways_for p x e) waiting).local
    × Owns p x.node f shown (seeking x (ways_for p x e)).local)

-- A layout that fits a wire's ports fits them after any beat.
abbrev pub LayoutsStayFit : Type 0
LayoutsStayFit =
    (p : Setting) (w u : World) (b : Beat) → IsReachable w → IsBeat w b u
    → LayoutFits p w.state.fixed → LayoutFits p u.state.fixed

-- On the worked wire the layout fits.
abbrev pub WorkedLayoutFits : Type 0
WorkedLayoutFits = LayoutFits ones (known ones fresh.client)
