-- What a wire keeps to, and what a node's access does.
use Rattle.std.specs.Prelude.{◌+◌, ◌<◌, ◌≤◌, ◌^◌, ◌≡◌, ◌==◌, ℕ, false, List, [], ◌∷◌, Option, None, Some, IfSome, is_some, length, position, true}
use Rattle.iox_steps.specs.declared.access.Access.{Access}
use Rattle.iox_steps.specs.Accesses.{IsWithin, seen_at}
use Rattle.iox_wire_weaves.specs.Programs.{program_access}
use Rattle.iox_wire_weaves.specs.Locals.{program_of}
use Rattle.iox_wire_weaves.specs.Tables.{Setting}
use Rattle.iox_wire_weaves.specs.CallAt.TheVariants.{Seats}
use Rattle.iox_wire_weaves.specs.NodeReply.{NodeReply}
use Rattle.iox_wire_weaves.specs.Aims.{IsAimed, KnowsItsPlace, MayAdd, MayGoOn}
use Rattle.iox_wire_weaves.specs.Nodes.{NodeView, answered_at, seat_in}
use Rattle.iox_wire_openings.specs.OpenedNodes.{planned_seat}
use Rattle.iox_wire.specs.Replies.{FinishedCalls}
use Rattle.iox_wire_weaves.specs.ReadWords.{TellsNoWords}
use Rattle.iox_wire_weaves.specs.Replies.{most_words}
use Rattle.iox_wire_weaves.specs.HandleBounds.{handle_room}
use Rattle.iox_wire_weaves.specs.Rooms.{HasItsRoom, HasRoomToBegin}
use Rattle.iox_wire_weaves.specs.Runs.{Run}
use Rattle.iox_wire_weaves.specs.WirePlan.{WirePlan}
use Rattle.iox_wire_weaves.specs.WirePlans.{IsWirePlan}
use Rattle.iox_wire_weaves.specs.Begins.{is_busy}
use Rattle.iox_wire_weaves.specs.Copying.{CopyGoesOn}
use Rattle.iox_wire_weaves.specs.Counts.{IsTidy}
use Rattle.iox_wire_weaves.specs.Uses.{HaveFewWays}
use Rattle.iox_wire_weaves.specs.Steps.{IsWireCallAt, most_accesses}
use Rattle.iox_wire_weaves.specs.declared.refusal.WireRefusal.TheVariants.{NodeIsDead}
use Rattle.iox_wire_weaves.specs.Laws.{WentOn}
use Rattle.iox_wire_weaves.specs.Wires.{IsSameSetting, Shows, WireData, WireNode, living_refusal, node_at}

-- ---- a wire

-- What a node keeps to.
pub record IsKept (x : NodeView) : Type 0 where
  -- it made no more accesses than it may
  pub few : (seat_in x).accesses ≤ most_accesses
  -- it has one desk for a port, and one count for a way
  pub tidy : IsTidy (seat_in x)
  -- its ports send on fewer ways than a word counts
  pub ways : HaveFewWays (seat_in x).desks
  -- a message that its call made and sends continues
  pub copies : CopyGoesOn (seat_in x).local
  -- a read that is over without an access has no words to tell
  pub reads : TellsNoWords (seat_in x).local
  -- there is room for what its call adds at its end
  pub ready : is_busy (seat_in x).local ≡ true → MayAdd x.at x

-- so does each node
abbrev pub AreKept : List WireNode → Type 0
AreKept nodes = (n : ℕ) (x : WireNode) → node_at n nodes ≡ Some x → IsKept x.node

-- A node is busy where it has a call under way, and is where that call is kept.
pub record IsAtItsCall (x : WireNode) : Type 0 where
  pub busy : is_busy (seat_in x.node).local ≡ is_some x.call
  pub there : IfSome x.call (λ u. IsWireCallAt u.call x.node.at)

-- so many of the first nodes stand at the places of their numbers
abbrev pub StandInOrder : ℕ → List WireNode → Type 0
StandInOrder count nodes = (n : ℕ) → n < count → position (λ x. x.number == n) nodes ≡ Some n

-- On the wire of that plan the node of that number has room for whatever a call keeps, and for more
-- handles than its ports may have.
pub record IsRoomy (plan : WirePlan) (number : ℕ) (x : NodeView) : Type 0 where
  pub calls : HasRoomToBegin plan x
  pub handles : HasItsRoom (handle_room plan number) x

-- so has each node
abbrev pub AreRoomy : WirePlan → List WireNode → Type 0
AreRoomy plan nodes =
    (n : ℕ) (x : WireNode) → node_at n nodes ≡ Some x → IsRoomy plan x.number x.node

-- A wire shows a run of the machine, calls may begin with its plan and its terms, its handles have
-- numbers, and its nodes have room for what calls keep.
pub record IsShown (wire : WireData) : Type 0 where
  pub shows : (p : Setting) × (r : Run) × Shows p wire r
  pub whole : IsWirePlan wire.plan wire.terms
  pub numbers : wire.terms.first_number + most_accesses < 2 ^ 64
  pub kept : AreKept wire.nodes
  pub own : (n : ℕ) (x : WireNode) → node_at n wire.nodes ≡ Some x → IsAtItsCall x
  pub rooms : AreRoomy wire.plan wire.nodes

-- There is room for what so many more steps record: an event each, and a finished call, which brings and
-- reads no more words than the longest message has.
pub record HasRoomToRecord (plan : WirePlan) (room : ℕ) (told : FinishedCalls) (noted capacity : ℕ)
    : Type 0 where
  pub replies : room ≤ told.room
  pub longest : told.longest ≡ most_words plan
  pub events : noted + room ≤ capacity

-- The wire lost the node: it is dead after the events so far, and all else stays, of the node too.
pub record Loses (old : WireData) (n : ℕ) (new : WireData) : Type 0 where
  pub setting : IsSameSetting old new
  pub dead : living_refusal new.nodes n ≡ Some NodeIsDead
  pub node : (x : WireNode) → node_at n old.nodes ≡ Some x
      → node_at n new.nodes ≡ Some (record x { alive = false; died = Some (length old.events) })
  pub others : (m : ℕ) → (m == n) ≡ false → node_at m new.nodes ≡ node_at m old.nodes
  pub words : new.words ≡ old.words
  pub replies : new.replies ≡ old.replies
  pub events : new.events ≡ old.events

-- ---- an opening

-- a living node of that number that has what the plan tells, and room for its handles and for what calls
-- keep
pub record IsOpenedNode (plan : WirePlan) (number : ℕ) (x : WireNode) : Type 0 where
  pub number_is : x.number ≡ number
  pub lives : x.alive ≡ true
  pub seat : seat_in x.node ≡ planned_seat plan number
  pub seated : x.node.at ≡ Seats
  pub room : x.node.seat.room ≡ handle_room plan number
  pub rests : x.call ≡ None
  pub undead : x.died ≡ None
  pub longest : x.longest ≡ most_words plan
  pub unread : x.read ≡ []
  pub rooms : HasRoomToBegin plan x.node

-- such are the nodes of these numbers
abbrev pub AreOpened : WirePlan → List ℕ → List WireNode → Type 0
AreOpened plan [] [] = Unit {0}
AreOpened plan (n ∷ ns) (x ∷ xs) = IsOpenedNode plan n x × AreOpened plan ns xs
AreOpened plan ns xs = ⊥

-- each node has room for more handles than its ports may have
abbrev pub NodesHaveRoom : WirePlan → List WireNode → Type 0
NodesHaveRoom plan nodes =
    (n : ℕ) (x : WireNode) → node_at n nodes ≡ Some x → x.node.seat.room ≡ handle_room plan n

-- ---- an access

-- the access that a node makes next
abbrev pub access_in : Setting → NodeView → Access
access_in p x = program_access p.layout (program_of p (seat_in x).local)

-- The node may make its access: it knows where, that is among the words, and it may go on with what
-- it finds there, its place being one of its own loan if it sends.
pub record MayAccess (p : Setting) (x : NodeView) (words : List ℕ) : Type 0 where
  pub aimed : IsAimed p x
  pub within : IsWithin 0 (length words) (access_in p x)
  pub goes_on : KnowsItsPlace x.at x → MayGoOn x.at x (seen_at (access_in p x) words)

-- It went on with what its access found: its call, and no other, answers this if it is over, and there
-- is room for what it adds if not.
pub record HasGoneOn (p : Setting) (x : NodeView) (words : List ℕ) (reply : Option NodeReply) (y : NodeView)
    : Type 0 where
  pub went : WentOn p x (seen_at (access_in p x) words) reply y
  pub own : IfSome reply (λ r. answered_at r ≡ x.at)
  pub ready : reply ≡ None → MayAdd x.at x → MayAdd y.at y

-- its access found this in words where it may make it
abbrev pub FoundThere : Setting → NodeView → ℕ → Type 0
FoundThere p x seen =
    (words : List ℕ) × MayAccess p x words × (seen ≡ seen_at (access_in p x) words)
