-- When the words of a wire and its nodes stand for a run of the machine. This is the invariant of a
-- wire, without what it records for its user: no events, and no list of all replies.
use Rattle.std.specs.Prelude.{◌≡◌, ℕ, ◌+◌, List, None, length, slice_index, true}
use Rattle.iox_model.specs.declared.way.Way.{Way}
use Rattle.iox_model.specs.Joins.{not_living}
use Rattle.iox_model.specs.Maps.{has_number}
use Rattle.iox_model.specs.Peers.{borrow_limit_on, buffer_on, node_of_port}
use Rattle.iox_model.specs.States.{Fixed}
use Rattle.iox_word_map.specs.WordMaps.{IsWay, ReturningQueue, total_words}
use Rattle.iox_wire_words.specs.Fits.{WireContents}
use Rattle.iox_wire_moments.specs.MomentsOf.{Pools}
use Rattle.iox_wire_locals.specs.declared.seat.Seat.{Seat}
use Rattle.iox_wire_locals.specs.Tables.{Setting}
use Rattle.iox_wire_laws.specs.WireKeeping.Shows.{ShowsWorld}
use Rattle.iox_wire_laws.specs.WireRegions.OwnedBegins.{LayoutFits}
use Rattle.iox_wire_laws.specs.WireRegions.Regions.{HasRegion}
use Rattle.iox_wire_laws.specs.WireHolding.Aside.{shown}
use Rattle.iox_wire_laws.specs.WireHolding.FarSlots.{QueuesHaveSlots}
use Rattle.iox_wire_stands.specs.Nodes.{NodeStands}
use Rattle.iox_wire_stands.specs.Runs.{Run, Said, history}

-- a node: its own part of the wire, and what it was asked and answered
pub record Player : Type 0 where
  pub seat : Seat
  pub said : List Said

-- the nodes as they are shown: what a release gave back is put aside
abbrev pub seats_of : Setting → (ℕ → Player) → ℕ → Seat
seats_of p players n = shown p (players n).seat

-- the word at a place
abbrev pub word_of : List ℕ → ℕ → ℕ
word_of words place = slice_index words place

-- the layout tells the node of each port as the machine does
abbrev pub OwnersAre : Setting → Fixed → Type 0
OwnersAre p f = (port : ℕ) → p.layout.owner port ≡ node_of_port f port

-- each port stands under its number
abbrev pub AreNumbered : Setting → Type 0
AreNumbered p =
    (port : ℕ) → has_number port p.layout.sizes.ports ≡ true → (p.port port).number ≡ port

-- Words and nodes stand for a run of the machine: what is so of a wire between any two accesses.
pub record Stands (p : Setting) (words : List ℕ) (players : ℕ → Player) (r : Run) : Type 0 where
  -- which message each slot holds, and what the words hold
  pub held : Pools
  pub contents : WireContents
  -- words and nodes show the world to which the run led
  pub shows : ShowsWorld p held (word_of words) contents (seats_of p players) r.last
  -- all words of the wire are there
  pub length_is : length words ≡ total_words p.layout.sizes
  -- the layout is that of the machine's ports
  pub layout : LayoutFits p r.last.state.fixed
  -- and its nodes are those of the machine
  pub owners : OwnersAre p r.last.state.fixed
  pub numbers : AreNumbered p
  -- each port has a region for its messages
  pub regions : (port : ℕ) → has_number port p.layout.sizes.ports ≡ true → HasRegion p port
  -- each returning queue has room for what is waiting, what is borrowed, and one more
  pub rooms : (y : Way) → IsWay p.layout.sizes y
      → p.layout.capacity (ReturningQueue y)
      ≡ buffer_on r.last.state.fixed y + borrow_limit_on r.last.state.fixed y + 1
  -- queues have slots of their senders' pools
  pub queues : QueuesHaveSlots p contents r.last.state
  -- what is so of each living node
  pub nodes : (n : ℕ) → not_living r.last.state n ≡ None
      → NodeStands p held r.last.state (seats_of p players n)
  -- what each node was asked and answered, dead ones too
  pub histories : (n : ℕ) → history n r.beats ≡ (players n).said
