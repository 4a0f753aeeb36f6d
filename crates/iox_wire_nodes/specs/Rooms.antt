-- The room that a node has, from its making on: for handles, and for what its calls keep.
use Rattle.std.specs.Prelude.{◌≡◌, ◌+◌, ◌≤◌, ℕ, length}
use Rattle.iox_wire_begins.specs.WirePlan.{WirePlan}
use Rattle.iox_wire_begins.specs.Plans.{most_ways}
use Rattle.iox_wire_begins.specs.Aims.{HasSameRooms}
use Rattle.iox_wire_begins.specs.CopyAims as copies
use Rattle.iox_wire_begins.specs.LoansAims as loans
use Rattle.iox_wire_begins.specs.ListRooms.{HasRoomToAsk, HasRoomToCopy, HasRoomToLend}
use Rattle.iox_wire_nodes.specs.Nodes.{NodeView}

-- the handles that it has, and those for which it has room, are so many together
abbrev pub HasItsRoom : ℕ → NodeView → Type 0
HasItsRoom most n = n.seat.room + length n.seat.seat.table ≡ most

-- There is room for whatever a call keeps on the wire of that plan.
pub record HasRoomToBegin (plan : WirePlan) (n : NodeView) : Type 0 where
  pub asks : HasRoomToAsk plan n.seat
  pub receives : most_ways plan ≤ n.receives.room
  pub lends : HasRoomToLend plan n.lends
  pub requests : most_ways plan ≤ n.requests.room
  pub copies_request : HasRoomToCopy plan n.copies_request.lends
  pub servers : most_ways plan ≤ n.copies_request.sends.room
  pub copies_response : HasRoomToCopy plan n.copies_response.lends

-- Beside the seat there is room for so many ways, and for so many words.
pub record HasRoomOf (ways words : ℕ) (n : NodeView) : Type 0 where
  pub receives : n.receives.room ≡ ways
  pub lends : n.lends.ways_room ≡ ways
  pub lends_words : n.lends.words_room ≡ words
  pub requests : n.requests.room ≡ ways
  pub copies_request : n.copies_request.lends.lending.ways_room ≡ ways
  pub copies_request_words : n.copies_request.lends.lending.words_room ≡ words
  pub copies_request_payload : n.copies_request.lends.payload_room ≡ words
  pub servers : n.copies_request.sends.room ≡ ways
  pub copies_response : n.copies_response.lends.lending.ways_room ≡ ways
  pub copies_response_words : n.copies_response.lends.lending.words_room ≡ words
  pub copies_response_payload : n.copies_response.lends.payload_room ≡ words

-- There is as much room as before for whatever a call keeps.
pub record KeepsRooms (old new : NodeView) : Type 0 where
  pub asks : HasSameRooms old.seat new.seat
  pub receives : new.receives.room ≡ old.receives.room
  pub lends : loans.HasSameRooms old.lends new.lends
  pub requests : new.requests.room ≡ old.requests.room
  pub copies_request : copies.HasSameRooms old.copies_request.lends new.copies_request.lends
  pub servers : new.copies_request.sends.room ≡ old.copies_request.sends.room
  pub copies_response : copies.HasSameRooms old.copies_response.lends new.copies_response.lends

-- With as much room there is room for whatever a call keeps.
abbrev pub RoomSuffices : Type 0
RoomSuffices =
    (plan : WirePlan) (old new : NodeView) → KeepsRooms old new → HasRoomToBegin plan old
    → HasRoomToBegin plan new
