-- A node keeps the room that it has as a call begins.
use Rattle.std.proofs.Common.{◌≡◌, ℕ, ◌≤◌, refl, ap, sym, subst, ◌∙◌, arith}
use Rattle.iox_wire_begins.specs.WirePlan.{WirePlan}
use Rattle.iox_wire_begins.specs.Plans.{most_ways, slot_words_of}
use Rattle.iox_wire_begins.specs.Aims.{HasSameRooms}
use Rattle.iox_wire_begins.specs.CopyAims as copies
use Rattle.iox_wire_begins.specs.CopyCalls.{CopyCall}
use Rattle.iox_wire_begins.specs.Dispatches.{Dispatch}
use Rattle.iox_wire_begins.specs.ListRooms.{HasRoomToAsk, HasRoomToCopy, HasRoomToLend}
use Rattle.iox_wire_begins.specs.Loans.{Loaned}
use Rattle.iox_wire_begins.specs.LoansAims as loans
use Rattle.iox_wire_begins.specs.PlacedHandles.{HasRoomForSlots}
use Rattle.iox_wire_begins.specs.Receipts.{Receipt}
use Rattle.iox_wire_begins.specs.RequestDispatches.{RequestDispatch}
use Rattle.iox_wire_begins.specs.ResponseCopies.{ResponseCopy}
use Rattle.iox_wire_begins.specs.Seats.{Placed}
use Rattle.iox_wire_nodes.specs.declared.call_at.CallAt.{CallAt}
use Rattle.iox_wire_nodes.specs.declared.call_at.CallAt.TheVariants as at
use Rattle.iox_wire_nodes.specs.Nodes.{NodeView}
use Rattle.iox_wire_nodes.specs.Rooms.{HasRoomToBegin, KeepsRooms, RoomSuffices}

-- ---- as much room

same_seat : (x : Placed) → HasSameRooms x x
same_seat x = record { ways = refl; words = refl }

same_loan : (r : Loaned) → loans.HasSameRooms r r
same_loan r = record { ways = refl; words = refl }

same_copy : (y : CopyCall) → copies.HasSameRooms y.lends y.lends
same_copy y = record { lending = same_loan y.lends.lending; payload = refl }

same_response : (y : ResponseCopy) → copies.HasSameRooms y.lends y.lends
same_response y = record { lending = same_loan y.lends.lending; payload = refl }

-- the node, as its own code has it
module _ {n old : NodeView} (same : n ≡ old) where
  all : (m : NodeView) → KeepsRooms n m → KeepsRooms old m
  all m keeps = subst (λ (o : NodeView). KeepsRooms o m) same keeps

  pub keeps_seat : (s : Placed) → HasSameRooms n.seat s → KeepsRooms old (record n { at = at.Seats; seat = s })
  keeps_seat s seat = all _ (record {
    asks = seat;
    receives = refl;
    lends = same_loan n.lends;
    requests = refl;
    copies_request = same_copy n.copies_request;
    servers = refl;
    copies_response = same_response n.copies_response;
  })

  pub keeps_receives : (y : Receipt) → y.room ≡ n.receives.room → KeepsRooms old (record n { at = at.Receives; receives = y })
  keeps_receives y room = all _ (record {
    asks = same_seat n.seat;
    receives = room;
    lends = same_loan n.lends;
    requests = refl;
    copies_request = same_copy n.copies_request;
    servers = refl;
    copies_response = same_response n.copies_response;
  })

  pub keeps_lends : (s : Placed) (y : Loaned) → HasSameRooms n.seat s → loans.HasSameRooms n.lends y
      → KeepsRooms old (record n { at = at.Lends; seat = s; lends = y })
  keeps_lends s y seat rooms = all _ (record {
    asks = seat;
    receives = refl;
    lends = rooms;
    requests = refl;
    copies_request = same_copy n.copies_request;
    servers = refl;
    copies_response = same_response n.copies_response;
  })

  pub keeps_requests : (y : RequestDispatch) → y.room ≡ n.requests.room → KeepsRooms old (record n { at = at.SendsRequest; requests = y })
  keeps_requests y room = all _ (record {
    asks = same_seat n.seat;
    receives = refl;
    lends = same_loan n.lends;
    requests = room;
    copies_request = same_copy n.copies_request;
    servers = refl;
    copies_response = same_response n.copies_response;
  })

  pub keeps_responds : (y : Dispatch) → KeepsRooms old (record n { at = at.SendsResponse; responds = y })
  keeps_responds y = all _ (record {
    asks = same_seat n.seat;
    receives = refl;
    lends = same_loan n.lends;
    requests = refl;
    copies_request = same_copy n.copies_request;
    servers = refl;
    copies_response = same_response n.copies_response;
  })

  pub keeps_copies : (s : Placed) (y : CopyCall) → HasSameRooms n.seat s → copies.HasSameRooms n.copies_request.lends y.lends
      → y.sends.room ≡ n.copies_request.sends.room → KeepsRooms old (record n { at = at.CopiesRequest; seat = s; copies_request = y })
  keeps_copies s y seat rooms room = all _ (record {
    asks = seat;
    receives = refl;
    lends = same_loan n.lends;
    requests = refl;
    copies_request = rooms;
    servers = room;
    copies_response = same_response n.copies_response;
  })

  pub keeps_response_copies : (s : Placed) (y : ResponseCopy) → HasSameRooms n.seat s → copies.HasSameRooms n.copies_response.lends y.lends
      → KeepsRooms old (record n { at = at.CopiesResponse; seat = s; copies_response = y })
  keeps_response_copies s y seat rooms = all _ (record {
    asks = seat;
    receives = refl;
    lends = same_loan n.lends;
    requests = refl;
    copies_request = same_copy n.copies_request;
    servers = refl;
    copies_response = rooms;
  })

-- ---- enough room

enough : (most before after : ℕ) → after ≡ before → most ≤ before → most ≤ after
enough most before after same fits = omega (arith, same, fits)

for_slots : (plan : WirePlan) (before after : ℕ) → after ≡ before → HasRoomForSlots plan before → HasRoomForSlots plan after
for_slots plan before after same fits port = enough (slot_words_of plan port) before after same (fits port)

lends_still : (plan : WirePlan) (r s : Loaned) → loans.HasSameRooms r s → HasRoomToLend plan r → HasRoomToLend plan s
lends_still plan r s same has = record {
  ways = enough (most_ways plan) r.ways_room s.ways_room same.ways has.ways;
  words = for_slots plan r.words_room s.words_room same.words has.words;
}

copies_still : (plan : WirePlan) (y z : CopyCall) → copies.HasSameRooms y.lends z.lends → HasRoomToCopy plan y.lends → HasRoomToCopy plan z.lends
copies_still plan y z same has = record {
  lending = lends_still plan y.lends.lending z.lends.lending same.lending has.lending;
  payload = for_slots plan y.lends.payload_room z.lends.payload_room same.payload has.payload;
}

response_still : (plan : WirePlan) (y z : ResponseCopy) → copies.HasSameRooms y.lends z.lends → HasRoomToCopy plan y.lends → HasRoomToCopy plan z.lends
response_still plan y z same has = record {
  lending = lends_still plan y.lends.lending z.lends.lending same.lending has.lending;
  payload = for_slots plan y.lends.payload_room z.lends.payload_room same.payload has.payload;
}

pub room_suffices : RoomSuffices
room_suffices plan old new keeps has = record {
  asks = record {
    ways = enough (most_ways plan) old.seat.ways_room new.seat.ways_room keeps.asks.ways has.asks.ways;
    words = for_slots plan old.seat.words_room new.seat.words_room keeps.asks.words has.asks.words;
  };
  receives = enough (most_ways plan) old.receives.room new.receives.room keeps.receives has.receives;
  lends = lends_still plan old.lends new.lends keeps.lends has.lends;
  requests = enough (most_ways plan) old.requests.room new.requests.room keeps.requests has.requests;
  copies_request = copies_still plan old.copies_request new.copies_request keeps.copies_request has.copies_request;
  servers = enough (most_ways plan) old.copies_request.sends.room new.copies_request.sends.room keeps.servers has.servers;
  copies_response = response_still plan old.copies_response new.copies_response keeps.copies_response has.copies_response;
}
