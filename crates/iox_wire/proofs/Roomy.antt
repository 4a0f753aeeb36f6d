-- The nodes of a wire have room for what calls keep, from its opening on.
use Rattle.std.specs.List.{find, fold}
use Rattle.std.specs.Prelude.{max}
use Rattle.std.specs.Option.{option_map_or}
use Rattle.std.specs.Prelude.{nat_lt}
use Rattle.std.proofs.Common.{◌≡◌, ℕ, ◌+◌, ◌<◌, ◌≤◌, ◌==◌, ◌^◌, Bool, true, false, if◌then◌else◌, List, [], ◌∷◌, length, Some, None, ap, sym, subst, ◌∙◌, arith, inl, inr}
use Rattle.std.proofs.lemmas.Bool.{cases_Bool}
use Rattle.std.proofs.lemmas.Option.{none-some, same_Some}
use Rattle.iox_wire_weaves.specs.Entry.{Entry}
use Rattle.iox_wire_weaves.specs.HandleBounds.{handle_room, most_of_node}
use Rattle.iox_wire_weaves.specs.Laws.{Replaces}
use Rattle.iox_wire_weaves.specs.Nodes.{NodeView}
use Rattle.iox_wire_weaves.specs.PlacedHandles.{HasRoomForSlots}
use Rattle.iox_wire_weaves.specs.PlanPort.{PlanPort}
use Rattle.iox_wire_weaves.specs.Plans.{most_ways}
use Rattle.iox_wire_weaves.specs.Replies.{most_words}
use Rattle.iox_wire_weaves.specs.Rooms.{HasRoomOf, HasRoomToBegin, KeepsRooms}
use Rattle.iox_wire_weaves.specs.Seat.{Seat}
use Rattle.iox_wire_weaves.specs.WirePlan.{WirePlan}
use Rattle.iox_wire_weaves.specs.Wires.{WireNode}
use Rattle.iox_wire_weaves.proofs.NodesKnown.{table_alike}
use Rattle.iox_wire_weaves.proofs.RoomsKept.{room_suffices}
use Rattle.iox_wire.specs.Kept.{AreRoomy, IsOpenedNode, IsRoomy}
use Rattle.iox_wire.proofs.Keeping.{each_still}

-- ---- as a node changes

-- its room is neither made nor lost
pub roomy_still : (plan : WirePlan) (xs : List WireNode) (n : ℕ) (d y : WireNode) (new : List WireNode) → Replaces xs n d y new → AreRoomy plan xs
    → KeepsRooms d.node y.node → y.number ≡ d.number
    → y.node.seat.room + length y.node.seat.seat.table ≡ d.node.seat.room + length d.node.seat.seat.table → AreRoomy plan new
roomy_still plan xs n d y new puts roomy keeps number same =
    let before = roomy n d puts.before in
    each_still (λ x. IsRoomy plan x.number x.node) xs n d y new puts roomy (record {
      calls = room_suffices plan d.node y.node keeps before.calls;
      handles = same ∙ before.handles ∙ ap (handle_room plan) (sym number);
    })

-- where it has no more handles than its ports may have, there is room for one more
pub room_left : (plan : WirePlan) (number : ℕ) (x : NodeView) → IsRoomy plan number x → length x.seat.seat.table ≤ most_of_node plan number → 0 < x.seat.room
room_left plan number x roomy few = let has = roomy.handles in omega (arith, has, few)

-- a node that opens has no handle
pub roomy_first : (plan : WirePlan) (n : ℕ) (x : WireNode) → IsOpenedNode plan n x → IsRoomy plan x.number x.node
roomy_first plan n x opened = record {
  calls = opened.rooms;
  handles = ap (λ (es : List Entry). x.node.seat.room + length es) none ∙ nothing x.node.seat.room ∙ opened.room ∙ ap (handle_room plan) (sym opened.number_is);
}
  where
    none : x.node.seat.seat.table ≡ []
    none = sym (table_alike x.node x.node.at) ∙ ap (λ (s : Seat). s.table) opened.seat

    nothing : (k : ℕ) → k + 0 ≡ k
    nothing k = omega arith

-- ---- as a wire opens

-- a number that is told as one that fits is that one
pub fits_is : (n k : ℕ) → Some k ≡ (if nat_lt n (2 ^ 64) then Some n else None) → k ≡ n
fits_is n k = step (nat_lt n (2 ^ 64))
  where
    step : (b : Bool) → Some k ≡ (if b then Some n else None) → k ≡ n
    step true e = same_Some k n e
    step false e = absurd (none-some k (sym e))

abbrev more : ℕ → PlanPort → ℕ
more most port = max most port.slot_words

left_max : (a b : ℕ) → a ≤ max a b
left_max a b = omega arith

right_max : (a b : ℕ) → b ≤ max a b
right_max a b = omega arith

fold_ge : (ps : List PlanPort) (a k : ℕ) → k ≤ a → k ≤ fold more a ps
fold_ge [] a k low = low
fold_ge (p ∷ ps) a k low = fold_ge ps (more a p) k (let up = left_max a p.slot_words in omega (arith, low, up))

found_ge : (ps : List PlanPort) (a n : ℕ) → option_map_or (λ (p : PlanPort). p.slot_words) (find (λ p. p.number == n) ps) 0 ≤ fold more a ps
found_ge [] a n = omega arith
found_ge (p ∷ ps) a n = elim (cases_Bool (p.number == n)) [
  | inl here ↦ rw here (fold_ge ps (more a p) p.slot_words (right_max a p.slot_words))
  | inr apart ↦ rw apart (found_ge ps (more a p) n)
]

pub slots_fit : (plan : WirePlan) (room : ℕ) → room ≡ most_words plan → HasRoomForSlots plan room
slots_fit plan room is port = subst (λ k. option_map_or (λ (p : PlanPort). p.slot_words) (find (λ p. p.number == port) plan.ports.items) 0 ≤ k) (sym is) (found_ge plan.ports.items 0 port)

at_most : (most ways room : ℕ) → ways ≡ most → room ≡ ways → most ≤ room
at_most most ways room is same = omega (arith, is, same)

-- a node that is made with so much room has room for what calls keep
pub roomy_node : (plan : WirePlan) (ways words : ℕ) (n : NodeView) → ways ≡ most_ways plan → words ≡ most_words plan → n.seat.ways_room ≡ ways → n.seat.words_room ≡ words
    → HasRoomOf ways words n → HasRoomToBegin plan n
roomy_node plan ways words n ways_are words_are seat_ways seat_words has = record {
  asks = record { ways = fits n.seat.ways_room seat_ways; words = slots n.seat.words_room seat_words };
  receives = fits n.receives.room has.receives;
  lends = record { ways = fits n.lends.ways_room has.lends; words = slots n.lends.words_room has.lends_words };
  requests = fits n.requests.room has.requests;
  copies_request = record {
    lending = record { ways = fits n.copies_request.lends.lending.ways_room has.copies_request; words = slots n.copies_request.lends.lending.words_room has.copies_request_words };
    payload = slots n.copies_request.lends.payload_room has.copies_request_payload;
  };
  servers = fits n.copies_request.sends.room has.servers;
  copies_response = record {
    lending = record { ways = fits n.copies_response.lends.lending.ways_room has.copies_response; words = slots n.copies_response.lends.lending.words_room has.copies_response_words };
    payload = slots n.copies_response.lends.payload_room has.copies_response_payload;
  };
}
  where
    fits : (room : ℕ) → room ≡ ways → most_ways plan ≤ room
    fits room same = at_most (most_ways plan) ways room ways_are same

    slots : (room : ℕ) → room ≡ words → HasRoomForSlots plan room
    slots room same = slots_fit plan room (same ∙ words_are)
