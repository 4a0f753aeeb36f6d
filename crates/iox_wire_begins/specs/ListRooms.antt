-- The room that there is for what a begin lists, and for the words of a message.
use Rattle.std.specs.Prelude.{◌≤◌, vec_capacity}
use Rattle.iox_wire_handle_calls.specs.Copies.{CopyLoan}
use Rattle.iox_wire_handle_calls.specs.Loans.{Loaned}
use Rattle.iox_wire_handle_calls.specs.PlacedHandles.{HasRoomForSlots}
use Rattle.iox_wire_handle_calls.specs.Seats.{Placed}
use Rattle.iox_wire_handle_calls.specs.WirePlan.{WirePlan}
use Rattle.iox_wire_handle_calls.specs.Plans.{most_ways}
use Rattle.iox_wire_begins.specs.declared.lists.Lists.{Lists}

-- Each has room for as many ways as a call visits at most.
pub record ListsHaveRoom (plan : WirePlan) (l : Lists) : Type 0 where
  pub sources : most_ways plan ≤ vec_capacity l.sources
  pub stops : most_ways plan ≤ vec_capacity l.stops
  pub targets : most_ways plan ≤ vec_capacity l.targets

-- A seat has room for as many ways as a call visits at most, and for as many words as a slot has.
pub record HasRoomToAsk (plan : WirePlan) (x : Placed) : Type 0 where
  pub ways : most_ways plan ≤ x.ways_room
  pub words : HasRoomForSlots plan x.words_room

-- A loan has room for as many ways, and for as many words.
pub record HasRoomToLend (plan : WirePlan) (r : Loaned) : Type 0 where
  pub ways : most_ways plan ≤ r.ways_room
  pub words : HasRoomForSlots plan r.words_room

-- A copy has room for a loan, and for as many words of its payload.
pub record HasRoomToCopy (plan : WirePlan) (r : CopyLoan) : Type 0 where
  pub lending : HasRoomToLend plan r.lending
  pub payload : HasRoomForSlots plan r.payload_room
