-- What a node may rely on as it begins a call: of the plan and the terms of its wire, and of its
-- handles.
use Rattle.std.specs.Prelude.{◌≡◌, ◌*◌, ◌<◌, ◌^◌, ℕ, true, false, List, length}
use Rattle.iox_model.specs.Handles.{is_received, is_request_loan, is_response_loan}
use Rattle.iox_model.specs.Maps.{has_number}
use Rattle.iox_model.specs.Names.{is_port}
use Rattle.iox_model.specs.declared.kind.Role.{Role}
use Rattle.iox_word_map.specs.WordMaps.{IsResponseWay, total_words}
use Rattle.iox_wire_handle_calls.specs.WirePlan.{WirePlan}
use Rattle.iox_wire_handle_calls.specs.Plans.{IsSlotAt, details_of, sizes_of}
use Rattle.iox_wire_handle_calls.specs.Desk.{Desk}
use Rattle.iox_wire_handle_calls.specs.Entry.{Entry}
use Rattle.iox_wire_handle_calls.specs.Stored.{header_length}
use Rattle.iox_wire_handle_calls.specs.Tables.{state_in}
use Rattle.iox_wire_handle_calls.specs.SeatsAims.{HasRoomForHint}
use Rattle.iox_wire_lenders.specs.declared.terms.WireTerms.{WireTerms}
use Rattle.iox_wire_lenders.specs.Terms.{FitsPlan}
use Rattle.iox_wire_handle_calls.specs.OwnStates.{HasStates}
use Rattle.iox_wire_handle_calls.specs.PlacedHandles.{IsReadable, IsWritableAs}
use Rattle.iox_wire_handle_calls.specs.Released.{MayRelease}

-- The terms fit the plan, headers have their words, each port has a slot, and a number counts the
-- words of the wire twice.
pub record IsWirePlan (plan : WirePlan) (t : WireTerms) : Type 0 where
  pub terms : FitsPlan plan t
  pub headers : (role : Role) → (details_of plan role).header.size ≡ 8 * header_length role
  pub slots : (i : ℕ) → i < length plan.ports.items → IsSlotAt plan i 0
  pub memory : 2 * total_words (sizes_of plan) < 2 ^ 64

-- a client of the wire has that lane
pub record IsLaneOf (plan : WirePlan) (client lane : ℕ) : Type 0 where
  pub is_client : has_number client (sizes_of plan).clients ≡ true
  pub is_lane : lane < (sizes_of plan).lanes client

-- A node's handle is what it may be on the wire: its ports, its lane and its slot are there, and it
-- may be released. The id of a request leaves room for a hint. What was not received is its port's
-- own. A loaned request has a lane of its client, and a loaned response goes on a way of responses.
-- It is no port.
pub record HandleStands (plan : WirePlan) (desks : List Desk) (e : Entry) : Type 0 where
  pub handle : is_port e.kind ≡ false
  pub released : MayRelease plan e desks
  pub states : HasStates plan e
  pub hint : HasRoomForHint e
  pub readable : IsReadable plan e
  pub writable : (role : Role) → IsWritableAs plan role e
  pub own : is_received e.kind ≡ false → e.sender ≡ e.port
  pub request : is_request_loan e.kind ≡ true → IsLaneOf plan e.port e.lane
  pub response : is_response_loan e.kind ≡ true → IsResponseWay (sizes_of plan) (state_in e)
