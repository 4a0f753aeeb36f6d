-- Where the payloads of a port stand.
use Rattle.std.specs.Prelude.{◌+◌, ◌-◌, ◌<◌, ◌≤◌, ℕ}
use Rattle.iox_types.specs.Places.{aligned_place}
use Rattle.iox_wire_request_sends.specs.SlotPlaces.{SlotPlaces}
use Rattle.iox_wire_request_sends.specs.Lenders.{user_in}
use Rattle.iox_wire_copies.specs.declared.payload_places.PayloadPlaces.{PayloadPlaces}

-- how far behind the first slot the payload of a slot begins
abbrev pub payload_in : SlotPlaces → PayloadPlaces → ℕ → ℕ
payload_in t q slot = aligned_place (user_in t slot + t.user) q.step

-- where it stands
abbrev pub payload_at : SlotPlaces → PayloadPlaces → ℕ → ℕ
payload_at t q slot = t.region + payload_in t q slot

-- Each slot has room for both headers and for so many words, wherever the payload begins.
pub record SlotsHold (t : SlotPlaces) (q : PayloadPlaces) : Type 0 where
  pub step : 0 < q.step
  pub room : t.header + (t.step - 1) + t.user + (q.step - 1) + q.room ≤ t.slot_words
