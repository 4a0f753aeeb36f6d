-- There is room for what is listed, and for the words of a slot.
use Rattle.std.proofs.Common.{◌≡◌, ℕ, ◌≤◌, List, length, ap, subst, sym, arith}
use Rattle.iox_wire_handle_calls.specs.WirePlan.{WirePlan}
use Rattle.iox_wire_handle_calls.specs.Plans.{number_at}
use Rattle.iox_wire_handle_calls.specs.PlacedHandles.{HasRoomForSlots}
use Rattle.iox_wire_handle_calls.specs.PlannedSlots.{planned_slots}
use Rattle.iox_wire_handle_calls.specs.SlotPlaces.{SlotPlaces}

at_most : (n k most room : ℕ) → n ≡ k → k ≤ most → most ≤ room → n ≤ room
at_most n k most room is few fits = omega (arith, is, few, fits)

-- what is given is what was listed
pub list_fits : {A : Type 0} (given listed : List A) (most room : ℕ) → given ≡ listed → length listed ≤ most → most ≤ room → length given ≤ room
list_fits given listed most room is few fits = at_most (length given) (length listed) most room (ap length is) few fits

pub slots_fit : (plan : WirePlan) (port : ℕ) (t : SlotPlaces) (room : ℕ) → t ≡ planned_slots plan port → HasRoomForSlots plan room → t.slot_words ≤ room
slots_fit plan port t room is fits = subst (λ (u : SlotPlaces). u.slot_words ≤ room) (sym is) (fits (number_at plan port))
