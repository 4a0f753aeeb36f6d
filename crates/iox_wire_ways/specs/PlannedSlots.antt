-- Where the messages of a port stand, as a plan tells it.
use Rattle.std.specs.Prelude.{◌≡◌, ◌+◌, ◌-◌, ◌*◌, ◌/◌, ℕ}
use Rattle.std.specs.Option.{option_map_or}
use Rattle.iox_model.specs.declared.kind.Role.{Role}
use Rattle.iox_word_map.specs.MessageWords.{in_words}
use Rattle.iox_word_map.specs.WordMaps.{Region, piece_place}
use Rattle.iox_wire_messages.specs.WirePlan.{WirePlan}
use Rattle.iox_wire_messages.specs.Plans.{details_of, number_at, port_of, role_of, sizes_of, slot_words_of}
use Rattle.iox_wire_messages.specs.Stored.{header_length}
use Rattle.iox_wire_copies.specs.declared.payload_places.PayloadPlaces.{PayloadPlaces}
use Rattle.iox_wire_copies.specs.SlotPlaces.{SlotPlaces}
use Rattle.iox_wire_ways.specs.Visits.{pool_of}

-- the role of the port at an index
abbrev pub role_there : WirePlan → ℕ → Role
role_there plan i = role_of plan (number_at plan i)

-- the header of what that port sends has its words
abbrev pub HasHeader : WirePlan → ℕ → Type 0
HasHeader plan i =
    (details_of plan (role_there plan i)).header.size ≡ 8 * header_length (role_there plan i)

-- the most elements of a message of a port
abbrev pub longest_of : WirePlan → ℕ → ℕ
longest_of plan n = option_map_or (λ q. q.longest) (port_of plan n) 0

-- how many words an element has of what the port at an index sends
abbrev pub element_words : WirePlan → ℕ → ℕ
element_words plan i = (details_of plan (role_there plan i)).payload.size / 8

-- how many words a slot has in front of its payload at most, wherever that begins
abbrev pub words_in_front : WirePlan → ℕ → ℕ
words_in_front plan i =
    header_length (role_there plan i)
    + (in_words (details_of plan (role_there plan i)).user_header.alignment - 1)
    + (details_of plan (role_there plan i)).user_header.size / 8
    + (in_words (details_of plan (role_there plan i)).payload.alignment - 1)

-- the slots of the port at an index
abbrev pub planned_slots : WirePlan → ℕ → SlotPlaces
planned_slots plan i = record {
  region = piece_place (sizes_of plan) (Region (number_at plan i));
  slots = pool_of plan (number_at plan i);
  slot_words = slot_words_of plan (number_at plan i);
  header = header_length (role_there plan i);
  user = (details_of plan (role_there plan i)).user_header.size / 8;
  step = in_words (details_of plan (role_there plan i)).user_header.alignment;
}

-- the payloads there: what is left of a slot behind both headers, wherever the payload begins
abbrev pub planned_payloads : WirePlan → ℕ → PayloadPlaces
planned_payloads plan i = record {
  step = in_words (details_of plan (role_there plan i)).payload.alignment;
  room = slot_words_of plan (number_at plan i) - words_in_front plan i;
}
