-- Where the parts of a message stand: intervals of bytes, each at the least aligned place.
use Rattle.std.specs.Prelude.{ℕ, ◌+◌, ◌-◌, ◌*◌, ◌^◌, ◌<◌, ◌≤◌, nat_lt, Option, Some, None, if◌then◌else◌}
use Rattle.iox_types.specs.Compatibility.{AreCompatible, AreAligned}
use Rattle.iox_types.specs.declared.message_type_details.MessageTypeDetails.{MessageTypeDetails}
use Rattle.iox_types.specs.Details.{Detail}
use Rattle.iox_types.specs.Parts.{Part, bytes_of_parts, size_of_parts}
use Rattle.iox_types.specs.Places.{IsAlignedTo, aligned_place}
use Rattle.iox_types.specs.declared.layout.SampleLayout.{SampleLayout}

-- a type as a part of a message
abbrev pub part_of : Detail → Part
part_of it = record { size = it.size; alignment = it.alignment }

-- the bytes that a message of n elements takes at most, wherever its header stands
abbrev pub message_bytes : MessageTypeDetails → ℕ → ℕ
message_bytes details n =
    bytes_of_parts (part_of details.header) (part_of details.user_header) (part_of details.payload) n

-- a number of bytes that fits `usize`
abbrev pub as_usize : ℕ → Option ℕ
as_usize bytes = if nat_lt bytes (2 ^ 64) then Some bytes else None

-- the size of a message of n elements: these bytes, rounded up to the header's alignment
abbrev pub message_size : MessageTypeDetails → ℕ → ℕ
message_size details n =
    size_of_parts (part_of details.header) (part_of details.user_header) (part_of details.payload) n

-- size and alignment of a message, if the size is at most `isize::MAX`
abbrev pub message_layout : MessageTypeDetails → ℕ → Option SampleLayout
message_layout details n =
    if nat_lt (message_size details n) (2 ^ 63)
    then Some (record { size = message_size details n; alignment = details.header.alignment })
    else None

-- where the user header stands, if the header stands at `place`
abbrev pub user_header_place : MessageTypeDetails → ℕ → ℕ
user_header_place details place = aligned_place (place + details.header.size) details.user_header.alignment

-- where the payload stands then
abbrev pub payload_place : MessageTypeDetails → ℕ → ℕ
payload_place details place =
    aligned_place (user_header_place details place + details.user_header.size) details.payload.alignment

-- a message whose header stands at `place` ends at a place that fits `usize`, even without elements
abbrev pub EndsWithinUsize : MessageTypeDetails → ℕ → Type 0
EndsWithinUsize details place = place + message_bytes details 0 < 2 ^ 64

-- The parts of a message, as `mine` describes them, stand where `service` lays them out from
-- `start` on. Each is aligned, begins behind the one before, and ends within `size` bytes.
pub record StandsAt (service mine : MessageTypeDetails) (n size start : ℕ) : Type 0 where
  pub header_aligned : IsAlignedTo mine.header.alignment start
  pub user_header_behind : start + mine.header.size ≤ user_header_place service start
  pub user_header_aligned : IsAlignedTo mine.user_header.alignment (user_header_place service start)
  pub payload_behind : user_header_place service start + mine.user_header.size ≤ payload_place service start
  pub payload_aligned : IsAlignedTo mine.payload.alignment (payload_place service start)
  pub within : payload_place service start + n * mine.payload.size ≤ start + size

-- Message i begins at i times the size. There its parts stand, for the service itself and for every
-- opener with compatible details.
abbrev pub LaysOut : MessageTypeDetails → ℕ → ℕ → Type 0
LaysOut service n size =
    (mine : MessageTypeDetails) → AreAligned mine → AreCompatible mine service → (i : ℕ) →
    StandsAt service mine n size (i * size)
