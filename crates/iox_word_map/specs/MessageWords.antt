-- Where the words of a message stand in its slot. A port's region is its slots, one behind another.
-- Alignments are of bytes, and a slot may begin at an odd word: so where an alignment is above 8,
-- the parts of a message stand elsewhere in one slot than in the next.
use Rattle.std.specs.Prelude.{◌≡◌, ℕ, ◌+◌, ◌*◌, ◌/◌, max}
use Rattle.iox_model.specs.Compatibility.{AreAligned}
use Rattle.iox_model.specs.Layouts.{message_size, user_header_place, payload_place}
use Rattle.iox_model.specs.Places.{IsAlignedTo, aligned_place}
use Rattle.iox_model.specs.MessageTypeDetails.{MessageTypeDetails}
use Rattle.iox_word_map.specs.declared.message_part.MessagePart.{MessagePart}
use Rattle.iox_word_map.specs.declared.message_part.MessagePart.TheVariants.{Header, UserHeader, Payload}

-- the byte with which a part begins, if the header begins with that byte
abbrev pub part_byte : MessageTypeDetails → ℕ → MessagePart → ℕ
part_byte details header Header = header
part_byte details header UserHeader = user_header_place details header
part_byte details header Payload = payload_place details header

-- the bytes of a part of a message of n elements
abbrev pub part_bytes : MessageTypeDetails → ℕ → MessagePart → ℕ
part_bytes details n Header = details.header.size
part_bytes details n UserHeader = details.user_header.size
part_bytes details n Payload = n * details.payload.size

-- the words of a part of a message of n elements
abbrev pub part_words : MessageTypeDetails → ℕ → MessagePart → ℕ
part_words details n part = part_bytes details n part / 8

-- the first word of a slot among the words of its region, where each slot has so many words
abbrev pub slot_place : ℕ → ℕ → ℕ
slot_place slot_words slot = slot * slot_words

-- the first word of a part of the message in a slot; a word is 8 bytes
abbrev pub part_place : MessageTypeDetails → ℕ → ℕ → MessagePart → ℕ
part_place details slot_words slot part =
    part_byte details (8 * slot_place slot_words slot) part / 8

-- word k of that part
abbrev pub place_in : MessageTypeDetails → ℕ → ℕ → MessagePart → ℕ → ℕ
place_in details slot_words slot part k = part_place details slot_words slot part + k

-- each part has a power of two for its alignment, and whole words
pub record IsInWords (details : MessageTypeDetails) : Type 0 where
  pub aligned : AreAligned details
  pub header : IsAlignedTo 8 details.header.size
  pub user_header : IsAlignedTo 8 details.user_header.size
  pub payload : IsAlignedTo 8 details.payload.size

-- a slot of so many words is for messages of up to n elements
abbrev pub IsSlotFor : MessageTypeDetails → ℕ → ℕ → Type 0
IsSlotFor details n slot_words = message_size details n ≡ 8 * slot_words

-- ---- the same places counted in words

-- an alignment of bytes as one of words: what is below 8 asks nothing of a whole word
abbrev pub in_words : ℕ → ℕ
in_words alignment = max 1 (alignment / 8)

-- the first word of the user header, if the message begins with that word
abbrev pub user_word : MessageTypeDetails → ℕ → ℕ
user_word details start =
    aligned_place (start + details.header.size / 8) (in_words details.user_header.alignment)

-- and of the payload
abbrev pub payload_word : MessageTypeDetails → ℕ → ℕ
payload_word details start =
    aligned_place (user_word details start + details.user_header.size / 8)
    (in_words details.payload.alignment)

-- and of each part
abbrev pub part_word : MessageTypeDetails → ℕ → MessagePart → ℕ
part_word details start Header = start
part_word details start UserHeader = user_word details start
part_word details start Payload = payload_word details start
