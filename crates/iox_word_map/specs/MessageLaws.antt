-- Each word of a message stands in its slot, and no two words of messages in one place.
use Rattle.std.specs.Prelude.{◌≡◌, ℕ, ◌+◌, ◌*◌, ◌<◌, ◌≤◌}
use Rattle.iox_steps.specs.Accesses.{AreApart}
use Rattle.iox_model.specs.MessageTypeDetails.{MessageTypeDetails}
use Rattle.iox_word_map.specs.declared.message_part.MessagePart.{MessagePart}
use Rattle.iox_word_map.specs.declared.message_part.MessagePart.TheVariants.{Payload}
use Rattle.iox_word_map.specs.MessageWords.{part_byte, part_bytes, part_words, part_place, part_word}
use Rattle.iox_word_map.specs.MessageWords.{slot_place, place_in, IsInWords, IsSlotFor}

-- A part begins with a whole word, and has whole words.
abbrev pub PartsAreInWords : Type 0
PartsAreInWords =
    (details : MessageTypeDetails) (slot_words slot n : ℕ) (part : MessagePart)
    → IsInWords details
    → (part_byte details (8 * slot_place slot_words slot) part
    ≡ 8 * part_place details slot_words slot part)
    × (part_bytes details n part ≡ 8 * part_words details n part)

-- All words of a message that is no longer than the slot is for stand in that slot.
abbrev pub WordsAreInTheirSlot : Type 0
WordsAreInTheirSlot =
    (details : MessageTypeDetails) (longest slot_words slot n : ℕ) (part : MessagePart)
    → IsInWords details → IsSlotFor details longest slot_words → n ≤ longest
    → (slot_place slot_words slot ≤ part_place details slot_words slot part)
    × (part_place details slot_words slot part + part_words details n part
    ≤ slot_place slot_words (slot + 1))

-- Two parts of one message have no word in common.
abbrev pub PartsAreApart : Type 0
PartsAreApart =
    (details : MessageTypeDetails) (slot_words slot n : ℕ) (x y : MessagePart)
    → IsInWords details → (x ≡ y → ⊥)
    → AreApart (part_place details slot_words slot x) (part_words details n x)
    (part_place details slot_words slot y) (part_words details n y)

-- A place tells the slot, the part and the number of the word that stands there.
abbrev pub PlacesTellTheWord : Type 0
PlacesTellTheWord =
    (details : MessageTypeDetails) (longest slot_words : ℕ)
    → IsInWords details → IsSlotFor details longest slot_words
    → (i j : ℕ) (x y : MessagePart) (k l : ℕ)
    → k < part_words details longest x → l < part_words details longest y
    → place_in details slot_words i x k ≡ place_in details slot_words j y l
    → (i ≡ j) × (x ≡ y) × (k ≡ l)

-- Slots and alignments matter: behind 8 words a payload that is aligned to 16 bytes begins with
-- word 8 of slot 0, and in slot 1 of 13 words with word 9 of it.
abbrev pub SlotsMatter : Type 0
SlotsMatter =
    (details : MessageTypeDetails) → details.header.size ≡ 56 → details.user_header.size ≡ 8
    → details.user_header.alignment ≡ 8 → details.payload.alignment ≡ 16
    → (part_place details 13 0 Payload ≡ slot_place 13 0 + 8)
    × (part_place details 13 1 Payload ≡ slot_place 13 1 + 9)

-- Code can count in words all along.
abbrev pub PartsAreComputed : Type 0
PartsAreComputed =
    (details : MessageTypeDetails) (slot_words slot : ℕ) (part : MessagePart) → IsInWords details
    → part_place details slot_words slot part ≡ part_word details (slot_place slot_words slot) part
