-- The parts of a message stand in its slot, in order, each from a whole word on.
use Rattle.std.proofs.Common.{◌≡◌, ℕ, ◌+◌, ◌-◌, ◌*◌, ◌/◌, ◌<◌, ◌≤◌, ◌⊎◌, refl, ap, sym, subst, ◌∙◌, inl, inr, arith}
use Rattle.std.proofs.Math.Nat.{add-mul, mul_assoc}
use Rattle.std.proofs.lemmas.Nat.{mul-le, same_from_place}
use Rattle.iox_steps.specs.Accesses.{AreApart}
use Rattle.iox_model.specs.Compatibility.{AreCompatible}
use Rattle.iox_model.specs.Layouts.{StandsAt, message_size, user_header_place, payload_place}
use Rattle.iox_model.specs.Places.{IsAlignedTo, aligned_place}
use Rattle.iox_model.specs.MessageTypeDetails.{MessageTypeDetails}
use Rattle.iox_model.proofs.LayoutLemmas.{IsPowerOfTwo-positive, aligned_place-ge, LaysOut-message}
use Rattle.iox_word_map.specs.declared.message_part.MessagePart.{MessagePart}
use Rattle.iox_word_map.specs.declared.message_part.MessagePart.TheVariants.{Header, UserHeader, Payload}
use Rattle.iox_word_map.specs.MessageWords.{part_byte, part_bytes, part_words, slot_place, part_place, place_in, user_word, payload_word, part_word, IsInWords, IsSlotFor}
use Rattle.iox_word_map.specs.MessageLaws.{PartsAreComputed, PartsAreInWords, WordsAreInTheirSlot, PartsAreApart, PlacesTellTheWord, SlotsMatter}
use Rattle.iox_word_map.proofs.AlignedWords.{aligned-words, whole_of}

-- ---- in words

module _ (details : MessageTypeDetails) (w : IsInWords details) (s : ℕ) where
  user_at : user_header_place details (8 * s) ≡ 8 * user_word details s
  user_at =
      let size : details.header.size ≡ 8 * (details.header.size / 8) = whole_of details.header.size w.header in
      let sum : 8 * s + details.header.size ≡ 8 * (s + details.header.size / 8) = omega arith in
      ap (λ k. aligned_place k details.user_header.alignment) sum
      ∙ aligned-words (s + details.header.size / 8) details.user_header.alignment w.aligned.user_header

  payload_at : payload_place details (8 * s) ≡ 8 * payload_word details s
  payload_at =
      let size : details.user_header.size ≡ 8 * (details.user_header.size / 8) = whole_of details.user_header.size w.user_header in
      let at = user_at in
      let sum : user_header_place details (8 * s) + details.user_header.size ≡ 8 * (user_word details s + details.user_header.size / 8) = omega arith in
      ap (λ k. aligned_place k details.payload.alignment) sum
      ∙ aligned-words (user_word details s + details.user_header.size / 8) details.payload.alignment w.aligned.payload

  pub byte_at : (part : MessagePart) → part_byte details (8 * s) part ≡ 8 * part_word details s part
  byte_at Header = refl
  byte_at UserHeader = user_at
  byte_at Payload = payload_at

  -- the words of a part are counted by themselves
  pub word_at : (part : MessagePart) → part_byte details (8 * s) part / 8 ≡ part_word details s part
  word_at part = (let e : part_byte details (8 * s) part ≡ 8 * part_word details s part = byte_at part in omega arith)

  in_place : (part : MessagePart) → part_byte details (8 * s) part ≡ 8 * (part_byte details (8 * s) part / 8)
  in_place part = (let e : part_byte details (8 * s) part ≡ 8 * part_word details s part = byte_at part in omega arith)

  user_behind : 8 * s + details.header.size ≤ user_header_place details (8 * s)
  user_behind = aligned_place-ge (8 * s + details.header.size) details.user_header.alignment
      (IsPowerOfTwo-positive details.user_header.alignment w.aligned.user_header)

  payload_behind : user_header_place details (8 * s) + details.user_header.size ≤ payload_place details (8 * s)
  payload_behind =
      aligned_place-ge (user_header_place details (8 * s) + details.user_header.size) details.payload.alignment
      (IsPowerOfTwo-positive details.payload.alignment w.aligned.payload)

sized : (details : MessageTypeDetails) (n : ℕ) (part : MessagePart) → IsInWords details
    → part_bytes details n part ≡ 8 * part_words details n part
sized details n Header w = whole_of details.header.size w.header
sized details n UserHeader w = whole_of details.user_header.size w.user_header
sized details n Payload w =
    whole_of (n * details.payload.size)
    (n * w.payload.0, ap (λ k. n * k) w.payload.1 ∙ sym (mul_assoc n w.payload.0 8))

pub parts_are_in_words : PartsAreInWords
parts_are_in_words details slot_words slot n part w =
    (in_place details w (slot_place slot_words slot) part, sized details n part w)

-- ---- in order

module _ (details : MessageTypeDetails) (w : IsInWords details) (s n : ℕ) where
  abbrev at : MessagePart → ℕ
  at part = part_byte details (8 * s) part / 8

  -- header, user header and payload stand one behind the other
  abbrev InOrder : Type 0
  InOrder = (at Header + part_words details n Header ≤ at UserHeader)
      × (at UserHeader + part_words details n UserHeader ≤ at Payload)

  in_order : InOrder
  in_order =
      let h : part_byte details (8 * s) Header ≡ 8 * at Header = in_place details w s Header in
      let u : part_byte details (8 * s) UserHeader ≡ 8 * at UserHeader = in_place details w s UserHeader in
      let p : part_byte details (8 * s) Payload ≡ 8 * at Payload = in_place details w s Payload in
      let a : part_bytes details n Header ≡ 8 * part_words details n Header = sized details n Header w in
      let b : part_bytes details n UserHeader ≡ 8 * part_words details n UserHeader = sized details n UserHeader w in
      let first : 8 * s + details.header.size ≤ user_header_place details (8 * s) = user_behind details w s in
      let second : user_header_place details (8 * s) + details.user_header.size ≤ payload_place details (8 * s) = payload_behind details w s in
      (omega arith, omega arith)

  apart_in_order : InOrder → (x y : MessagePart) → (x ≡ y → ⊥) → AreApart (at x) (part_words details n x) (at y) (part_words details n y)
  apart_in_order o Header Header apart = absurd (apart refl)
  apart_in_order o Header UserHeader apart = inl o.0
  apart_in_order o Header Payload apart = inl (let a = o.0 in let b = o.1 in omega arith)
  apart_in_order o UserHeader Header apart = inr o.0
  apart_in_order o UserHeader UserHeader apart = absurd (apart refl)
  apart_in_order o UserHeader Payload apart = inl o.1
  apart_in_order o Payload Header apart = inr (let a = o.0 in let b = o.1 in omega arith)
  apart_in_order o Payload UserHeader apart = inr o.1
  apart_in_order o Payload Payload apart = absurd (apart refl)

  told_in_order : InOrder → (x y : MessagePart) (k l : ℕ) → k < part_words details n x → l < part_words details n y
      → at x + k ≡ at y + l → (x ≡ y) × (k ≡ l)
  told_in_order o Header Header k l low low' same = (refl, omega arith)
  told_in_order o Header UserHeader k l low low' same = (let a = o.0 in absurd (omega arith))
  told_in_order o Header Payload k l low low' same = (let a = o.0 in let b = o.1 in absurd (omega arith))
  told_in_order o UserHeader Header k l low low' same = (let a = o.0 in absurd (omega arith))
  told_in_order o UserHeader UserHeader k l low low' same = (refl, omega arith)
  told_in_order o UserHeader Payload k l low low' same = (let a = o.1 in absurd (omega arith))
  told_in_order o Payload Header k l low low' same = (let a = o.0 in let b = o.1 in absurd (omega arith))
  told_in_order o Payload UserHeader k l low low' same = (let a = o.1 in absurd (omega arith))
  told_in_order o Payload Payload k l low low' same = (refl, omega arith)

pub parts_are_apart : PartsAreApart
parts_are_apart details slot_words slot n x y w apart =
    let s : ℕ = slot_place slot_words slot in
    apart_in_order details w s n (in_order details w s n) x y apart

-- ---- within the slot

own : (details : MessageTypeDetails) → AreCompatible details details
own details = record {
  header = record { variant = refl; name = refl; size = refl; alignment = omega arith };
  user_header = record { variant = refl; name = refl; size = refl; alignment = omega arith };
  payload = record { variant = refl; name = refl; size = refl; alignment = omega arith };
}

slot_turned : (slot slot_words : ℕ) → slot * (8 * slot_words) ≡ 8 * (slot * slot_words)
slot_turned slot slot_words =
    let a : slot * (slot_words * 8) ≡ slot * slot_words * 8 = sym (mul_assoc slot slot_words 8) in
    let e : 8 * slot_words ≡ slot_words * 8 = omega arith in
    ap (λ k. slot * k) e ∙ a ∙ omega arith

stands : (details : MessageTypeDetails) (longest slot_words slot : ℕ) → IsInWords details → IsSlotFor details longest slot_words
    → StandsAt details details longest (message_size details longest) (8 * slot_place slot_words slot)
stands details longest slot_words slot w room =
    let P : ℕ → Type 0 = λ start. StandsAt details details longest (message_size details longest) start in
    let start : slot * message_size details longest ≡ 8 * (slot * slot_words) = ap (λ k. slot * k) room ∙ slot_turned slot slot_words in
    subst P start (LaysOut-message details longest w.aligned details w.aligned (own details) slot)

-- of a part that begins and ends between two bytes
within_bytes : (s t byte bytes place words : ℕ) → byte ≡ 8 * place → bytes ≡ 8 * words → 8 * s ≤ byte → byte + bytes ≤ 8 * t
    → (s ≤ place) × (place + words ≤ t)
within_bytes s t byte bytes place words e f low high = (omega arith, omega arith)

module _ (details : MessageTypeDetails) (longest slot_words slot n : ℕ) (w : IsInWords details)
    (room : IsSlotFor details longest slot_words) (few : n ≤ longest) where
  abbrev from : ℕ
  from = 8 * slot_place slot_words slot

  next : 8 * slot_place slot_words (slot + 1) ≡ from + message_size details longest
  next = (let e : (slot + 1) * slot_words ≡ slot * slot_words + 1 * slot_words = add-mul slot 1 slot_words in omega arith)

  fewer : n * details.payload.size ≤ longest * details.payload.size
  fewer = mul-le n details.payload.size longest details.payload.size few (omega arith)

  bytes_within : (part : MessagePart)
      → (from ≤ part_byte details from part) × (part_byte details from part + part_bytes details n part ≤ 8 * slot_place slot_words (slot + 1))
  bytes_within part =
      let st : StandsAt details details longest (message_size details longest) from = stands details longest slot_words slot w room in
      let first : from + details.header.size ≤ user_header_place details from = st.user_header_behind in
      let second : user_header_place details from + details.user_header.size ≤ payload_place details from = st.payload_behind in
      let third : payload_place details from + longest * details.payload.size ≤ from + message_size details longest = st.within in
      let e = next in
      let f = fewer in
      elim part as (λ q. (from ≤ part_byte details from q) × (part_byte details from q + part_bytes details n q ≤ 8 * slot_place slot_words (slot + 1))) [
        | Header ↦ (omega arith, omega arith)
        | UserHeader ↦ (omega arith, omega arith)
        | Payload ↦ (omega arith, omega arith)
      ]

pub words_are_in_their_slot : WordsAreInTheirSlot
words_are_in_their_slot details longest slot_words slot n part w room few =
    let s : ℕ = slot_place slot_words slot in
    let t : ℕ = slot_place slot_words (slot + 1) in
    let b = bytes_within details longest slot_words slot n w room few part in
    within_bytes (slot_place slot_words slot) (slot_place slot_words (slot + 1)) (part_byte details (8 * slot_place slot_words slot) part)
    (part_bytes details n part) (part_place details slot_words slot part) (part_words details n part)
    (in_place details w (slot_place slot_words slot) part) (sized details n part w) b.0 b.1

-- the place tells the slot
slot_told : (i j m x y : ℕ) → i * m ≤ x → x < (i + 1) * m → j * m ≤ y → y < (j + 1) * m → x ≡ y → i ≡ j
slot_told i j m x y low high low' high' same =
    let a : (i + 1) * m ≡ i * m + 1 * m = add-mul i 1 m in
    let b : (j + 1) * m ≡ j * m + 1 * m = add-mul j 1 m in
    let both : i * m + (x - i * m) ≡ j * m + (y - j * m) = omega arith in
    (same_from_place i (x - i * m) j (y - j * m) m (omega arith) (omega arith) both).0

pub places_tell_the_word : PlacesTellTheWord
places_tell_the_word details longest slot_words w room i j x y k l low low' same =
    let here = words_are_in_their_slot details longest slot_words i longest x w room (omega arith) in
    let there = words_are_in_their_slot details longest slot_words j longest y w room (omega arith) in
    let slots : i ≡ j = slot_told i j slot_words (place_in details slot_words i x k) (place_in details slot_words j y l)
    (let a = here.0 in omega arith) (let a = here.1 in omega arith) (let a = there.0 in omega arith) (let a = there.1 in omega arith) same in
    let one : place_in details slot_words j x k ≡ place_in details slot_words j y l = rw slots at same in
    let s : ℕ = slot_place slot_words j in
    let told = told_in_order details w (slot_place slot_words j) longest (in_order details w (slot_place slot_words j) longest) x y k l low low' one in
    (slots, told.0, told.1)

pub slots_matter : SlotsMatter
slots_matter details header user alignment payload = (rw (header, user, alignment, payload) refl, rw (header, user, alignment, payload) refl)

pub parts_are_computed : PartsAreComputed
parts_are_computed details slot_words slot part w = word_at details w (slot_place slot_words slot) part
