-- Each word of a message is one of a part of it, at its place in the slot.
use Rattle.std.specs.Prelude.{nat_lt, if◌then◌else◌}
use Rattle.std.proofs.Common.{◌≡◌, ℕ, Bool, true, false, ◌+◌, ◌-◌, ◌*◌, ◌/◌, ◌<◌, ◌≤◌, [], length, refl, ap, sym, ◌∙◌, arith}
use Rattle.std.proofs.Math.Nat.{mul_assoc}
use Rattle.std.proofs.lemmas.Bool.{ltb-true, ltb-false}
use Rattle.std.proofs.lemmas.Nat.{mul-le}
use Rattle.iox_types.specs.Details.{detail}
use Rattle.iox_types.specs.declared.type_detail.TypeVariant.TheVariants.{FixedSize}
use Rattle.iox_types.specs.declared.message_type_details.MessageTypeDetails.{MessageTypeDetails}
use Rattle.iox_word_map.specs.declared.message_part.MessagePart.{MessagePart}
use Rattle.iox_word_map.specs.declared.message_part.MessagePart.TheVariants.{Header, UserHeader, Payload}
use Rattle.iox_word_map.specs.MessageWords.{IsInWords, IsSlotFor, part_words, place_in, slot_place}
use Rattle.iox_word_map.proofs.Messages.{words_are_in_their_slot, places_tell_the_word}
use Rattle.iox_model.specs.Settings.{Shape}
use Rattle.iox_wire_locals.specs.Stored.{header_length, user_start, payload_start}
use Rattle.iox_wire_locals.specs.Tables.{Setting, port_shape, region_word}
use Rattle.iox_wire_laws.specs.WireRegions.Regions.{HasRegion, slot_bytes, words_of_longest}
use Rattle.iox_wire_laws.specs.WireRegions.RegionLaws.{WordsAreInTheirRegion, WorkedPortsHaveRegions}

-- ---- parts

-- the part that a word stands in: before the end of the header, before that of the user header
abbrev part_by : Bool → Bool → MessagePart
part_by true b = Header
part_by false true = UserHeader
part_by false false = Payload

-- the number of a part's word in the message
abbrev word_by : (header user : ℕ) → MessagePart → ℕ → ℕ
word_by header user Header n = n
word_by header user UserHeader n = header + n
word_by header user Payload n = header + user + n

-- a shape as the description of messages whose types have no names
abbrev pub described : Shape → MessageTypeDetails
described x = record {
  header = detail FixedSize [] x.header_part.size x.header_part.alignment;
  user_header = detail FixedSize [] x.user_part.size x.user_part.alignment;
  payload = detail FixedSize [] x.element_part.size x.element_part.alignment;
}

eighths : (a b : ℕ) → (a + 8 * b) / 8 ≡ a / 8 + b
eighths a b = omega arith

turned : (n m : ℕ) → n * (8 * m) ≡ 8 * (n * m)
turned n m =
    let a : n * (m * 8) ≡ n * m * 8 = sym (mul_assoc n m 8) in
    let e : 8 * m ≡ m * 8 = omega arith in
    ap (λ k. n * k) e ∙ a ∙ omega arith

module _ (p : Setting) (port : ℕ) (has : HasRegion p port) where
  abbrev x : Shape
  x = port_shape p port

  abbrev h : ℕ
  h = header_length (p.port port).role

  abbrev u : ℕ
  u = length (port_shape p port).user

  abbrev longest : ℕ
  longest = (p.port port).longest

  -- the words of a slot
  abbrev m : ℕ
  m = has.whole.0

  whole_words : IsInWords (described (port_shape p port))
  whole_words = record {
    aligned = record { header = has.header_part; user_header = has.user_part; payload = has.element_part };
    header = (h, has.header ∙ omega arith);
    user_header = (u, has.user ∙ omega arith);
    payload = ((port_shape p port).width, has.element ∙ omega arith);
  }

  for_slots : IsSlotFor (described (port_shape p port)) longest m
  for_slots = has.whole.1 ∙ omega arith

  start_of : (slot : ℕ) → slot * slot_bytes p port ≡ 8 * slot_place m slot
  start_of slot = ap (λ k. slot * k) for_slots ∙ turned slot m

  -- the part of word k, and the word's number there
  abbrev part : ℕ → MessagePart
  part k = part_by (nat_lt k h) (nat_lt k (h + u))

  abbrev number : ℕ → ℕ
  number k = if nat_lt k h then k else (if nat_lt k (h + u) then k - h else k - (h + u))

  abbrev Stands : ℕ → ℕ → MessagePart → ℕ → ℕ → Type 0
  Stands slot k q n byte =
      (byte / 8 ≡ place_in (described (port_shape p port)) m slot q n) × (k < words_of_longest p port → n < part_words (described (port_shape p port)) longest q)
      × (word_by h u q n ≡ k)

  stands : (slot k : ℕ) (a b : Bool) → nat_lt k h ≡ a → nat_lt k (h + u) ≡ b
      → Stands slot k (part_by a b) (if a then k else (if b then k - h else k - (h + u)))
      (if a then 8 * slot_place m slot + 8 * k
      else (if b then user_start (port_shape p port) (8 * slot_place m slot) + 8 * (k - h)
      else payload_start (port_shape p port) (8 * slot_place m slot) + 8 * (k - (h + u))))
  stands slot k true b is also = (
    eighths (8 * slot_place m slot) k,
    λ low. let e : (port_shape p port).header_part.size ≡ 8 * h = has.header in let f : k < h = ltb-true k h is in omega arith,
    refl,
  )
  stands slot k false true is also = (
    eighths (user_start (port_shape p port) (8 * slot_place m slot)) (k - h),
    λ low. let e : (port_shape p port).user_part.size ≡ 8 * u = has.user in
        let f : h ≤ k = ltb-false k h is in let g : k < h + u = ltb-true k (h + u) also in omega arith,
    let f : h ≤ k = ltb-false k h is in omega arith,
  )
  stands slot k false false is also = (
    eighths (payload_start (port_shape p port) (8 * slot_place m slot)) (k - (h + u)),
    λ low. let e : longest * (port_shape p port).element_part.size ≡ 8 * (longest * (port_shape p port).width)
        = ap (λ i. longest * i) has.element ∙ turned longest (port_shape p port).width in
        let g : h + u ≤ k = ltb-false k (h + u) also in omega arith,
    let g : h + u ≤ k = ltb-false k (h + u) also in omega arith,
  )

  placed : (slot k : ℕ) → (region_word p port slot k ≡ place_in (described (port_shape p port)) m slot (part k) (number k))
      × (k < words_of_longest p port → number k < part_words (described (port_shape p port)) longest (part k))
      × (word_by h u (part k) (number k) ≡ k)
  placed slot k =
      let s = stands slot k (nat_lt k h) (nat_lt k (h + u)) refl refl in
      (rw (start_of slot) s.0, s.1, s.2)

  -- ---- within the slot, within the region

  pub in_slot : (slot k : ℕ) → k < words_of_longest p port
      → (slot * m ≤ region_word p port slot k) × (region_word p port slot k < (slot + 1) * m)
  in_slot slot k low =
      let at = placed slot k in
      let within = words_are_in_their_slot (described (port_shape p port)) longest m slot longest (part k) whole_words for_slots (omega arith) in
      let a = at.0 in let b = at.1 low in let c = within.0 in let d = within.1 in (omega arith, omega arith)

  pub in_region : (slot k : ℕ) → slot < (p.port port).pool → k < words_of_longest p port → region_word p port slot k < p.layout.sizes.region port
  in_region slot k few low =
      let slots : (slot + 1) * m ≤ (p.port port).pool * m = mul-le (slot + 1) m (p.port port).pool m (omega arith) (omega arith) in
      let all : 8 * p.layout.sizes.region port ≡ 8 * ((p.port port).pool * m) = has.region ∙ ap (λ k. (p.port port).pool * k) for_slots ∙ turned (p.port port).pool m in
      let at = (in_slot slot k low).1 in omega arith

  pub told : (i j k l : ℕ) → k < words_of_longest p port → l < words_of_longest p port → region_word p port i k ≡ region_word p port j l → (i ≡ j) × (k ≡ l)
  told i j k l low low' same =
      let at = placed i k in let at' = placed j l in
      let both = places_tell_the_word (described (port_shape p port)) longest m whole_words for_slots i j (part k) (part l) (number k) (number l)
      (at.1 low) (at'.1 low') (sym at.0 ∙ same ∙ at'.0) in
      (both.0, sym at.2 ∙ ap (λ q. word_by h u q (number k)) both.1 ∙ ap (word_by h u (part l)) both.2 ∙ at'.2)

pub words_are_in_their_region : WordsAreInTheirRegion
words_are_in_their_region p port slot k is = in_region p port is.region slot k is.in_pool is.in_message

pub worked_ports_have_regions : WorkedPortsHaveRegions
worked_ports_have_regions = (
  record {
    there = refl;
    header_part = (3, refl);
    user_part = (3, refl);
    element_part = (3, refl);
    header = refl;
    user = refl;
    element = refl;
    whole = (10, refl);
    region = refl;
  },
  record {
    there = refl;
    header_part = (3, refl);
    user_part = (3, refl);
    element_part = (3, refl);
    header = refl;
    user = refl;
    element = refl;
    whole = (9, refl);
    region = refl;
  },
)
