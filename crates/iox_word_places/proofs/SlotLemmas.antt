-- What the code of a map computes for a slot, and for a part of a message there.
use Rattle.std.proofs.Common.{◌≡◌, ℕ, ◌+◌, ◌*◌, ◌/◌, ◌^◌, ◌<◌, ◌≤◌, length, get_or, ap, sym, subst, ◌∙◌, arith}
use Rattle.std.specs.Option.{option_map_or}
use Rattle.std.proofs.lemmas.Nat.{mul-le}
use Rattle.std.proofs.Math.Nat.{add-mul}
use Rattle.iox_model.specs.declared.kind.Role.{Role}
use Rattle.iox_model.specs.declared.kind.Role.TheVariants.{Client, Server}
use Rattle.iox_types.specs.Layouts.{message_bytes, message_size}
use Rattle.iox_types.specs.declared.message_type_details.MessageTypeDetails.{MessageTypeDetails}
use Rattle.iox_types.proofs.LayoutLemmas.{IsPowerOfTwo-positive, aligned_place-ge}
use Rattle.iox_word_map.specs.declared.message_part.MessagePart.{MessagePart}
use Rattle.iox_word_map.specs.MessageWords.{IsInWords, IsSlotFor, part_place, part_word, part_words}
use Rattle.iox_word_map.specs.WordMaps.{total_words, Region, piece_place}
use Rattle.iox_word_map.proofs.Messages.{parts_are_computed, words_are_in_their_slot}
use Rattle.iox_word_places.specs.declared.plan.PlanPort.{PlanPort}
use Rattle.iox_word_places.specs.declared.plan.WirePlan.{WirePlan}
use Rattle.iox_word_places.specs.declared.word_map.PortPlaces.{PortPlaces}
use Rattle.iox_word_places.specs.MapFields.{places_before}
use Rattle.iox_word_places.specs.Plans.{number_at, sizes_of, IsPlan, IsSlotAt, HasSlots, details_of, role_of, slot_words_of, slot_start, part_start}
use Rattle.iox_word_places.proofs.PlanLemmas.{there, port_is, region_place, region_within}

-- the port itself, and not only what reads as it
itself : (plan : WirePlan) (i : ℕ) (at : PlanPort) → at ≡ get_or plan.ports.items i at → get_or plan.ports.items i at ≡ at
itself plan i at e = sym e

pub record SlotFacts (plan : WirePlan) (port slot region words : ℕ) : Type 0 where
  pub product : slot * words < 2 ^ 64
  pub sum : region + slot * words < 2 ^ 64
  pub place : region + slot * words ≡ slot_start plan (number_at plan port) slot
  -- with the whole slot it is within the region, and that within the wire
  pub room : region + (slot * words + words) ≤ total_words (sizes_of plan)

module _ (plan : WirePlan) (is : IsPlan plan) (fits : total_words (sizes_of plan) < 2 ^ 64) (port slot : ℕ)
    (inside : IsSlotAt plan port slot) (at : PlanPort) (at_is : at ≡ get_or plan.ports.items port at)
    (before : PortPlaces) (before_is : before ≡ places_before plan port) where
  low_and_below : (port < length plan.ports.items) × (slot < (get_or plan.ports.items port at).pool)
  low_and_below = there PlanPort (λ p. slot < p.pool) plan.ports.items port at inside

  below : slot < at.pool
  below = (let P : PlanPort → Type 0 = λ p. slot < p.pool in subst P (sym at_is) low_and_below.1)

  slot_words_are : slot_words_of plan (number_at plan port) ≡ at.slot_words
  slot_words_are =
      ap (λ o. option_map_or (λ p. p.slot_words) o 0) (port_is plan is.numbers port at low_and_below.0) ∙ ap (λ p. p.slot_words) (sym at_is)

  role_is : role_of plan (number_at plan port) ≡ at.role
  role_is =
      ap (λ o. option_map_or (λ p. p.role) o Client) (port_is plan is.numbers port at low_and_below.0) ∙ ap (λ p. p.role) (sym at_is)

  region_is : before.region ≡ piece_place (sizes_of plan) (Region (number_at plan port))
  region_is = ap (λ q. q.region) before_is ∙ sym (region_place plan is.numbers port low_and_below.0)

  pub slot_facts : SlotFacts plan port slot before.region at.slot_words
  slot_facts =
      let region : before.region ≡ (places_before plan port).region = ap (λ q. q.region) before_is in
      let all : (places_before plan port).region + at.pool * at.slot_words ≤ total_words (sizes_of plan) =
      (let P : PlanPort → Type 0 = λ p. (places_before plan port).region + p.pool * p.slot_words ≤ total_words (sizes_of plan) in
      subst P (sym at_is) (region_within plan is.numbers port at low_and_below.0)) in
      let lanes : (slot + 1) * at.slot_words ≤ at.pool * at.slot_words =
      mul-le (slot + 1) at.slot_words at.pool at.slot_words (let b = below in omega arith) (omega arith) in
      let split : (slot + 1) * at.slot_words ≡ slot * at.slot_words + 1 * at.slot_words = add-mul slot 1 at.slot_words in
      let start : slot * slot_words_of plan (number_at plan port) ≡ slot * at.slot_words = ap (λ k. slot * k) slot_words_are in
      let r = region_is in
      record {
        product = omega arith;
        sum = omega arith;
        place = omega arith;
        room = omega arith;
      }

  -- ---- a part of the message there

  has_slots : HasSlots plan at
  has_slots = (let P : PlanPort → Type 0 = λ p. HasSlots plan p in subst P (sym at_is) (is.slots port at low_and_below.0))

  whole : (role : Role) → IsInWords (details_of plan role)
  whole Client = is.requests
  whole Server = is.responses

  module _ (details : MessageTypeDetails) (details_are : details ≡ details_of plan at.role) where
    in_words : IsInWords details
    in_words = (let P : MessageTypeDetails → Type 0 = λ m. IsInWords m in subst P (sym details_are) (whole at.role))

    slot_for : IsSlotFor details at.longest at.slot_words
    slot_for = ap (λ m. message_size m at.longest) details_are ∙ has_slots

    -- a message has room in its slot
    empty_fits : message_bytes details 0 / 8 ≤ at.slot_words
    empty_fits =
        let more : 0 * details.payload.size ≤ at.longest * details.payload.size = mul-le 0 details.payload.size at.longest details.payload.size (omega arith) (omega arith) in
        let rounded : message_bytes details at.longest ≤ message_size details at.longest =
        aligned_place-ge (message_bytes details at.longest) details.header.alignment
        (IsPowerOfTwo-positive details.header.alignment in_words.aligned.header) in
        let e = slot_for in
        omega arith

    pub room_there : slot * at.slot_words + message_bytes details 0 / 8 < 2 ^ 64
    room_there = (let e = empty_fits in let r = slot_facts.room in omega arith)

    module _ (part : MessagePart) (word : ℕ) (word_is : word ≡ part_word details (slot * at.slot_words) part) where
      part_there : part_place details at.slot_words slot part ≡ word
      part_there = parts_are_computed details at.slot_words slot part in_words ∙ sym word_is

      pub part_fits : before.region + word < 2 ^ 64
      part_fits =
          let w = words_are_in_their_slot details at.longest at.slot_words slot 0 part in_words slot_for (omega arith) in
          let e : part_place details at.slot_words slot part ≡ word = part_there in
          let upper : part_place details at.slot_words slot part + part_words details 0 part ≤ (slot + 1) * at.slot_words = w.1 in
          let split : (slot + 1) * at.slot_words ≡ slot * at.slot_words + 1 * at.slot_words = add-mul slot 1 at.slot_words in
          let r = slot_facts.room in
          omega arith

      pub part_is : before.region + word ≡ part_start plan (number_at plan port) slot part
      part_is =
          let m : part_place (details_of plan (role_of plan (number_at plan port))) (slot_words_of plan (number_at plan port)) slot part
          ≡ part_place details at.slot_words slot part =
          ap (λ r. part_place (details_of plan r) (slot_words_of plan (number_at plan port)) slot part) role_is
          ∙ ap (λ k. part_place (details_of plan at.role) k slot part) slot_words_are
          ∙ ap (λ d. part_place d at.slot_words slot part) (sym details_are) in
          let e : part_place details at.slot_words slot part ≡ word = part_there in
          let r = region_is in
          omega arith
