-- Where the headers and user headers of a port's messages stand.
use Rattle.std.proofs.Common.{◌≡◌, ℕ, ◌+◌, ◌-◌, ◌*◌, ◌/◌, ◌<◌, ◌≤◌, ◌^◌, Bool, true, false, length, get_or, refl, ap, sym, subst, ◌∙◌, arith, if◌then◌else◌}
use Rattle.std.specs.Prelude.{IsSomeAnd, Option, Some, nat_lt}
use Rattle.std.specs.Option.{option_map_or}
use Rattle.std.proofs.lemmas.Bool.{ltb-false, ltb-true}
use Rattle.std.proofs.lemmas.Nat.{mul-le}
use Rattle.std.proofs.lemmas.Option.{slice_get-get_or}
use Rattle.iox_model.specs.declared.kind.Kind.TheVariants.{RequestMut}
use Rattle.iox_model.specs.declared.kind.Role.{Role}
use Rattle.iox_model.specs.declared.kind.Role.TheVariants.{Client, Server}
use Rattle.iox_types.specs.Places.{aligned_place}
use Rattle.iox_types.specs.Layouts.{message_bytes, message_size as bytes_for}
use Rattle.iox_types.specs.declared.message_type_details.MessageTypeDetails.{MessageTypeDetails}
use Rattle.iox_types.proofs.LayoutLemmas.{IsPowerOfTwo-positive, aligned_place-ge}
use Rattle.iox_word_map.specs.MessageWords.{IsInWords, in_words}
use Rattle.iox_word_map.specs.WordMaps.{Region, piece_place, total_words}
use Rattle.iox_word_map.specs.declared.message_part.MessagePart.TheVariants.{Payload, UserHeader}
use Rattle.iox_word_map.proofs.Messages.{parts_are_computed}
use Rattle.iox_wire_messages.specs.PlanPort.{PlanPort}
use Rattle.iox_wire_messages.specs.WirePlan.{WirePlan}
use Rattle.iox_wire_messages.specs.Plans.{IsPlan, IsPortAt, IsSlotAt, details_of, number_at, part_start, port_of, sizes_of, slot_words_of}
use Rattle.iox_wire_messages.proofs.PairLemmas.{index_there, one_of}
use Rattle.iox_wire_messages.proofs.PlanLemmas.{port_is, there}
use Rattle.iox_wire_messages.specs.Programs.{WireLayout, word_place}
use Rattle.iox_wire_messages.specs.Entry.{Entry}
use Rattle.iox_wire_messages.specs.Stored.{header_length}
use Rattle.iox_wire_messages.specs.Tables.{Setting, port_shape, region_word, words_to_read}
use Rattle.iox_wire_messages.specs.PlansOf.{IsSettingOf}
use Rattle.iox_wire_copies.specs.SlotPlaces.{SlotPlaces}
use Rattle.iox_wire_copies.specs.Lenders.{AreSlots, IsWithin, place_in, user_in}
use Rattle.iox_wire_copies.specs.declared.payload_places.PayloadPlaces.{PayloadPlaces}
use Rattle.iox_wire_copies.specs.Copies.{ArePayloads}
use Rattle.iox_wire_copies.specs.Payloads.{SlotsHold, payload_at}
use Rattle.iox_wire_messages.proofs.PlaceLemmas.{payload_there, stand_there, user_words}
use Rattle.iox_wire_messages.specs.MessagePlaces.{MessagePlaces}
use Rattle.iox_wire_messages.specs.Aims.{StandAt}
use Rattle.iox_wire_ways.specs.PlannedSlots.{HasHeader, element_words, longest_of, planned_payloads, planned_slots, role_there, words_in_front}
use Rattle.iox_wire_ways.specs.Visits.{pool_of}
use Rattle.iox_wire_ways.proofs.HeaderLemmas.{header_word, longest_planned, pool_planned, role_planned, slots_in_memory, turned, whole_words, width_planned}

under : (a b : ℕ) → a < b → nat_lt a b ≡ true
under a b low = by_case (nat_lt a b) refl
  where
    by_case : (c : Bool) → nat_lt a b ≡ c → c ≡ true
    by_case true is = refl
    by_case false is = let h : b ≤ a = ltb-false a b is in absurd (omega (arith, h, low))

-- ---- steps of words

step_least : (a : ℕ) → 0 < in_words a
step_least a = omega arith

pub step_small : (a : ℕ) → 0 < a → 8 * (in_words a - 1) ≤ a - 1
step_small a some = omega (arith, some)

-- ---- the port at an index

module _ (plan : WirePlan) (is : IsPlan plan) (i : ℕ) (slot_there : IsSlotAt plan i 0) (header : HasHeader plan i) where
  below : i < length plan.ports.items
  below = index_there PlanPort (λ p. 0 < p.pool) plan.ports.items i slot_there

  d : PlanPort
  d = one_of plan.ports.items i below

  found : port_of plan (number_at plan i) ≡ Some (get_or plan.ports.items i d)
  found = port_is plan is.numbers i d below

  role_is : role_there plan i ≡ (get_or plan.ports.items i d).role
  role_is = ap (λ o. option_map_or (λ (q : PlanPort). q.role) o Client) found

  at : IsPortAt plan (role_there plan i) i
  at =
      subst (λ (o : Option PlanPort). IsSomeAnd o (λ q. q.role ≡ role_there plan i)) (sym (slice_get-get_or plan.ports.items i d below)) (sym role_is)

  some_slot : 0 < pool_of plan (number_at plan i)
  some_slot =
      subst (λ n. 0 < n) (sym (ap (λ o. option_map_or (λ (q : PlanPort). q.pool) o 0) found))
      (there PlanPort (λ p. 0 < p.pool) plan.ports.items i d slot_there).1

  abbrev details : MessageTypeDetails
  details = details_of plan (role_there plan i)

  whole : IsInWords (details_of plan (role_there plan i))
  whole = whole_words plan (role_there plan i) is

  header_words : (details_of plan (role_there plan i)).header.size / 8 ≡ header_length (role_there plan i)
  header_words = let h : (details_of plan (role_there plan i)).header.size ≡ 8 * header_length (role_there plan i) = header in omega (arith, h)

  pub header_told : (n : ℕ) → n ≡ (details_of plan (role_there plan i)).header.size / 8 → n ≡ header_length (role_there plan i)
  header_told n told = told ∙ header_words

  some_header : (r : Role) → 0 < header_length r
  some_header Client = omega arith
  some_header Server = omega arith

  -- ---- in memory

  room_there : header_length (role_there plan i) + (in_words (details_of plan (role_there plan i)).user_header.alignment - 1) + (details_of plan (role_there plan i)).user_header.size / 8
      ≤ slot_words_of plan (number_at plan i)
  room_there =
      let size : bytes_for (details_of plan (get_or plan.ports.items i d).role) (get_or plan.ports.items i d).longest ≡ 8 * (get_or plan.ports.items i d).slot_words = is.slots i d below in
      let same : bytes_for (details_of plan (role_there plan i)) (get_or plan.ports.items i d).longest ≡ 8 * (get_or plan.ports.items i d).slot_words =
      ap (λ (r : Role). bytes_for (details_of plan r) (get_or plan.ports.items i d).longest) role_is ∙ size in
      let rounded : message_bytes (details_of plan (role_there plan i)) (get_or plan.ports.items i d).longest ≤ bytes_for (details_of plan (role_there plan i)) (get_or plan.ports.items i d).longest =
      aligned_place-ge (message_bytes (details_of plan (role_there plan i)) (get_or plan.ports.items i d).longest) (details_of plan (role_there plan i)).header.alignment
      (IsPowerOfTwo-positive (details_of plan (role_there plan i)).header.alignment whole.aligned.header) in
      let words : slot_words_of plan (number_at plan i) ≡ (get_or plan.ports.items i d).slot_words = ap (λ o. option_map_or (λ (q : PlanPort). q.slot_words) o 0) found in
      let h : (details_of plan (role_there plan i)).header.size ≡ 8 * header_length (role_there plan i) = header in
      let u : (details_of plan (role_there plan i)).user_header.size ≡ whole.user_header.0 * 8 = whole.user_header.1 in
      let s : 8 * (in_words (details_of plan (role_there plan i)).user_header.alignment - 1) ≤ (details_of plan (role_there plan i)).user_header.alignment - 1 =
      step_small (details_of plan (role_there plan i)).user_header.alignment (IsPowerOfTwo-positive (details_of plan (role_there plan i)).user_header.alignment whole.aligned.user_header) in
      omega (arith, same, rounded, words, h, u, s)

  pub slots_within : (total : ℕ) → total ≡ total_words (sizes_of plan) → total < 2 ^ 64 → IsWithin (planned_slots plan i)
  slots_within total total_is fits = record {
    some = some_slot;
    header = some_header (role_there plan i);
    slots = slots_in_memory plan is (role_there plan i) i at total total_is fits;
    step = step_least (details_of plan (role_there plan i)).user_header.alignment;
    room = room_there;
  }

  pub slot_words_fit : (total : ℕ) → total ≡ total_words (sizes_of plan) → total < 2 ^ 64 → slot_words_of plan (number_at plan i) < 2 ^ 64
  slot_words_fit total total_is fits =
      let all = slots_in_memory plan is (role_there plan i) i at total total_is fits in
      let some : 0 < pool_of plan (number_at plan i) = some_slot in
      let one : 1 * slot_words_of plan (number_at plan i) ≤ pool_of plan (number_at plan i) * slot_words_of plan (number_at plan i) =
      mul-le 1 (slot_words_of plan (number_at plan i)) (pool_of plan (number_at plan i)) (slot_words_of plan (number_at plan i)) (omega (arith, some)) (omega arith) in
      omega (arith, all, one)

  -- ---- in front of a payload

  payload_step : 8 * (in_words (details_of plan (role_there plan i)).payload.alignment - 1) ≤ (details_of plan (role_there plan i)).payload.alignment - 1
  payload_step =
      step_small (details_of plan (role_there plan i)).payload.alignment (IsPowerOfTwo-positive (details_of plan (role_there plan i)).payload.alignment whole.aligned.payload)

  longest_fits : (k : ℕ) → k ≤ (get_or plan.ports.items i d).longest
      → words_in_front plan i + k * ((details_of plan (role_there plan i)).payload.size / 8) ≤ slot_words_of plan (number_at plan i)
  longest_fits k most =
      let n : ℕ = (get_or plan.ports.items i d).longest in
      let size : bytes_for (details_of plan (get_or plan.ports.items i d).role) (get_or plan.ports.items i d).longest ≡ 8 * (get_or plan.ports.items i d).slot_words = is.slots i d below in
      let same : bytes_for (details_of plan (role_there plan i)) (get_or plan.ports.items i d).longest ≡ 8 * (get_or plan.ports.items i d).slot_words =
      ap (λ (r : Role). bytes_for (details_of plan r) (get_or plan.ports.items i d).longest) role_is ∙ size in
      let rounded : message_bytes (details_of plan (role_there plan i)) (get_or plan.ports.items i d).longest ≤ bytes_for (details_of plan (role_there plan i)) (get_or plan.ports.items i d).longest =
      aligned_place-ge (message_bytes (details_of plan (role_there plan i)) (get_or plan.ports.items i d).longest) (details_of plan (role_there plan i)).header.alignment
      (IsPowerOfTwo-positive (details_of plan (role_there plan i)).header.alignment whole.aligned.header) in
      let words : slot_words_of plan (number_at plan i) ≡ (get_or plan.ports.items i d).slot_words = ap (λ o. option_map_or (λ (q : PlanPort). q.slot_words) o 0) found in
      let h : (details_of plan (role_there plan i)).header.size ≡ 8 * header_length (role_there plan i) = header in
      let u : (details_of plan (role_there plan i)).user_header.size ≡ whole.user_header.0 * 8 = whole.user_header.1 in
      let s : 8 * (in_words (details_of plan (role_there plan i)).user_header.alignment - 1) ≤ (details_of plan (role_there plan i)).user_header.alignment - 1 =
      step_small (details_of plan (role_there plan i)).user_header.alignment (IsPowerOfTwo-positive (details_of plan (role_there plan i)).user_header.alignment whole.aligned.user_header) in
      let t = payload_step in
      let e : (details_of plan (role_there plan i)).payload.size ≡ 8 * ((details_of plan (role_there plan i)).payload.size / 8) = (let v = whole.payload.1 in omega (arith, v)) in
      let all : (get_or plan.ports.items i d).longest * (details_of plan (role_there plan i)).payload.size ≡ 8 * ((get_or plan.ports.items i d).longest * ((details_of plan (role_there plan i)).payload.size / 8)) =
      ap (λ m. (get_or plan.ports.items i d).longest * m) e ∙ turned (get_or plan.ports.items i d).longest ((details_of plan (role_there plan i)).payload.size / 8) in
      let fewer : k * ((details_of plan (role_there plan i)).payload.size / 8) ≤ (get_or plan.ports.items i d).longest * ((details_of plan (role_there plan i)).payload.size / 8) =
      mul-le k ((details_of plan (role_there plan i)).payload.size / 8) (get_or plan.ports.items i d).longest ((details_of plan (role_there plan i)).payload.size / 8) most (omega arith) in
      omega (arith, same, rounded, words, h, u, s, t, all, fewer)

  pub front_fits : words_in_front plan i ≤ slot_words_of plan (number_at plan i)
  front_fits = let a = longest_fits 0 (omega arith) in omega (arith, a)

  pub payloads_have_room : SlotsHold (planned_slots plan i) (planned_payloads plan i)
  payloads_have_room = record {
    step = step_least (details_of plan (role_there plan i)).payload.alignment;
    room = let a = front_fits in omega (arith, a);
  }

  -- a message of no more elements than the planned longest has room
  pub planned_fits : (k : ℕ) → k ≤ longest_of plan (number_at plan i) → k * element_words plan i ≤ (planned_payloads plan i).room
  planned_fits k most =
      let same : longest_of plan (number_at plan i) ≡ (get_or plan.ports.items i d).longest = ap (λ o. option_map_or (λ (q : PlanPort). q.longest) o 0) found in
      let a = longest_fits k (subst (λ n. k ≤ n) same most) in
      omega (arith, a)

  -- ---- on the wire

  module _ (p : Setting) (setting : IsSettingOf plan p) where
    user_length : (slot : ℕ) → (details_of plan (role_there plan i)).user_header.size / 8 ≡ length (port_shape p (number_at plan i)).user
    user_length slot =
        ap (λ (r : Role). (details_of plan r).user_header.size / 8) role_is ∙ user_words plan p i slot d is setting below

    abbrev message : ℕ → Entry
    message slot = record {
      number = 0;
      kind = RequestMut;
      port = number_at plan i;
      sender = number_at plan i;
      slot = slot;
      client = 0;
      lane = 0;
      request = 0;
      elements = 0;
      connections = 0;
    }

    abbrev places : ℕ → MessagePlaces
    places slot = record {
      user = part_start plan (number_at plan i) slot UserHeader;
      user_count = (details_of plan (role_there plan i)).user_header.size / 8;
      payload = part_start plan (number_at plan i) slot Payload;
    }

    user_there : (slot : ℕ) → part_start plan (number_at plan i) slot UserHeader
        ≡ piece_place (sizes_of plan) (Region (number_at plan i)) + user_in (planned_slots plan i) slot
    user_there slot =
        ap (λ n. piece_place (sizes_of plan) (Region (number_at plan i)) + n)
        (parts_are_computed (details_of plan (role_there plan i)) (slot_words_of plan (number_at plan i)) slot UserHeader whole
        ∙ ap (λ h. aligned_place (slot * slot_words_of plan (number_at plan i) + h) (in_words (details_of plan (role_there plan i)).user_header.alignment)) header_words)

    headers_there : (slot k : ℕ) → slot < (planned_slots plan i).slots → k < (planned_slots plan i).header + (planned_slots plan i).user
        → place_in (planned_slots plan i) slot k ≡ word_place p.layout (number_at plan i) (region_word p (number_at plan i) slot k)
    headers_there slot k inside low = by_case (nat_lt k (header_length (role_there plan i))) refl
      where
        by_case : (b : Bool) → nat_lt k (header_length (role_there plan i)) ≡ b
            → place_in (planned_slots plan i) slot k ≡ word_place p.layout (number_at plan i) (region_word p (number_at plan i) slot k)
        by_case true first =
            let in_header : k < header_length (role_there plan i) = ltb-true k (header_length (role_there plan i)) first in
            let word : region_word p (number_at plan i) slot k ≡ slot * slot_words_of plan (number_at plan i) + k =
            header_word plan is (role_there plan i) i at p setting slot k in_header in
            ap (λ (b : Bool). if b then piece_place (sizes_of plan) (Region (number_at plan i)) + slot * slot_words_of plan (number_at plan i) + k
            else piece_place (sizes_of plan) (Region (number_at plan i)) + user_in (planned_slots plan i) slot + (k - header_length (role_there plan i))) first
            ∙ omega (arith, word)
            ∙ ap (λ (y : WireLayout). word_place y (number_at plan i) (region_word p (number_at plan i) slot k)) (sym setting.layout)
        by_case false behind =
            let past : header_length (role_there plan i) ≤ k = ltb-false k (header_length (role_there plan i)) behind in
            let all : (details_of plan (role_there plan i)).user_header.size / 8 ≡ length (port_shape p (number_at plan i)).user = user_length slot in
            let in_user : k - header_length (role_there plan i) < (details_of plan (role_there plan i)).user_header.size / 8 = omega (arith, past, low) in
            let stand : StandAt p (message slot) (places slot) (words_to_read p (message slot)) =
            stand_there plan p i slot d is setting below (message slot) (places slot) refl
            (ap (λ (r : Role). (details_of plan r).user_header.size / 8) role_is) refl refl refl in
            let there_is = stand.places (k - header_length (role_there plan i)) (omega (arith, in_user, all)) in
            let role_so : header_length (p.port (number_at plan i)).role + (k - header_length (role_there plan i)) ≡ k =
            ap (λ (r : Role). header_length r + (k - header_length (role_there plan i))) (role_planned plan is (role_there plan i) i at p setting) ∙ omega (arith, past) in
            ap (λ (b : Bool). if b then piece_place (sizes_of plan) (Region (number_at plan i)) + slot * slot_words_of plan (number_at plan i) + k
            else piece_place (sizes_of plan) (Region (number_at plan i)) + user_in (planned_slots plan i) slot + (k - header_length (role_there plan i))) behind
            ∙ ap (λ n. n + (k - header_length (role_there plan i))) (sym (user_there slot))
            ∙ sym (ap (λ (b : Bool). if b then part_start plan (number_at plan i) slot UserHeader + (k - header_length (role_there plan i))
            else part_start plan (number_at plan i) slot Payload + (k - header_length (role_there plan i) - (details_of plan (role_there plan i)).user_header.size / 8))
            (under (k - header_length (role_there plan i)) ((details_of plan (role_there plan i)).user_header.size / 8) in_user))
            ∙ there_is
            ∙ ap (λ n. word_place p.layout (number_at plan i) (region_word p (number_at plan i) slot n)) role_so

    pub are_slots : AreSlots p (number_at plan i) (planned_slots plan i)
    are_slots = record { pool = pool_planned plan is (role_there plan i) i at p setting; words = headers_there }

    payload_start_there : (slot : ℕ) → part_start plan (number_at plan i) slot Payload ≡ payload_at (planned_slots plan i) (planned_payloads plan i) slot
    payload_start_there slot =
        ap (λ n. piece_place (sizes_of plan) (Region (number_at plan i)) + n)
        (parts_are_computed (details_of plan (role_there plan i)) (slot_words_of plan (number_at plan i)) slot Payload whole
        ∙ ap (λ h. aligned_place (aligned_place (slot * slot_words_of plan (number_at plan i) + h) (in_words (details_of plan (role_there plan i)).user_header.alignment)
        + (details_of plan (role_there plan i)).user_header.size / 8) (in_words (details_of plan (role_there plan i)).payload.alignment)) header_words)

    pub are_payloads : ArePayloads p (number_at plan i) (planned_slots plan i) (planned_payloads plan i)
    are_payloads slot k inside =
        payload_there plan p i slot d is setting below (message slot) (payload_at (planned_slots plan i) (planned_payloads plan i) slot) (k + 1)
        (sym (payload_start_there slot)) refl refl k (omega arith)

    -- a message of no more elements than the port's longest has room
    pub longest_there : (k : ℕ) → k ≤ (p.port (number_at plan i)).longest
        → k * (port_shape p (number_at plan i)).width ≤ (planned_payloads plan i).room
    longest_there k most =
        let a = longest_fits k (subst (λ n. k ≤ n) (longest_planned plan is (role_there plan i) i at p setting d) most) in
        let w : (details_of plan (role_there plan i)).payload.size ≡ 8 * (port_shape p (number_at plan i)).width = width_planned plan is (role_there plan i) i at p setting in
        let e : (port_shape p (number_at plan i)).width ≡ (details_of plan (role_there plan i)).payload.size / 8 = omega (arith, w) in
        let b : k * (port_shape p (number_at plan i)).width ≡ k * ((details_of plan (role_there plan i)).payload.size / 8) = ap (λ n. k * n) e in
        omega (arith, a, b)

-- ---- what is told in parts

pub slots_are : (t : SlotPlaces) (region slots slot_words header user step : ℕ)
    → region ≡ t.region → slots ≡ t.slots → slot_words ≡ t.slot_words → header ≡ t.header → user ≡ t.user → step ≡ t.step
    → (let u : SlotPlaces = record {
      region = region;
      slots = slots;
      slot_words = slot_words;
      header = header;
      user = user;
      step = step;
    } in u ≡ t)
slots_are t region slots slot_words header user step r s w h u m = λ i. record {
  region = r i;
  slots = s i;
  slot_words = w i;
  header = h i;
  user = u i;
  step = m i;
}

-- the port there has that role
pub role_of_port : (plan : WirePlan) (i : ℕ) (q : PlanPort) → IsPlan plan → i < length plan.ports.items → q ≡ get_or plan.ports.items i q → q.role ≡ role_there plan i
role_of_port plan i q is below same =
    ap (λ (r : PlanPort). r.role) same ∙ sym (ap (λ o. option_map_or (λ (r : PlanPort). r.role) o Client) (port_is plan is.numbers i q below))

pub slot_below : (plan : WirePlan) (i : ℕ) → IsSlotAt plan i 0 → i < length plan.ports.items
slot_below plan i at = index_there PlanPort (λ p. 0 < p.pool) plan.ports.items i at

pub payloads_are : (t : PayloadPlaces) (step room : ℕ) → step ≡ t.step → room ≡ t.room
    → (let u : PayloadPlaces = record { step = step; room = room } in u ≡ t)
payloads_are t step room s r = λ i. record { step = s i; room = r i }
