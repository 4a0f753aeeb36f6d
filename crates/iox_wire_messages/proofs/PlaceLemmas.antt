-- Each word behind the header of a message stands where the parts of the message say.
use Rattle.std.specs.Prelude.{nat_lt, if◌then◌else◌, find}
use Rattle.std.specs.Option.{option_map_or}
use Rattle.std.proofs.Common.{◌≡◌, ℕ, ◌+◌, ◌-◌, ◌*◌, ◌/◌, ◌<◌, ◌≤◌, ◌==◌, Bool, true, false, length, get_or, Some, refl, ap, ap₂, sym, subst, ◌∙◌, arith}
use Rattle.std.proofs.Math.Nat.{mul_assoc}
use Rattle.std.proofs.lemmas.Bool.{ltb-true, ltb-false}
use Rattle.std.proofs.lemmas.List.{get_or-map}
use Rattle.iox_model.specs.declared.kind.Role.TheVariants.{Client}
use Rattle.iox_model.specs.Settings.{Shape, message_size, shape_of}
use Rattle.iox_types.specs.declared.message_type_details.MessageTypeDetails.{MessageTypeDetails}
use Rattle.iox_word_map.specs.declared.message_part.MessagePart.TheVariants.{UserHeader, Payload}
use Rattle.iox_word_map.specs.declared.message_part.MessagePart.{MessagePart}
use Rattle.iox_word_map.specs.WordMaps.{Region, piece_place}
use Rattle.iox_word_map.specs.MessageWords.{slot_place, part_byte, part_place}
use Rattle.iox_wire_words.specs.Programs.{WireLayout, word_place}
use Rattle.iox_word_places.specs.declared.plan.PlanPort.{PlanPort}
use Rattle.iox_word_places.specs.declared.plan.WirePlan.{WirePlan}
use Rattle.iox_word_places.specs.Plans.{IsPlan, details_of, layout_of, number_at, part_start, port_of}
use Rattle.iox_word_places.proofs.PortLemmas.{find_at}
use Rattle.iox_wire_locals.specs.Stored.{header_length, user_start, payload_start, word_start}
use Rattle.iox_wire_locals.specs.declared.table.Entry.{Entry}
use Rattle.iox_wire_locals.specs.Tables.{Setting, port_shape, region_word, words_before_payload, words_to_read}
use Rattle.iox_wire_layouts.specs.PlansOf.{IsAsPlanned, IsSettingOf, IsShapeOf}
use Rattle.iox_wire_layouts.proofs.Planned.{each_planned}
use Rattle.iox_wire_seats.specs.declared.message_places.MessagePlaces.{MessagePlaces}
use Rattle.iox_wire_seats.specs.Aims.{IsPayloadAt, StandAt, word_at}

-- ---- numbers

eighths : (a b : ℕ) → (a + 8 * b) / 8 ≡ a / 8 + b
eighths a b = omega arith

turned : (n m : ℕ) → n * (8 * m) ≡ 8 * (n * m)
turned n m =
    let a : n * (m * 8) ≡ n * m * 8 = sym (mul_assoc n m 8) in
    let e : 8 * m ≡ m * 8 = omega arith in
    ap (λ k. n * k) e ∙ a ∙ omega arith

behind : (c : Bool) (base u v k count : ℕ)
    → (if c then base + u + k else base + v + (k - count)) ≡ base + (if c then u + k else v + (k - count))
behind true base u v k count = omega arith
behind false base u v k count = omega arith

joined : (a b k : ℕ) → a + b + k ≡ a + (b + k)
joined a b k = omega arith

not_below : (n k : ℕ) → nat_lt (n + k) n ≡ false
not_below n k = by_case (nat_lt (n + k) n) refl
  where
    by_case : (t : Bool) → nat_lt (n + k) n ≡ t → nat_lt (n + k) n ≡ false
    by_case true e = absurd (let l : n + k < n = ltb-true (n + k) n e in omega (arith, l))
    by_case false e = e

-- a word behind the header is one of the user header or of the payload
word_behind : (x : Shape) (header user start k : ℕ)
    → word_start x header user start (header + k) / 8
    ≡ (if nat_lt k user then user_start x start / 8 + k else payload_start x start / 8 + (k - user))
word_behind x header user start k = cases (nat_lt (header + k) header) (nat_lt (header + k) (header + user)) (nat_lt k user) refl refl refl
  where
    cases : (a b c : Bool) → nat_lt (header + k) header ≡ a → nat_lt (header + k) (header + user) ≡ b → nat_lt k user ≡ c
        → (if a then start + 8 * (header + k)
        else (if b then user_start x start + 8 * (header + k - header)
        else payload_start x start + 8 * (header + k - (header + user)))) / 8
        ≡ (if c then user_start x start / 8 + k else payload_start x start / 8 + (k - user))
    cases true b c e f g = absurd (let l : header + k < header = ltb-true (header + k) header e in omega (arith, l))
    cases false true true e f g =
        let m : header + k - header ≡ k = omega arith in
        ap (λ j. (user_start x start + 8 * j) / 8) m ∙ eighths (user_start x start) k
    cases false true false e f g =
        absurd (let l : header + k < header + user = ltb-true (header + k) (header + user) f in let m : user ≤ k = ltb-false k user g in omega (arith, l, m))
    cases false false true e f g =
        absurd (let l : header + user ≤ header + k = ltb-false (header + k) (header + user) f in let m : k < user = ltb-true k user g in omega (arith, l, m))
    cases false false false e f g =
        let m : header + k - (header + user) ≡ k - user = omega arith in
        ap (λ j. (payload_start x start + 8 * j) / 8) m ∙ eighths (payload_start x start) (k - user)

-- ---- a port of the plan

module _ (plan : WirePlan) (p : Setting) (i slot : ℕ) (d : PlanPort) (is : IsPlan plan) (setting : IsSettingOf plan p)
    (h : i < length plan.ports.items) where
  abbrev q : PlanPort
  q = get_or plan.ports.items i d

  abbrev n : ℕ
  n = number_at plan i

  named : number_at plan i ≡ (get_or plan.ports.items i d).number
  named = get_or-map (λ (q : PlanPort). q.number) plan.ports.items i d 0 h

  found : port_of plan (number_at plan i) ≡ Some (get_or plan.ports.items i d)
  found = ap (λ k. find (λ (q : PlanPort). q.number == k) plan.ports.items) named ∙ find_at plan.ports.items i d is.numbers h

  planned : IsAsPlanned (get_or plan.ports.items i d) (p.port (number_at plan i))
  planned = subst (λ k. IsAsPlanned (get_or plan.ports.items i d) (p.port k)) (sym named) (each_planned p.port plan.ports.items setting.is_for.ports i d h)

  abbrev details : MessageTypeDetails
  details = details_of plan (get_or plan.ports.items i d).role

  shape : IsShapeOf (details_of plan (get_or plan.ports.items i d).role) (get_or plan.ports.items i d).role (port_shape p (number_at plan i))
  shape =
      subst (λ r. IsShapeOf (details_of plan (get_or plan.ports.items i d).role) (get_or plan.ports.items i d).role (shape_of p.limits r))
      (sym planned.role) (setting.is_for.shapes (get_or plan.ports.items i d).role)

  abbrev words : ℕ
  words = (get_or plan.ports.items i d).slot_words

  size_is : message_size (port_shape p (number_at plan i)) (p.port (number_at plan i)).longest ≡ 8 * (get_or plan.ports.items i d).slot_words
  size_is =
      ap (λ k. message_size (port_shape p (number_at plan i)) k) planned.longest
      ∙ (rw (shape.header_part, shape.user_part, shape.element_part) (is.slots i d h))

  start_is : slot * message_size (port_shape p (number_at plan i)) (p.port (number_at plan i)).longest ≡ 8 * slot_place (get_or plan.ports.items i d).slot_words slot
  start_is = ap (λ k. slot * k) size_is ∙ turned slot (get_or plan.ports.items i d).slot_words

  pub user_words : (details_of plan (get_or plan.ports.items i d).role).user_header.size / 8 ≡ length (port_shape p (number_at plan i)).user
  user_words = let e = shape.user in omega arith

  abbrev X : Shape
  X = port_shape p (number_at plan i)

  -- where the slot begins, in bytes
  abbrev start : ℕ
  start = slot * message_size (port_shape p (number_at plan i)) (p.port (number_at plan i)).longest

  part_there : (part : MessagePart) → part_start plan (number_at plan i) slot part
      ≡ word_place (layout_of plan) (number_at plan i) (part_byte (details_of plan (get_or plan.ports.items i d).role) (8 * slot_place (get_or plan.ports.items i d).slot_words slot) part / 8)
  part_there part =
      ap (λ o. word_place (layout_of plan) (number_at plan i)
      (part_place (details_of plan (option_map_or (λ (q : PlanPort). q.role) o Client)) (option_map_or (λ (q : PlanPort). q.slot_words) o 0) slot part)) found

  user_is : part_byte (details_of plan (get_or plan.ports.items i d).role) (8 * slot_place (get_or plan.ports.items i d).slot_words slot) UserHeader
      ≡ user_start (port_shape p (number_at plan i)) start
  user_is = rw (start_is, shape.header_part, shape.user_part) refl

  payload_is : part_byte (details_of plan (get_or plan.ports.items i d).role) (8 * slot_place (get_or plan.ports.items i d).slot_words slot) Payload
      ≡ payload_start (port_shape p (number_at plan i)) start
  payload_is = rw (start_is, shape.header_part, shape.user_part, shape.element_part) refl

  user_at : part_start plan (number_at plan i) slot UserHeader
      ≡ word_place p.layout (number_at plan i) (user_start (port_shape p (number_at plan i)) start / 8)
  user_at =
      part_there UserHeader ∙ ap (λ byte. word_place (layout_of plan) (number_at plan i) (byte / 8)) user_is
      ∙ ap (λ (l : WireLayout). word_place l (number_at plan i) (user_start (port_shape p (number_at plan i)) start / 8)) (sym setting.layout)

  payload_at : part_start plan (number_at plan i) slot Payload
      ≡ word_place p.layout (number_at plan i) (payload_start (port_shape p (number_at plan i)) start / 8)
  payload_at =
      part_there Payload ∙ ap (λ byte. word_place (layout_of plan) (number_at plan i) (byte / 8)) payload_is
      ∙ ap (λ (l : WireLayout). word_place l (number_at plan i) (payload_start (port_shape p (number_at plan i)) start / 8)) (sym setting.layout)

  abbrev places : ℕ → MessagePlaces
  places count = record {
    user = part_start plan (number_at plan i) slot UserHeader;
    user_count = count;
    payload = part_start plan (number_at plan i) slot Payload;
  }

  word_there : (k : ℕ) → word_at (places (length (port_shape p (number_at plan i)).user)) k
      ≡ word_place p.layout (number_at plan i) (region_word p (number_at plan i) slot (header_length (p.port (number_at plan i)).role + k))
  word_there k =
      ap₂ (λ a b. if nat_lt k (length (port_shape p (number_at plan i)).user) then a + k else b + (k - length (port_shape p (number_at plan i)).user)) user_at payload_at
      ∙ behind (nat_lt k (length (port_shape p (number_at plan i)).user)) (piece_place p.layout.sizes (Region (number_at plan i)))
      (user_start (port_shape p (number_at plan i)) start / 8) (payload_start (port_shape p (number_at plan i)) start / 8) k (length (port_shape p (number_at plan i)).user)
      ∙ ap (λ j. piece_place p.layout.sizes (Region (number_at plan i)) + j)
      (sym (word_behind (port_shape p (number_at plan i)) (header_length (p.port (number_at plan i)).role) (length (port_shape p (number_at plan i)).user) start k))

  pub stand_there : (e : Entry) (m : MessagePlaces) → m.user ≡ part_start plan (number_at plan i) slot UserHeader
      → m.user_count ≡ (details_of plan (get_or plan.ports.items i d).role).user_header.size / 8
      → m.payload ≡ part_start plan (number_at plan i) slot Payload
      → e.sender ≡ number_at plan i → e.slot ≡ slot → StandAt p e m (words_to_read p e)
  stand_there e m user count payload sender at = record {
    all = refl;
    places = λ k low.
        ap (λ a. if nat_lt k m.user_count then a + k else m.payload + (k - m.user_count)) user
        ∙ ap (λ b. if nat_lt k m.user_count then part_start plan (number_at plan i) slot UserHeader + k else b + (k - m.user_count)) payload
        ∙ ap (λ c. word_at (places c) k) (count ∙ user_words) ∙ word_there k
        ∙ sym (ap₂ (λ n s. word_place p.layout n (region_word p n s (header_length (p.port n).role + k))) sender at);
  }

  payload_word : (k : ℕ) → part_start plan (number_at plan i) slot Payload + k
      ≡ word_place p.layout (number_at plan i)
      (region_word p (number_at plan i) slot (header_length (p.port (number_at plan i)).role + length (port_shape p (number_at plan i)).user + k))
  payload_word k =
      let not_before : nat_lt (length (port_shape p (number_at plan i)).user + k) (length (port_shape p (number_at plan i)).user) ≡ false =
      not_below (length (port_shape p (number_at plan i)).user) k in
      let turn : header_length (p.port (number_at plan i)).role + length (port_shape p (number_at plan i)).user + k
      ≡ header_length (p.port (number_at plan i)).role + (length (port_shape p (number_at plan i)).user + k) = omega arith in
      let less : length (port_shape p (number_at plan i)).user + k - length (port_shape p (number_at plan i)).user ≡ k = omega arith in
      ap (λ a. a + k) payload_at
      ∙ joined (piece_place p.layout.sizes (Region (number_at plan i))) (payload_start (port_shape p (number_at plan i)) start / 8) k
      ∙ ap (λ j. piece_place p.layout.sizes (Region (number_at plan i)) + (payload_start (port_shape p (number_at plan i)) start / 8 + j)) (sym less)
      ∙ ap (λ (c : Bool). piece_place p.layout.sizes (Region (number_at plan i))
      + (if c then user_start (port_shape p (number_at plan i)) start / 8 + (length (port_shape p (number_at plan i)).user + k)
      else payload_start (port_shape p (number_at plan i)) start / 8 + (length (port_shape p (number_at plan i)).user + k - length (port_shape p (number_at plan i)).user))) (sym not_before)
      ∙ ap (λ j. piece_place p.layout.sizes (Region (number_at plan i)) + j)
      (sym (word_behind (port_shape p (number_at plan i)) (header_length (p.port (number_at plan i)).role) (length (port_shape p (number_at plan i)).user) start (length (port_shape p (number_at plan i)).user + k)))
      ∙ ap (λ j. word_place p.layout (number_at plan i) (region_word p (number_at plan i) slot j)) (sym turn)

  pub payload_there : (e : Entry) (place count : ℕ) → place ≡ part_start plan (number_at plan i) slot Payload
      → e.port ≡ number_at plan i → e.slot ≡ slot → IsPayloadAt p e place count
  payload_there e place count is port at k low =
      ap (λ a. a + k) is ∙ payload_word k
      ∙ sym (ap₂ (λ n s. word_place p.layout n (region_word p n s (words_before_payload p n + k))) port at)
