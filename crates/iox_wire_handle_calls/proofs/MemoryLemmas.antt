-- What stands in the slots of a plan's ports is within the wire.
use Rattle.std.specs.Prelude.{zero, suc}
use Rattle.std.specs.Option.{option_map_or}
use Rattle.std.proofs.Common.{◌≡◌, ℕ, ◌+◌, ◌*◌, ◌/◌, ◌<◌, ◌≤◌, ◌^◌, List, [], ◌∷◌, length, get_or, refl, ap, ap₂, sym, ◌∙◌, arith}
use Rattle.std.proofs.Math.Nat.{add-mul}
use Rattle.std.proofs.lemmas.List.{get_or-map}
use Rattle.iox_model.specs.declared.kind.Role.{Role}
use Rattle.iox_model.specs.declared.kind.Role.TheVariants.{Client, Server}
use Rattle.iox_model.specs.Settings.{shape_of}
use Rattle.iox_types.specs.declared.message_type_details.MessageTypeDetails.{MessageTypeDetails}
use Rattle.iox_word_map.specs.declared.message_part.MessagePart.{MessagePart}
use Rattle.iox_word_map.specs.MessageWords.{IsInWords, part_place, part_word, part_words}
use Rattle.iox_word_map.specs.WordMaps.{total_words}
use Rattle.iox_word_map.proofs.Messages.{parts_are_computed, words_are_in_their_slot}
use Rattle.iox_wire_stops.specs.PlanPort.{PlanPort}
use Rattle.iox_wire_stops.specs.WirePlan.{WirePlan}
use Rattle.iox_wire_stops.specs.PortPlaces.{PortPlaces}
use Rattle.iox_wire_stops.specs.MapFields.{places_before}
use Rattle.iox_wire_stops.specs.Plans.{IsPlan, IsSlotAt, details_of, number_at, part_start, role_of, sizes_of}
use Rattle.iox_wire_stops.specs.PlansOf.{IsSettingOf, IsShapeOf}
use Rattle.iox_wire_stops.proofs.Planned.{each_planned}
use Rattle.iox_wire_stops.specs.Tables.{Setting, port_shape}
use Rattle.iox_wire_stops.specs.Aims.{AreInMemory}
use Rattle.iox_wire_stops.specs.MessagePlaces.{MessagePlaces}
use Rattle.iox_wire_handle_calls.specs.PlacedHandles.{words_behind_header}
use Rattle.iox_wire_stops.proofs.PairLemmas.{index_there, one_of}
use Rattle.iox_wire_stops.proofs.PlanLemmas.{port_is}
use Rattle.iox_wire_stops.proofs.SlotLemmas.{SlotFacts, part_is, slot_facts}

self_there : (ps : List PlanPort) (i : ℕ) (d : PlanPort) → i < length ps → get_or ps i d ≡ get_or ps i (get_or ps i d)
self_there [] i d low = absurd (omega (arith, low))
self_there (p ∷ ps) zero d low = refl
self_there (p ∷ ps) (suc i) d low = self_there ps i d (omega (arith, low))

whole : (plan : WirePlan) → IsPlan plan → (role : Role) → IsInWords (details_of plan role)
whole plan is Client = is.requests
whole plan is Server = is.responses

pub port_there : (plan : WirePlan) (port slot : ℕ) → IsSlotAt plan port slot → port < length plan.ports.items
port_there plan port slot inside = index_there PlanPort (λ q. slot < q.pool) plan.ports.items port inside

pub role_there : (plan : WirePlan) (port slot : ℕ) (d : PlanPort) → IsPlan plan → IsSlotAt plan port slot
    → role_of plan (number_at plan port) ≡ (get_or plan.ports.items port d).role
role_there plan port slot d is inside = ap (λ o. option_map_or (λ q. q.role) o Client) (port_is plan is.numbers port d (port_there plan port slot inside))

pub part_within : (plan : WirePlan) (port slot : ℕ) (part : MessagePart) → IsPlan plan → total_words (sizes_of plan) < 2 ^ 64 → IsSlotAt plan port slot
    → part_start plan (number_at plan port) slot part ≤ total_words (sizes_of plan)
part_within plan port slot part is fits inside =
    let low : port < length plan.ports.items = port_there plan port slot inside in
    let d : PlanPort = one_of plan.ports.items port low in
    let at : PlanPort = get_or plan.ports.items port d in
    let at_is : at ≡ get_or plan.ports.items port at = self_there plan.ports.items port d low in
    let before : PortPlaces = places_before plan port in
    let facts : SlotFacts plan port slot before.region at.slot_words = slot_facts plan is fits port slot inside at at_is before refl in
    let details : MessageTypeDetails = details_of plan at.role in
    let word : ℕ = part_word details (slot * at.slot_words) part in
    let start : before.region + word ≡ part_start plan (number_at plan port) slot part =
    part_is plan is fits port slot inside at at_is before refl details refl part word refl in
    let place : part_place details at.slot_words slot part ≡ word = parts_are_computed details at.slot_words slot part (whole plan is at.role) in
    let upper : part_place details at.slot_words slot part + part_words details 0 part ≤ (slot + 1) * at.slot_words =
    (words_are_in_their_slot details at.longest at.slot_words slot 0 part (whole plan is at.role) (is.slots port d low) (omega arith)).1 in
    let split : (slot + 1) * at.slot_words ≡ slot * at.slot_words + 1 * at.slot_words = add-mul slot 1 at.slot_words in
    let room : before.region + (slot * at.slot_words + at.slot_words) ≤ total_words (sizes_of plan) = facts.room in
    omega (arith, start, place, upper, split, room)

-- ---- how many words are read

eighth : (a b : ℕ) → a ≡ 8 * b → a / 8 ≡ b
eighth a b is = omega (arith, is)

planned_role : (plan : WirePlan) (p : Setting) (port slot : ℕ) (d : PlanPort) → IsPlan plan → IsSettingOf plan p → IsSlotAt plan port slot
    → (p.port (number_at plan port)).role ≡ role_of plan (number_at plan port)
planned_role plan p port slot d is setting inside =
    let low : port < length plan.ports.items = port_there plan port slot inside in
    ap (λ (n : ℕ). (p.port n).role) (get_or-map (λ (q : PlanPort). q.number) plan.ports.items port d 0 low)
    ∙ (each_planned p.port plan.ports.items setting.is_for.ports port d low).role
    ∙ sym (role_there plan port slot d is inside)

pub read_there : (plan : WirePlan) (p : Setting) (port slot elements : ℕ) (d : PlanPort) → IsPlan plan → IsSettingOf plan p → IsSlotAt plan port slot
    → words_behind_header plan (number_at plan port) elements
    ≡ length (port_shape p (number_at plan port)).user + elements * (port_shape p (number_at plan port)).width
read_there plan p port slot elements d is setting inside =
    let role : Role = role_of plan (number_at plan port) in
    let shape : IsShapeOf (details_of plan role) role (shape_of p.limits role) = setting.is_for.shapes role in
    ap₂ (λ (a b : ℕ). a + elements * b) (eighth (details_of plan role).user_header.size (length (shape_of p.limits role).user) shape.user)
    (eighth (details_of plan role).payload.size (shape_of p.limits role).width shape.element)
    ∙ ap (λ (r : Role). length (shape_of p.limits r).user + elements * (shape_of p.limits r).width) (sym (planned_role plan p port slot d is setting inside))

-- ---- they are in memory

pub in_memory : (total n m : ℕ) → n ≡ m → total + m < 2 ^ 64 → n < 2 ^ 64
in_memory total n m same low = omega (arith, same, low)

pub user_first : (plan : WirePlan) (n elements : ℕ) (m : MessagePlaces) (count : ℕ)
    → total_words (sizes_of plan) + words_behind_header plan n elements < 2 ^ 64
    → m.user_count ≡ (details_of plan (role_of plan n)).user_header.size / 8 → count ≡ words_behind_header plan n elements
    → m.user ≤ total_words (sizes_of plan) → m.payload ≤ total_words (sizes_of plan) → AreInMemory m count
user_first plan n elements m count low first all user payload =
    (omega (arith, low, first, user), omega (arith, low, all, payload))
