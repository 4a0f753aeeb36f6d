use Rattle.std.proofs.Common.{◌≡◌, ◌<◌, ◌≤◌, ◌^◌, get_or, ap, ap₂, ◌∙◌, arith}
use Rattle.iox_model.specs.declared.kind.Role.{Role}
use Rattle.iox_types.specs.declared.message_type_details.MessageTypeDetails.{MessageTypeDetails}
use Rattle.iox_word_map.specs.MessageWords.{in_words}
use Rattle.iox_wire_messages.specs.WirePlan.{WirePlan}
use Rattle.iox_wire_messages.specs.Plans.{details_of, number_at, slot_words_of}
use Rattle.iox_wire_copies.specs.SlotPlaces.{SlotPlaces}
use Rattle.iox_wire_ways.specs.PlannedSlots.{planned_slots, role_there, words_in_front}
use Rattle.iox_wire_ways.proofs.SlotLemmas.{front_fits, role_of_port, slot_below, slot_words_fit}
use Rattle.iox_wire_ways.proofs.slots.words_before.Goals as goal

pub overflow_add-result : goal.overflow_add-result
overflow_add-result c =
    let header : c.planned-slots.result.header ≡ (planned_slots c.args.map.now c.args.port).header = ap (λ (t : SlotPlaces). t.header) c.planned-slots.ensures in
    let user : c.planned-slots.result.user ≡ (planned_slots c.args.map.now c.args.port).user = ap (λ (t : SlotPlaces). t.user) c.planned-slots.ensures in
    let step : c.planned-slots.result.step ≡ (planned_slots c.args.map.now c.args.port).step = ap (λ (t : SlotPlaces). t.step) c.planned-slots.ensures in
    let front : words_in_front c.args.map.now c.args.port ≤ slot_words_of c.args.map.now (number_at c.args.map.now c.args.port) =
    front_fits c.args.map.now c.plan-plan.ensures.plan c.args.port c.requires.slot c.requires.header in
    let words : slot_words_of c.args.map.now (number_at c.args.map.now c.args.port) < 2 ^ 64 =
    slot_words_fit c.args.map.now c.plan-plan.ensures.plan c.args.port c.requires.slot c.requires.header c.total-total.result c.total-total.ensures c.total-total.type_inv in
    omega (arith, header, user, step, front, words)

pub overflow_add-result-2 : goal.overflow_add-result-2
overflow_add-result-2 c =
    let header : c.planned-slots.result.header ≡ (planned_slots c.args.map.now c.args.port).header = ap (λ (t : SlotPlaces). t.header) c.planned-slots.ensures in
    let user : c.planned-slots.result.user ≡ (planned_slots c.args.map.now c.args.port).user = ap (λ (t : SlotPlaces). t.user) c.planned-slots.ensures in
    let step : c.planned-slots.result.step ≡ (planned_slots c.args.map.now c.args.port).step = ap (λ (t : SlotPlaces). t.step) c.planned-slots.ensures in
    let front : words_in_front c.args.map.now c.args.port ≤ slot_words_of c.args.map.now (number_at c.args.map.now c.args.port) =
    front_fits c.args.map.now c.plan-plan.ensures.plan c.args.port c.requires.slot c.requires.header in
    let words : slot_words_of c.args.map.now (number_at c.args.map.now c.args.port) < 2 ^ 64 =
    slot_words_fit c.args.map.now c.plan-plan.ensures.plan c.args.port c.requires.slot c.requires.header c.total-total.result c.total-total.ensures c.total-total.type_inv in
    omega (arith, header, user, step, front, words)

pub overflow_add-result-3 : goal.overflow_add-result-3
overflow_add-result-3 c =
    let same : c.index.result.now ≡ get_or c.args.map.now.ports.items c.args.port c.index.result.now =
    c.index.ensures ∙ ap (λ (plan : WirePlan). get_or plan.ports.items c.args.port c.index.result.now) c.plan-plan.ensures.value in
    let role : c.index.result.now.role ≡ role_there c.args.map.now c.args.port =
    role_of_port c.args.map.now c.args.port c.index.result.now c.plan-plan.ensures.plan (slot_below c.args.map.now c.args.port c.requires.slot) same in
    let details : c.details-details.result.now ≡ details_of c.args.map.now (role_there c.args.map.now c.args.port) =
    c.details-details.ensures ∙ ap₂ (λ (plan : WirePlan) (r : Role). details_of plan r) c.plan-plan.ensures.value role in
    let behind : c.in_words.result ≡ in_words (details_of c.args.map.now (role_there c.args.map.now c.args.port)).payload.alignment =
    c.in_words.ensures ∙ ap in_words (c.alignment.ensures.value ∙ ap (λ (t : MessageTypeDetails). t.payload.alignment) details) in
    let header : c.planned-slots.result.header ≡ (planned_slots c.args.map.now c.args.port).header = ap (λ (t : SlotPlaces). t.header) c.planned-slots.ensures in
    let user : c.planned-slots.result.user ≡ (planned_slots c.args.map.now c.args.port).user = ap (λ (t : SlotPlaces). t.user) c.planned-slots.ensures in
    let step : c.planned-slots.result.step ≡ (planned_slots c.args.map.now c.args.port).step = ap (λ (t : SlotPlaces). t.step) c.planned-slots.ensures in
    let front : words_in_front c.args.map.now c.args.port ≤ slot_words_of c.args.map.now (number_at c.args.map.now c.args.port) =
    front_fits c.args.map.now c.plan-plan.ensures.plan c.args.port c.requires.slot c.requires.header in
    let words : slot_words_of c.args.map.now (number_at c.args.map.now c.args.port) < 2 ^ 64 =
    slot_words_fit c.args.map.now c.plan-plan.ensures.plan c.args.port c.requires.slot c.requires.header c.total-total.result c.total-total.ensures c.total-total.type_inv in
    omega (arith, header, user, step, behind, front, words)

pub returns-clause-front : goal.returns-clause-front
returns-clause-front c =
    let same : c.index.result.now ≡ get_or c.args.map.now.ports.items c.args.port c.index.result.now =
    c.index.ensures ∙ ap (λ (plan : WirePlan). get_or plan.ports.items c.args.port c.index.result.now) c.plan-plan.ensures.value in
    let role : c.index.result.now.role ≡ role_there c.args.map.now c.args.port =
    role_of_port c.args.map.now c.args.port c.index.result.now c.plan-plan.ensures.plan (slot_below c.args.map.now c.args.port c.requires.slot) same in
    let details : c.details-details.result.now ≡ details_of c.args.map.now (role_there c.args.map.now c.args.port) =
    c.details-details.ensures ∙ ap₂ (λ (plan : WirePlan) (r : Role). details_of plan r) c.plan-plan.ensures.value role in
    let behind : c.in_words.result ≡ in_words (details_of c.args.map.now (role_there c.args.map.now c.args.port)).payload.alignment =
    c.in_words.ensures ∙ ap in_words (c.alignment.ensures.value ∙ ap (λ (t : MessageTypeDetails). t.payload.alignment) details) in
    let header : c.planned-slots.result.header ≡ (planned_slots c.args.map.now c.args.port).header = ap (λ (t : SlotPlaces). t.header) c.planned-slots.ensures in
    let user : c.planned-slots.result.user ≡ (planned_slots c.args.map.now c.args.port).user = ap (λ (t : SlotPlaces). t.user) c.planned-slots.ensures in
    let step : c.planned-slots.result.step ≡ (planned_slots c.args.map.now c.args.port).step = ap (λ (t : SlotPlaces). t.step) c.planned-slots.ensures in
    let front : words_in_front c.args.map.now c.args.port ≤ slot_words_of c.args.map.now (number_at c.args.map.now c.args.port) =
    front_fits c.args.map.now c.plan-plan.ensures.plan c.args.port c.requires.slot c.requires.header in
    let words : slot_words_of c.args.map.now (number_at c.args.map.now c.args.port) < 2 ^ 64 =
    slot_words_fit c.args.map.now c.plan-plan.ensures.plan c.args.port c.requires.slot c.requires.header c.total-total.result c.total-total.ensures c.total-total.type_inv in
    omega (arith, header, user, step, behind)

pub returns-clause-within : goal.returns-clause-within
returns-clause-within c =
    let same : c.index.result.now ≡ get_or c.args.map.now.ports.items c.args.port c.index.result.now =
    c.index.ensures ∙ ap (λ (plan : WirePlan). get_or plan.ports.items c.args.port c.index.result.now) c.plan-plan.ensures.value in
    let role : c.index.result.now.role ≡ role_there c.args.map.now c.args.port =
    role_of_port c.args.map.now c.args.port c.index.result.now c.plan-plan.ensures.plan (slot_below c.args.map.now c.args.port c.requires.slot) same in
    let details : c.details-details.result.now ≡ details_of c.args.map.now (role_there c.args.map.now c.args.port) =
    c.details-details.ensures ∙ ap₂ (λ (plan : WirePlan) (r : Role). details_of plan r) c.plan-plan.ensures.value role in
    let behind : c.in_words.result ≡ in_words (details_of c.args.map.now (role_there c.args.map.now c.args.port)).payload.alignment =
    c.in_words.ensures ∙ ap in_words (c.alignment.ensures.value ∙ ap (λ (t : MessageTypeDetails). t.payload.alignment) details) in
    let header : c.planned-slots.result.header ≡ (planned_slots c.args.map.now c.args.port).header = ap (λ (t : SlotPlaces). t.header) c.planned-slots.ensures in
    let user : c.planned-slots.result.user ≡ (planned_slots c.args.map.now c.args.port).user = ap (λ (t : SlotPlaces). t.user) c.planned-slots.ensures in
    let step : c.planned-slots.result.step ≡ (planned_slots c.args.map.now c.args.port).step = ap (λ (t : SlotPlaces). t.step) c.planned-slots.ensures in
    let front : words_in_front c.args.map.now c.args.port ≤ slot_words_of c.args.map.now (number_at c.args.map.now c.args.port) =
    front_fits c.args.map.now c.plan-plan.ensures.plan c.args.port c.requires.slot c.requires.header in
    let words : slot_words_of c.args.map.now (number_at c.args.map.now c.args.port) < 2 ^ 64 =
    slot_words_fit c.args.map.now c.plan-plan.ensures.plan c.args.port c.requires.slot c.requires.header c.total-total.result c.total-total.ensures c.total-total.type_inv in
    omega (arith, header, user, step, behind, front)
