use Rattle.std.proofs.Common.{◌≡◌, ◌-◌, ◌≤◌, ℕ, get_or, ap, ap₂, ◌∙◌, arith}
use Rattle.iox_model.specs.declared.kind.Role.{Role}
use Rattle.iox_types.specs.declared.message_type_details.MessageTypeDetails.{MessageTypeDetails}
use Rattle.iox_word_map.specs.MessageWords.{in_words}
use Rattle.iox_wire_messages.specs.WirePlan.{WirePlan}
use Rattle.iox_wire_messages.specs.Plans.{details_of, number_at, slot_words_of}
use Rattle.iox_wire_ways.specs.PlannedSlots.{planned_payloads, role_there}
use Rattle.iox_wire_ways.proofs.HeaderLemmas.{port_facts}
use Rattle.iox_wire_ways.proofs.SlotLemmas.{payloads_are, role_of_port, slot_below}
use Rattle.iox_wire_ways.proofs.slots.planned_behind.Goals as goal

pub overflow_sub-result : goal.overflow_sub-result
overflow_sub-result c =
    let same : c.index-at.result.now ≡ get_or c.args.map.now.ports.items c.args.port c.index-at.result.now =
    c.index-at.ensures ∙ ap (λ (plan : WirePlan). get_or plan.ports.items c.args.port c.index-at.result.now) c.plan-plan.ensures.value in
    let words : c.index-at.result.now.slot_words ≡ slot_words_of c.args.map.now (number_at c.args.map.now c.args.port) =
    (port_facts c.args.map.now c.args.port c.index-at.result.now c.plan-plan.ensures.plan (slot_below c.args.map.now c.args.port c.requires.slot) same).words in
    let inside : c.words_before.result ≤ slot_words_of c.args.map.now (number_at c.args.map.now c.args.port) = c.words_before.ensures.within in
    omega (arith, words, inside)

pub returns : goal.returns
returns c =
    let same : c.index-at.result.now ≡ get_or c.args.map.now.ports.items c.args.port c.index-at.result.now =
    c.index-at.ensures ∙ ap (λ (plan : WirePlan). get_or plan.ports.items c.args.port c.index-at.result.now) c.plan-plan.ensures.value in
    let role : c.index-at.result.now.role ≡ role_there c.args.map.now c.args.port =
    role_of_port c.args.map.now c.args.port c.index-at.result.now c.plan-plan.ensures.plan (slot_below c.args.map.now c.args.port c.requires.slot) same in
    let details : c.details-details.result.now ≡ details_of c.args.map.now (role_there c.args.map.now c.args.port) =
    c.details-details.ensures ∙ ap₂ (λ (plan : WirePlan) (r : Role). details_of plan r) c.plan-plan.ensures.value role in
    let behind : c.in_words.result ≡ in_words (details_of c.args.map.now (role_there c.args.map.now c.args.port)).payload.alignment =
    c.in_words.ensures ∙ ap in_words (c.alignment.ensures.value ∙ ap (λ (t : MessageTypeDetails). t.payload.alignment) details) in
    let words : c.index-at.result.now.slot_words ≡ slot_words_of c.args.map.now (number_at c.args.map.now c.args.port) =
    (port_facts c.args.map.now c.args.port c.index-at.result.now c.plan-plan.ensures.plan (slot_below c.args.map.now c.args.port c.requires.slot) same).words in
    payloads_are (planned_payloads c.args.map.now c.args.port) _ _ behind (ap₂ (λ (a b : ℕ). a - b) words c.words_before.ensures.front)
