use Rattle.std.proofs.Common.{◌≡◌, ◌/◌, ℕ, get_or, ap, ap₂, ◌∙◌}
use Rattle.iox_model.specs.declared.kind.Role.{Role}
use Rattle.iox_types.specs.declared.message_type_details.MessageTypeDetails.{MessageTypeDetails}
use Rattle.iox_word_map.specs.MessageWords.{in_words}
use Rattle.iox_wire_messages.specs.WirePlan.{WirePlan}
use Rattle.iox_wire_messages.specs.Plans.{details_of}
use Rattle.iox_wire_ways.specs.PlannedSlots.{planned_slots, role_there}
use Rattle.iox_wire_ways.proofs.HeaderLemmas.{PortFacts, port_facts}
use Rattle.iox_wire_ways.proofs.SlotLemmas.{header_told, role_of_port, slot_below, slots_are}
use Rattle.iox_wire_ways.proofs.slots.planned.Goals as goal

pub returns : goal.returns
returns c =
    let same : c.index-at.result.now ≡ get_or c.args.map.now.ports.items c.args.port c.index-at.result.now =
    c.index-at.ensures ∙ ap (λ (plan : WirePlan). get_or plan.ports.items c.args.port c.index-at.result.now) c.plan-plan.ensures.value in
    let facts : PortFacts c.args.map.now c.args.port c.index-at.result.now =
    port_facts c.args.map.now c.args.port c.index-at.result.now c.plan-plan.ensures.plan (slot_below c.args.map.now c.args.port c.requires.slot) same in
    let role : c.index-at.result.now.role ≡ role_there c.args.map.now c.args.port =
    role_of_port c.args.map.now c.args.port c.index-at.result.now c.plan-plan.ensures.plan (slot_below c.args.map.now c.args.port c.requires.slot) same in
    let details : c.details-details.result.now ≡ details_of c.args.map.now (role_there c.args.map.now c.args.port) =
    c.details-details.ensures ∙ ap₂ (λ (plan : WirePlan) (r : Role). details_of plan r) c.plan-plan.ensures.value role in
    slots_are (planned_slots c.args.map.now c.args.port) _ _ _ _ _ _
    c.region.ensures facts.pool facts.words
    (header_told c.args.map.now c.plan-plan.ensures.plan c.args.port c.requires.slot c.requires.header _
    (ap (λ (n : ℕ). n / 8) (c.size.ensures ∙ ap (λ (t : MessageTypeDetails). t.header.size) details)))
    (ap (λ (n : ℕ). n / 8) (c.size-2.ensures ∙ ap (λ (t : MessageTypeDetails). t.user_header.size) details))
    (c.in_words.ensures ∙ ap in_words (c.alignment.ensures.value ∙ ap (λ (t : MessageTypeDetails). t.user_header.alignment) details))
