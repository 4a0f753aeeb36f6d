use Rattle.std.proofs.Common.{◌≡◌, ℕ, ◌≤◌, ◌/◌, get_or, ap, ap₂, sym, subst, ◌∙◌}
use Rattle.iox_model.specs.declared.kind.Role.{Role}
use Rattle.iox_types.specs.declared.message_type_details.MessageTypeDetails.{MessageTypeDetails}
use Rattle.iox_word_map.specs.WordMaps.{total_words}
use Rattle.iox_word_map.specs.declared.message_part.MessagePart.TheVariants.{Payload, UserHeader}
use Rattle.iox_wire_stops.specs.PlanPort.{PlanPort}
use Rattle.iox_wire_stops.specs.WirePlan.{WirePlan}
use Rattle.iox_wire_stops.specs.Plans.{details_of, sizes_of}
use Rattle.iox_wire_stops.proofs.PlaceLemmas.{stand_there}
use Rattle.iox_wire_handle_calls.proofs.MemoryLemmas.{part_within, port_there, role_there}
use Rattle.iox_wire_handle_calls.proofs.places.message_of.Goals as goal

pub returns-clause-places : goal.returns-clause-places
returns-clause-places c p e setting sender slot =
    let role : c.index.result.now.role ≡ (get_or c.args.map.now.ports.items c.args.port c.index.result.now).role =
    ap (λ (q : PlanPort). q.role) c.index.ensures
    ∙ ap (λ (plan : WirePlan). (get_or plan.ports.items c.args.port c.index.result.now).role) c.plan-plan.ensures.value in
    let details : c.details-details.result.now ≡ details_of c.args.map.now (get_or c.args.map.now.ports.items c.args.port c.index.result.now).role =
    c.details-details.ensures ∙ ap₂ (λ (plan : WirePlan) (r : Role). details_of plan r) c.plan-plan.ensures.value role in
    stand_there c.args.map.now p c.args.port c.args.slot c.index.result.now c.plan-plan.ensures.plan setting
    (port_there c.args.map.now c.args.port c.args.slot c.requires.there) e _
    c.part.ensures (ap (λ (n : ℕ). n / 8) (c.size.ensures ∙ ap (λ (t : MessageTypeDetails). t.user_header.size) details)) c.part-2.ensures sender slot

pub returns-clause-count : goal.returns-clause-count
returns-clause-count c =
    let role : c.index.result.now.role ≡ (get_or c.args.map.now.ports.items c.args.port c.index.result.now).role =
    ap (λ (q : PlanPort). q.role) c.index.ensures
    ∙ ap (λ (plan : WirePlan). (get_or plan.ports.items c.args.port c.index.result.now).role) c.plan-plan.ensures.value in
    ap (λ (n : ℕ). n / 8) (c.size.ensures ∙ ap (λ (t : MessageTypeDetails). t.user_header.size)
    (c.details-details.ensures ∙ ap₂ (λ (plan : WirePlan) (r : Role). details_of plan r) c.plan-plan.ensures.value
    (role ∙ sym (role_there c.args.map.now c.args.port c.args.slot c.index.result.now c.plan-plan.ensures.plan c.requires.there))))

pub returns-clause-user : goal.returns-clause-user
returns-clause-user c =
    subst (λ (place : ℕ). place ≤ total_words (sizes_of c.args.map.now)) (sym c.part.ensures)
    (part_within c.args.map.now c.args.port c.args.slot UserHeader c.plan-plan.ensures.plan c.requires.fits c.requires.there)

pub returns-clause-payload : goal.returns-clause-payload
returns-clause-payload c =
    subst (λ (place : ℕ). place ≤ total_words (sizes_of c.args.map.now)) (sym c.part-2.ensures)
    (part_within c.args.map.now c.args.port c.args.slot Payload c.plan-plan.ensures.plan c.requires.fits c.requires.there)
