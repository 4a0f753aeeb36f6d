use Rattle.std.proofs.Common.{◌≡◌, ℕ, ◌<◌, ◌/◌, get_or, ap, ap₂, ◌∙◌}
use Rattle.iox_model.specs.declared.kind.Role.{Role}
use Rattle.iox_types.specs.declared.message_type_details.MessageTypeDetails.{MessageTypeDetails}
use Rattle.iox_word_places.specs.declared.plan.PlanPort.{PlanPort}
use Rattle.iox_word_places.specs.declared.plan.WirePlan.{WirePlan}
use Rattle.iox_word_places.specs.Plans.{details_of}
use Rattle.iox_word_places.proofs.PairLemmas.{index_there}
use Rattle.iox_wire_messages.proofs.PlaceLemmas.{stand_there}
use Rattle.iox_wire_messages.proofs.message_places.Goals as goal

pub returns : goal.returns
returns c p e setting sender slot =
    let role : c.index.result.now.role ≡ (get_or c.args.map.now.ports.items c.args.port c.index.result.now).role =
    ap (λ (q : PlanPort). q.role) c.index.ensures
    ∙ ap (λ (plan : WirePlan). (get_or plan.ports.items c.args.port c.index.result.now).role) c.plan-plan.ensures.value in
    let details : c.details-details.result.now ≡ details_of c.args.map.now (get_or c.args.map.now.ports.items c.args.port c.index.result.now).role =
    c.details-details.ensures ∙ ap₂ (λ (plan : WirePlan) (r : Role). details_of plan r) c.plan-plan.ensures.value role in
    stand_there c.args.map.now p c.args.port c.args.slot c.index.result.now c.plan-plan.ensures.plan setting
    (index_there PlanPort (λ q. c.args.slot < q.pool) c.args.map.now.ports.items c.args.port c.requires) e _
    c.part.ensures (ap (λ (n : ℕ). n / 8) (c.size.ensures ∙ ap (λ (t : MessageTypeDetails). t.user_header.size) details)) c.part-2.ensures sender slot
