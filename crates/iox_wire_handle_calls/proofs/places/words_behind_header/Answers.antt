use Rattle.std.proofs.Common.{◌≡◌, ℕ, ◌+◌, ◌*◌, ◌/◌, ◌<◌, ◌^◌, get_or, length, ap, ap₂, sym, ◌∙◌, arith}
use Rattle.iox_model.specs.declared.kind.Role.{Role}
use Rattle.iox_types.specs.declared.message_type_details.MessageTypeDetails.{MessageTypeDetails}
use Rattle.iox_wire_stops.specs.PlanPort.{PlanPort}
use Rattle.iox_wire_stops.specs.WirePlan.{WirePlan}
use Rattle.iox_wire_stops.specs.Plans.{details_of, number_at, role_of}
use Rattle.iox_wire_stops.specs.Tables.{port_shape}
use Rattle.iox_wire_handle_calls.specs.PlacedHandles.{words_behind_header}
use Rattle.iox_wire_handle_calls.proofs.MemoryLemmas.{read_there, role_there}
use Rattle.iox_wire_handle_calls.proofs.places.words_behind_header.Goals as goal

details_there : (c : goal.After-size-2) → c.details-details.result.now ≡ details_of c.args.map.now (role_of c.args.map.now (number_at c.args.map.now c.args.port))
details_there c =
    c.details-details.ensures ∙ ap₂ (λ (plan : WirePlan) (r : Role). details_of plan r) c.plan-plan.ensures.value
    (ap (λ (q : PlanPort). q.role) c.index.ensures
    ∙ ap (λ (plan : WirePlan). (get_or plan.ports.items c.args.port c.index.result.now).role) c.plan-plan.ensures.value
    ∙ sym (role_there c.args.map.now c.args.port c.args.slot c.index.result.now c.plan-plan.ensures.plan c.requires.there))

words_there : (c : goal.After-size-2) → c.size.result / 8 + c.args.elements * (c.size-2.result / 8)
    ≡ words_behind_header c.args.map.now (number_at c.args.map.now c.args.port) c.args.elements
words_there c =
    ap₂ (λ (a b : ℕ). a / 8 + c.args.elements * (b / 8))
    (c.size.ensures ∙ ap (λ (t : MessageTypeDetails). t.user_header.size) (details_there c))
    (c.size-2.ensures ∙ ap (λ (t : MessageTypeDetails). t.payload.size) (details_there c))

pub overflow_mul-result : goal.overflow_mul-result
overflow_mul-result c =
    let e : c.size.result / 8 + c.args.elements * (c.size-2.result / 8)
    ≡ words_behind_header c.args.map.now (number_at c.args.map.now c.args.port) c.args.elements = words_there c in
    let f : words_behind_header c.args.map.now (number_at c.args.map.now c.args.port) c.args.elements < 2 ^ 64 = c.requires.fits in
    omega (arith, e, f)

pub overflow_add-result : goal.overflow_add-result
overflow_add-result c =
    let e : c.size.result / 8 + c.args.elements * (c.size-2.result / 8)
    ≡ words_behind_header c.args.map.now (number_at c.args.map.now c.args.port) c.args.elements = words_there c in
    let f : words_behind_header c.args.map.now (number_at c.args.map.now c.args.port) c.args.elements < 2 ^ 64 = c.requires.fits in
    omega (arith, e, f)

pub returns-clause-words : goal.returns-clause-words
returns-clause-words c = words_there c

pub returns-clause-read : goal.returns-clause-read
returns-clause-read c p e setting sender elements =
    words_there c
    ∙ read_there c.args.map.now p c.args.port c.args.slot c.args.elements c.index.result.now c.plan-plan.ensures.plan setting c.requires.there
    ∙ sym (ap₂ (λ (n k : ℕ). length (port_shape p n).user + k * (port_shape p n).width) sender elements)
