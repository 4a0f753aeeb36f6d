use Rattle.std.proofs.Common.{rules, ◌≡◌, ◌*◌, ◌/◌, None, [], refl, ap, ap₂, sym, ◌∙◌}
use Rattle.iox_model.specs.declared.call.Call.TheVariants.{SendCopy}
use Rattle.iox_model.specs.declared.call.WireCall.TheVariants.{Port}
use Rattle.iox_model.specs.declared.kind.Kind.TheVariants.{ActiveRequest}
use Rattle.iox_model.specs.declared.kind.Role.{Role}
use Rattle.iox_model.specs.declared.kind.Role.TheVariants.{Server}
use Rattle.iox_model.specs.Commands.{Payload}
use Rattle.iox_model.specs.Handles.{same_kind}
use Rattle.iox_model.specs.Messages.{response_way}
use Rattle.iox_wire_begins.specs.Plans.{details_of, number_at}
use Rattle.iox_wire_begins.specs.WirePlans.{HandleStands}
use Rattle.iox_wire_begins.specs.HandleCalls.{refusal_in}
use Rattle.iox_wire_begins.specs.Begins.{begins_at_entry, refusal_at}
use Rattle.iox_wire_nodes.specs.Calls.{payload_with}
use Rattle.iox_wire_nodes.specs.Nodes.{seat_in}
use Rattle.iox_wire_nodes.proofs.BesideLemmas.{copied_response_beside, next_number_is, stands_at}
use Rattle.iox_wire_nodes.proofs.NameLemmas.{copies_to_request, elements_planned, role_there_is}
use Rattle.iox_wire_begins.specs.Lendings.{copies_response}
use Rattle.iox_wire_nodes.proofs.ReadyLemmas.{ready_to_copy_response}
use Rattle.iox_wire_nodes.proofs.RoomsKept.{keeps_response_copies}
use Rattle.iox_wire_nodes.proofs.node.StoredNode.begin_copy_on_handle.Goals as goal

-- a payload of that role
abbrev of_role : Role → Payload
of_role role = record { role = role; elements = None; words = [] }

pub client_place-client-requires-clause-client : goal.client_place-client-requires-clause-client
client_place-client-requires-clause-client c =
    let stands : HandleStands c.args.map.now c.args.self.now.seat.seat.desks c.in_ok-request.request = stands_at c.args.map.now c.args.self.now c.args.number c.in_ok-request.request c.in_ok-request.ensures.found c.requires.handle in
    (stands.states.request (ap (λ k. same_kind k ActiveRequest) (copies_to_request c.args.number (of_role c.args.role) c.in_ok-request.request.kind stands.handle (c.in_ok-request.ensures.suits c.args.number (of_role c.args.role) refl)).0)).2

pub client_place-client-requires-clause-lane : goal.client_place-client-requires-clause-lane
client_place-client-requires-clause-lane c =
    let stands : HandleStands c.args.map.now c.args.self.now.seat.seat.desks c.in_ok-request.request = stands_at c.args.map.now c.args.self.now c.args.number c.in_ok-request.request c.in_ok-request.ensures.found c.requires.handle in
    (stands.states.request (ap (λ k. same_kind k ActiveRequest) (copies_to_request c.args.number (of_role c.args.role) c.in_ok-request.request.kind stands.handle (c.in_ok-request.ensures.suits c.args.number (of_role c.args.role) refl)).0)).3

pub server_place-server-requires : goal.server_place-server-requires
server_place-server-requires c =
    let stands : HandleStands c.args.map.now c.args.self.now.seat.seat.desks c.in_ok-request.request = stands_at c.args.map.now c.args.self.now c.args.number c.in_ok-request.request c.in_ok-request.ensures.found c.requires.handle in
    (stands.states.request (ap (λ k. same_kind k ActiveRequest) (copies_to_request c.args.number (of_role c.args.role) c.in_ok-request.request.kind stands.handle (c.in_ok-request.ensures.suits c.args.number (of_role c.args.role) refl)).0)).1

pub begin_response_copy-requires-clause-own : goal.begin_response_copy-requires-clause-own
begin_response_copy-requires-clause-own c =
    ap₂ (λ a b. response_way a c.in_ok-request.request.lane b) (sym c.client_place-client.ensures.number) (sym c.server_place-server.ensures.number)

pub begin_response_copy-requires-clause-whole : goal.begin_response_copy-requires-clause-whole
begin_response_copy-requires-clause-whole c k is =
    let stands : HandleStands c.args.map.now c.args.self.now.seat.seat.desks c.in_ok-request.request = stands_at c.args.map.now c.args.self.now c.args.number c.in_ok-request.request c.in_ok-request.ensures.found c.requires.handle in
    c.elements_in-elements.ensures.whole k is
    ∙ ap (λ r. k * ((details_of c.args.map.now r).payload.size / 8))
    ((copies_to_request c.args.number (of_role c.args.role) c.in_ok-request.request.kind stands.handle (c.in_ok-request.ensures.suits c.args.number (of_role c.args.role) refl)).1
    ∙ sym (role_there_is c.args.map.now c.plan-plan.ensures.plan Server c.server_place-server.result c.server_place-server.ensures.there))

pub returns-in_err-request-clause-refused : goal.returns-in_err-request-clause-refused
returns-in_err-request-clause-refused c p with =
    let known : refusal_at p (seat_in c.args.self.now) (Port (SendCopy c.args.number (payload_with p c.args.role c.args.words.now))) ≡ refusal_in c.in_err-request.field-0.0 =
    c.in_err-request.ensures.refused p (payload_with p c.args.role c.args.words.now) with.setting refl in
    search (rules, known)

pub returns-clause-begun : goal.returns-clause-begun
returns-clause-begun c p with =
    copied_response_beside p (Port (SendCopy c.args.number (payload_with p c.args.role c.args.words.now))) (λ x. begins_at_entry p x (SendCopy c.args.number (payload_with p c.args.role c.args.words.now)) c.in_ok-request.request)
    c.self.view_is c.in_ok-request.ensures.own (c.in_ok-request.ensures.allowed p (payload_with p c.args.role c.args.words.now) with.setting refl) (c.in_ok-request.ensures.begins p (payload_with p c.args.role c.args.words.now) with.setting)
    c.begin_response_copy.new.seat c.begin_response_copy.new.copying
    (c.begin_response_copy.ensures.begun p with (c.next_number-next.ensures ∙ next_number_is c.args.terms.now p c.self.view_is with.first_number)
    ∙ ap (λ e. copies_response p c.self.inside.seat.seat c.in_ok-request.request e c.args.words.now)
    (c.elements_in-elements.ensures.elements ∙ elements_planned c.args.map.now c.args.terms.now p with c.args.role c.args.words.now))
    (λ of_slot. c.begin_response_copy.ensures.aimed p with (c.next_number-next.ensures ∙ next_number_is c.args.terms.now p c.self.view_is with.first_number) of_slot)
    (ready_to_copy_response p _ c.begin_response_copy.new.seat c.begin_response_copy.new.copying c.next_number-next.result (number_at c.args.map.now c.server_place-server.result)
    c.begin_response_copy.ensures.leaves c.begin_response_copy.ensures.may (c.next_number-next.ensures ∙ next_number_is c.args.terms.now p c.self.view_is with.first_number))

pub returns-clause-rooms : goal.returns-clause-rooms
returns-clause-rooms c = keeps_response_copies c.self.view_is c.begin_response_copy.new.seat c.begin_response_copy.new.copying c.begin_response_copy.ensures.leaves.room.rooms c.begin_response_copy.ensures.rooms

pub returns-clause-role : goal.returns-clause-role
returns-clause-role c =
    let stands : HandleStands c.args.map.now c.args.self.now.seat.seat.desks c.in_ok-request.request = stands_at c.args.map.now c.args.self.now c.args.number c.in_ok-request.request c.in_ok-request.ensures.found c.requires.handle in
    (copies_to_request c.args.number (of_role c.args.role) c.in_ok-request.request.kind stands.handle (c.in_ok-request.ensures.suits c.args.number (of_role c.args.role) refl)).1
