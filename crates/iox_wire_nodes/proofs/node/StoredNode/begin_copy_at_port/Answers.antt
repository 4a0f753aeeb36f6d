use Rattle.std.proofs.Common.{rules, ◌≡◌, ◌*◌, ◌/◌, None, [], refl, ap, ap₂, sym, ◌∙◌}
use Rattle.iox_model.specs.declared.call.Call.TheVariants.{SendCopy}
use Rattle.iox_model.specs.declared.call.WireCall.TheVariants.{Port}
use Rattle.iox_model.specs.declared.kind.Role.{Role}
use Rattle.iox_model.specs.declared.kind.Role.TheVariants.{Client}
use Rattle.iox_model.specs.Commands.{Payload}
use Rattle.iox_wire_begins.specs.Plans.{details_of, number_at, role_of}
use Rattle.iox_wire_begins.specs.HandleCalls.{refusal_in}
use Rattle.iox_wire_begins.specs.Begins.{begins_at_port, refusal_at}
use Rattle.iox_wire_nodes.specs.Calls.{payload_with}
use Rattle.iox_wire_nodes.specs.Nodes.{seat_in}
use Rattle.iox_wire_nodes.proofs.BesideLemmas.{copied_request_beside, next_number_is}
use Rattle.iox_wire_nodes.proofs.NameLemmas.{copies_as_client, elements_planned, port_of_role, role_there_is}
use Rattle.iox_wire_begins.specs.Lendings.{copies_request}
use Rattle.iox_wire_nodes.proofs.ReadyLemmas.{ready_to_copy_request}
use Rattle.iox_wire_nodes.proofs.RoomsKept.{keeps_copies}
use Rattle.iox_wire_nodes.proofs.node.StoredNode.begin_copy_at_port.Goals as goal

-- a payload of that role
abbrev of_role : Role → Payload
of_role role = record { role = role; elements = None; words = [] }

pub begin_request_copy-requires-clause-client : goal.begin_request_copy-requires-clause-client
begin_request_copy-requires-clause-client c = port_of_role c.args.map.now c.plan-plan.ensures.plan c.args.port c.args.number Client c.requires.within c.requires.there (copies_as_client c.args.number (of_role c.args.role) (role_of c.args.map.now c.args.number) (c.in_ok-name_at_port.ensures.kind c.args.number (of_role c.args.role) refl)).0

pub begin_request_copy-requires-clause-whole : goal.begin_request_copy-requires-clause-whole
begin_request_copy-requires-clause-whole c k is =
    c.elements_in-elements.ensures.whole k is
    ∙ ap (λ r. k * ((details_of c.args.map.now r).payload.size / 8))
    ((copies_as_client c.args.number (of_role c.args.role) (role_of c.args.map.now c.args.number) (c.in_ok-name_at_port.ensures.kind c.args.number (of_role c.args.role) refl)).1
    ∙ sym (role_there_is c.args.map.now c.plan-plan.ensures.plan Client c.args.port (port_of_role c.args.map.now c.plan-plan.ensures.plan c.args.port c.args.number Client c.requires.within c.requires.there (copies_as_client c.args.number (of_role c.args.role) (role_of c.args.map.now c.args.number) (c.in_ok-name_at_port.ensures.kind c.args.number (of_role c.args.role) refl)).0)))

pub returns-in_err-name_at_port-clause-refused : goal.returns-in_err-name_at_port-clause-refused
returns-in_err-name_at_port-clause-refused c p with =
    let known : refusal_at p (seat_in c.args.self.now) (Port (SendCopy c.args.number (payload_with p c.args.role c.args.words.now))) ≡ refusal_in c.in_err-name_at_port.field-0.0 =
    c.in_err-name_at_port.ensures.refused p (payload_with p c.args.role c.args.words.now) with refl in
    search (rules, known)

pub returns-clause-begun : goal.returns-clause-begun
returns-clause-begun c p with =
    copied_request_beside p (Port (SendCopy c.args.number (payload_with p c.args.role c.args.words.now))) (λ x. begins_at_port p x (SendCopy c.args.number (payload_with p c.args.role c.args.words.now)) (p.port c.args.number))
    c.self.view_is c.in_ok-name_at_port.ensures.own (c.in_ok-name_at_port.ensures.allowed p (payload_with p c.args.role c.args.words.now) with refl) (c.in_ok-name_at_port.ensures.begins p (payload_with p c.args.role c.args.words.now) with)
    c.begin_request_copy.new.seat c.begin_request_copy.new.copying
    (c.begin_request_copy.ensures.begun p with (c.next_number-next.ensures ∙ next_number_is c.args.terms.now p c.self.view_is with.first_number)
    ∙ ap₂ (λ k e. copies_request p c.self.inside.seat.seat (p.port k) e c.args.words.now) c.requires.there
    (c.elements_in-elements.ensures.elements ∙ elements_planned c.args.map.now c.args.terms.now p with c.args.role c.args.words.now))
    (λ of_slot. c.begin_request_copy.ensures.aimed p with (c.next_number-next.ensures ∙ next_number_is c.args.terms.now p c.self.view_is with.first_number) of_slot)
    (ready_to_copy_request p _ c.begin_request_copy.new.seat c.begin_request_copy.new.copying c.next_number-next.result (number_at c.args.map.now c.args.port)
    c.begin_request_copy.ensures.leaves c.begin_request_copy.ensures.may (c.next_number-next.ensures ∙ next_number_is c.args.terms.now p c.self.view_is with.first_number))

pub returns-clause-rooms : goal.returns-clause-rooms
returns-clause-rooms c = keeps_copies c.self.view_is c.begin_request_copy.new.seat c.begin_request_copy.new.copying c.begin_request_copy.ensures.leaves.room.rooms c.begin_request_copy.ensures.rooms c.begin_request_copy.ensures.targets

pub returns-clause-role : goal.returns-clause-role
returns-clause-role c = (copies_as_client c.args.number (of_role c.args.role) (role_of c.args.map.now c.args.number) (c.in_ok-name_at_port.ensures.kind c.args.number (of_role c.args.role) refl)).1
