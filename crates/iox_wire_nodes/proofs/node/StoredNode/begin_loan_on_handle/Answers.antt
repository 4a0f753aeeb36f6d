use Rattle.std.proofs.Common.{rules, ◌≡◌, None, [], ap, sym, ◌∙◌}
use Rattle.iox_model.specs.declared.call.Call.TheVariants.{Loan}
use Rattle.iox_model.specs.declared.call.WireCall.TheVariants.{Port}
use Rattle.iox_model.specs.declared.kind.Kind.TheVariants.{ActiveRequest}
use Rattle.iox_model.specs.declared.kind.Role.TheVariants.{Client}
use Rattle.iox_model.specs.Commands.{Payload}
use Rattle.iox_model.specs.Handles.{same_kind}
use Rattle.iox_wire_begins.specs.WirePlans.{HandleStands}
use Rattle.iox_wire_begins.specs.HandleCalls.{refusal_in}
use Rattle.iox_wire_begins.specs.Begins.{begins_at_entry, refusal_at}
use Rattle.iox_wire_nodes.specs.Nodes.{seat_in}
use Rattle.iox_wire_nodes.proofs.BesideLemmas.{lent_beside, next_number_is, stands_at}
use Rattle.iox_wire_nodes.proofs.NameLemmas.{lends_to_request}
use Rattle.iox_wire_nodes.proofs.ReadyLemmas.{ready_to_lend}
use Rattle.iox_wire_nodes.proofs.RoomsKept.{keeps_lends}
use Rattle.iox_wire_nodes.proofs.node.StoredNode.begin_loan_on_handle.Goals as goal

-- no payload is asked
abbrev none : Payload
none = record { role = Client; elements = None; words = [] }

pub server_place-server-requires : goal.server_place-server-requires
server_place-server-requires c =
    let stands : HandleStands c.args.map.now c.args.self.now.seat.seat.desks c.in_ok-request.request = stands_at c.args.map.now c.args.self.now c.args.number c.in_ok-request.request c.in_ok-request.ensures.found c.requires.handle in
    (stands.states.request (ap (λ k. same_kind k ActiveRequest)
    (lends_to_request c.args.number c.args.elements c.in_ok-request.request.kind stands.handle (c.in_ok-request.ensures.suits c.args.number none tt)))).1

pub returns-in_err-request-clause-refused : goal.returns-in_err-request-clause-refused
returns-in_err-request-clause-refused c p with =
    let known : refusal_at p (seat_in c.args.self.now) (Port (Loan c.args.number c.args.elements)) ≡ refusal_in c.in_err-request.field-0.0 = c.in_err-request.ensures.refused p none with.setting tt in
    search (rules, known)

pub begin_response_loan-requires-clause-own : goal.begin_response_loan-requires-clause-own
begin_response_loan-requires-clause-own c = sym c.server_place-server.ensures.number

pub returns-clause-begun : goal.returns-clause-begun
returns-clause-begun c p with =
    lent_beside p (Port (Loan c.args.number c.args.elements)) (λ x. begins_at_entry p x (Loan c.args.number c.args.elements) c.in_ok-request.request)
    c.self.view_is c.in_ok-request.ensures.own (c.in_ok-request.ensures.allowed p none with.setting tt) (c.in_ok-request.ensures.begins p none with.setting)
    c.begin_response_loan.new.seat c.begin_response_loan.new.lending
    (c.begin_response_loan.ensures.begun p c.args.number with (c.next_number-next.ensures ∙ next_number_is c.args.terms.now p c.self.view_is with.first_number))
    (λ of_slot. c.begin_response_loan.ensures.aimed p with (c.next_number-next.ensures ∙ next_number_is c.args.terms.now p c.self.view_is with.first_number) of_slot)
    (ready_to_lend p _ c.begin_response_loan.new.seat c.begin_response_loan.new.lending _ _ c.begin_response_loan.ensures.leaves c.begin_response_loan.ensures.ordered
    (c.next_number-next.ensures ∙ next_number_is c.args.terms.now p c.self.view_is with.first_number))

pub returns-clause-rooms : goal.returns-clause-rooms
returns-clause-rooms c = keeps_lends c.self.view_is c.begin_response_loan.new.seat c.begin_response_loan.new.lending c.begin_response_loan.ensures.leaves.room.rooms c.begin_response_loan.ensures.rooms
