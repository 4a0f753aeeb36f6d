use Rattle.std.proofs.Common.{rules, ◌≡◌, None, [], ap, ◌∙◌}
use Rattle.iox_model.specs.declared.call.Call.TheVariants.{Loan}
use Rattle.iox_model.specs.declared.call.WireCall.TheVariants.{Port}
use Rattle.iox_model.specs.declared.kind.Role.TheVariants.{Client}
use Rattle.iox_model.specs.Commands.{Payload}
use Rattle.iox_wire_begins.specs.Plans.{role_of}
use Rattle.iox_wire_begins.specs.HandleCalls.{refusal_in}
use Rattle.iox_wire_begins.specs.Begins.{begins_at_port, refusal_at}
use Rattle.iox_wire_nodes.specs.Nodes.{seat_in}
use Rattle.iox_wire_nodes.proofs.BesideLemmas.{lent_beside, next_number_is}
use Rattle.iox_wire_nodes.proofs.NameLemmas.{lends_as_client, port_of_role}
use Rattle.iox_wire_nodes.proofs.ReadyLemmas.{ready_to_lend}
use Rattle.iox_wire_nodes.proofs.RoomsKept.{keeps_lends}
use Rattle.iox_wire_nodes.proofs.node.StoredNode.begin_loan_at_port.Goals as goal

-- no payload is asked
abbrev none : Payload
none = record { role = Client; elements = None; words = [] }

pub begin_request_loan-requires-clause-client : goal.begin_request_loan-requires-clause-client
begin_request_loan-requires-clause-client c =
    port_of_role c.args.map.now c.plan-plan.ensures.plan c.args.port c.args.number Client c.requires.within c.requires.there
    (lends_as_client c.args.number c.args.elements (role_of c.args.map.now c.args.number) (c.in_ok-name_at_port.ensures.kind c.args.number none tt))

pub returns-in_err-name_at_port-clause-refused : goal.returns-in_err-name_at_port-clause-refused
returns-in_err-name_at_port-clause-refused c p with =
    let known : refusal_at p (seat_in c.args.self.now) (Port (Loan c.args.number c.args.elements)) ≡ refusal_in c.in_err-name_at_port.field-0.0 = c.in_err-name_at_port.ensures.refused p none with tt in
    search (rules, known)

pub returns-clause-begun : goal.returns-clause-begun
returns-clause-begun c p with =
    lent_beside p (Port (Loan c.args.number c.args.elements)) (λ x. begins_at_port p x (Loan c.args.number c.args.elements) (p.port c.args.number))
    c.self.view_is c.in_ok-name_at_port.ensures.own (c.in_ok-name_at_port.ensures.allowed p none with tt) (c.in_ok-name_at_port.ensures.begins p none with)
    c.begin_request_loan.new.seat c.begin_request_loan.new.lending
    (c.begin_request_loan.ensures.begun p c.args.number with (c.next_number-next.ensures ∙ next_number_is c.args.terms.now p c.self.view_is with.first_number)
    ∙ ap (λ k. begins_at_port p c.self.inside.seat.seat (Loan c.args.number c.args.elements) (p.port k)) c.requires.there)
    (λ of_slot. c.begin_request_loan.ensures.aimed p with (c.next_number-next.ensures ∙ next_number_is c.args.terms.now p c.self.view_is with.first_number) of_slot)
    (ready_to_lend p _ c.begin_request_loan.new.seat c.begin_request_loan.new.lending _ _ c.begin_request_loan.ensures.leaves c.begin_request_loan.ensures.ordered
    (c.next_number-next.ensures ∙ next_number_is c.args.terms.now p c.self.view_is with.first_number))

pub returns-clause-rooms : goal.returns-clause-rooms
returns-clause-rooms c = keeps_lends c.self.view_is c.begin_request_loan.new.seat c.begin_request_loan.new.lending c.begin_request_loan.ensures.leaves.room.rooms c.begin_request_loan.ensures.rooms
