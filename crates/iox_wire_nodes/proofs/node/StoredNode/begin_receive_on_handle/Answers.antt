use Rattle.std.proofs.Common.{rules, ◌≡◌, None, [], ◌∙◌}
use Rattle.iox_model.specs.declared.call.Call.TheVariants.{Receive}
use Rattle.iox_model.specs.declared.call.WireCall.TheVariants.{Port}
use Rattle.iox_model.specs.declared.kind.Role.TheVariants.{Client, Server}
use Rattle.iox_model.specs.Commands.{Payload}
use Rattle.iox_wire_begins.specs.WirePlans.{HandleStands}
use Rattle.iox_wire_begins.specs.HandleCalls.{refusal_in}
use Rattle.iox_wire_begins.specs.Begins.{begins_at_entry, refusal_at}
use Rattle.iox_wire_nodes.specs.Nodes.{seat_in}
use Rattle.iox_wire_nodes.proofs.BesideLemmas.{next_number_is, received_beside, stands_at}
use Rattle.iox_wire_nodes.proofs.NameLemmas.{receives_as_pending}
use Rattle.iox_wire_nodes.proofs.RestLemmas.{ready_to_receive}
use Rattle.iox_wire_nodes.proofs.RoomsKept.{keeps_receives}
use Rattle.iox_wire_nodes.proofs.node.StoredNode.begin_receive_on_handle.Goals as goal

-- no payload is asked
abbrev none : Payload
none = record { role = Client; elements = None; words = [] }

pub client_place-client-requires-clause-client : goal.client_place-client-requires-clause-client
client_place-client-requires-clause-client c =
    let stands : HandleStands c.args.map.now c.args.self.now.seat.seat.desks c.in_ok-pending.pending = stands_at c.args.map.now c.args.self.now c.args.number c.in_ok-pending.pending c.in_ok-pending.ensures.found c.requires.handle in
    (stands.states.pending (receives_as_pending c.args.number c.in_ok-pending.pending.kind stands.handle (c.in_ok-pending.ensures.suits c.args.number none tt))).0

pub client_place-client-requires-clause-lane : goal.client_place-client-requires-clause-lane
client_place-client-requires-clause-lane c =
    let stands : HandleStands c.args.map.now c.args.self.now.seat.seat.desks c.in_ok-pending.pending = stands_at c.args.map.now c.args.self.now c.args.number c.in_ok-pending.pending c.in_ok-pending.ensures.found c.requires.handle in
    (stands.states.pending (receives_as_pending c.args.number c.in_ok-pending.pending.kind stands.handle (c.in_ok-pending.ensures.suits c.args.number none tt))).1

pub begin_response_receive-requires-clause-header : goal.begin_response_receive-requires-clause-header
begin_response_receive-requires-clause-header c = c.requires.plan.headers Server

pub returns-in_err-pending-clause-refused : goal.returns-in_err-pending-clause-refused
returns-in_err-pending-clause-refused c p with =
    let known : refusal_at p (seat_in c.args.self.now) (Port (Receive c.args.number)) ≡ refusal_in c.in_err-pending.field-0.0 = c.in_err-pending.ensures.refused p none with.setting tt in
    search (rules, known)

pub returns-clause-begun : goal.returns-clause-begun
returns-clause-begun c p with =
    received_beside p (Port (Receive c.args.number)) (λ x. begins_at_entry p x (Receive c.args.number) c.in_ok-pending.pending)
    c.self.view_is c.in_ok-pending.ensures.own (c.in_ok-pending.ensures.allowed p none with.setting tt) (c.in_ok-pending.ensures.begins p none with.setting)
    c.begin_response_receive.new.receiving
    (c.begin_response_receive.ensures.begun p c.args.number with.setting)
    (c.begin_response_receive.ensures.aimed p with.setting with.fire_and_forget (c.next_number-next.ensures ∙ next_number_is c.args.terms.now p c.self.view_is with.first_number))
    (ready_to_receive p _ c.begin_response_receive.new.receiving
    (c.begin_response_receive.ensures.number ∙ c.next_number-next.ensures ∙ next_number_is c.args.terms.now p c.self.view_is with.first_number)
    c.begin_response_receive.ensures.counts)

pub returns-clause-rooms : goal.returns-clause-rooms
returns-clause-rooms c = keeps_receives c.self.view_is c.begin_response_receive.new.receiving c.begin_response_receive.ensures.room
