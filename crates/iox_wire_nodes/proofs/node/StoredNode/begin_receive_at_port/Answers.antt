use Rattle.std.proofs.Common.{rules, ◌≡◌, None, [], ap, sym, ◌∙◌}
use Rattle.iox_model.specs.declared.call.Call.TheVariants.{Receive}
use Rattle.iox_model.specs.declared.call.WireCall.TheVariants.{Port}
use Rattle.iox_model.specs.declared.kind.Role.TheVariants.{Client}
use Rattle.iox_model.specs.Commands.{Payload}
use Rattle.iox_wire_begins.proofs.PairLemmas.{one_of}
use Rattle.iox_wire_begins.specs.HandleCalls.{refusal_in}
use Rattle.iox_wire_begins.specs.Begins.{begins_at_port, refusal_at}
use Rattle.iox_wire_nodes.specs.Nodes.{seat_in}
use Rattle.iox_wire_nodes.proofs.RestLemmas.{is_server, next_alike, received_at, refusal_alike}
use Rattle.iox_wire_nodes.proofs.RoomsKept.{keeps_receives}
use Rattle.iox_wire_nodes.proofs.node.StoredNode.begin_receive_at_port.Goals as goal

-- no payload is asked
abbrev none : Payload
none = record { role = Client; elements = None; words = [] }

pub returns-in_err-name_port-clause-refused : goal.returns-in_err-name_port-clause-refused
returns-in_err-name_port-clause-refused c p setting held =
    let known : refusal_at p (seat_in c.args.self.now) (Port (Receive c.args.number)) ≡ refusal_in c.in_err-name_port.field-0.0 =
    refusal_alike p (Port (Receive c.args.number)) c.self.view_is c.self.invariant.0 (sym c.is_busy.ensures ∙ c.if-is_busy.false)
    ∙ c.in_err-name_port.ensures.refused p none setting held tt in
    search (rules, known)

pub begin_request_receive-requires-clause-server : goal.begin_request_receive-requires-clause-server
begin_request_receive-requires-clause-server c =
    is_server c.args.map.now c.plan-plan.ensures.plan c.args.port c.args.number (one_of c.args.map.now.ports.items c.args.port c.requires.within)
    c.requires.within c.requires.there (c.in_ok-name_port.ensures.kind c.args.number none tt)

pub returns-clause-begun : goal.returns-clause-begun
returns-clause-begun c p setting held told next =
    received_at p c.args.number c.begin_request_receive.new.receiving c.self.view_is c.self.invariant.0 (sym c.is_busy.ensures ∙ c.if-is_busy.false)
    (c.in_ok-name_port.ensures.allowed p none setting held tt)
    (c.begin_request_receive.ensures.begun p c.args.number setting told
    ∙ ap (λ k. begins_at_port p c.self.inside.seat.seat (Receive c.args.number) (p.port k)) c.requires.there
    ∙ sym (c.in_ok-name_port.ensures.begins p none setting))
    (c.begin_request_receive.ensures.aimed p setting told
    (next ∙ next_alike p c.self.view_is c.self.invariant.0 (sym c.is_busy.ensures ∙ c.if-is_busy.false)))
    (c.begin_request_receive.ensures.number ∙ next ∙ next_alike p c.self.view_is c.self.invariant.0 (sym c.is_busy.ensures ∙ c.if-is_busy.false))
    c.begin_request_receive.ensures.counts

pub returns-clause-rooms : goal.returns-clause-rooms
returns-clause-rooms c = keeps_receives c.self.view_is c.begin_request_receive.new.receiving c.begin_request_receive.ensures.room
