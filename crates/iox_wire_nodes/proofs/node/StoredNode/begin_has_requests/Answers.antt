use Rattle.std.proofs.Common.{rules, arith, length, ◌≤◌, ◌≡◌, List, None, [], ap, subst, sym, ◌∙◌}
use Rattle.iox_model.specs.declared.call.Call.TheVariants.{HasRequests}
use Rattle.iox_model.specs.declared.call.WireCall.TheVariants.{Port}
use Rattle.iox_model.specs.declared.kind.Role.TheVariants.{Client}
use Rattle.iox_model.specs.declared.way.Way.{Way}
use Rattle.iox_model.specs.Commands.{Payload}
use Rattle.iox_wire_begins.proofs.PairLemmas.{one_of}
use Rattle.iox_wire_begins.specs.HandleCalls.{refusal_in}
use Rattle.iox_wire_begins.specs.Begins.{begins_at_port, refusal_at}
use Rattle.iox_wire_begins.specs.ReceiveCourses.{seeking}
use Rattle.iox_wire_begins.specs.Aims.{AreQueues}
use Rattle.iox_wire_begins.specs.Seats.{ways_of}
use Rattle.iox_wire_nodes.specs.Nodes.{NodeView, seat_in}
use Rattle.iox_wire_nodes.proofs.RestLemmas.{begun_in, looks_at_server, refusal_alike}
use Rattle.iox_wire_begins.specs.Plans.{most_ways}
use Rattle.iox_wire_nodes.proofs.RoomsKept.{keeps_seat}
use Rattle.iox_wire_nodes.proofs.node.StoredNode.begin_has_requests.Goals as goal

-- no payload is asked
abbrev none : Payload
none = record { role = Client; elements = None; words = [] }

pub returns-in_err-name_port-clause-refused : goal.returns-in_err-name_port-clause-refused
returns-in_err-name_port-clause-refused c p setting held =
    let known : refusal_at p (seat_in c.args.self.now) (Port (HasRequests c.args.number)) ≡ refusal_in c.in_err-name_port.field-0.0 =
    refusal_alike p (Port (HasRequests c.args.number)) c.self.view_is c.self.invariant.0 (sym c.is_busy.ensures ∙ c.if-is_busy.false)
    ∙ c.in_err-name_port.ensures.refused p none setting held tt in
    search (rules, known)

pub list_waiting_requests-queue-requires-clause-server : goal.list_waiting_requests-queue-requires-clause-server
list_waiting_requests-queue-requires-clause-server c =
    looks_at_server c.args.map.now c.plan-plan.ensures.plan c.args.port c.args.number (one_of c.args.map.now.ports.items c.args.port c.requires.within)
    c.requires.within c.requires.there (c.in_ok-name_port.ensures.kind c.args.number none tt)

pub returns-clause-begun : goal.returns-clause-begun
returns-clause-begun c p setting held told =
    begun_in p (Port (HasRequests c.args.number)) c.seek.new.self c.self.view_is c.self.invariant.0 (sym c.is_busy.ensures ∙ c.if-is_busy.false)
    (record {
      allowed = c.in_ok-name_port.ensures.allowed p none setting held tt;
      begun = c.seek.ensures.begun
          ∙ ap (λ (ws : List Way). seeking c.self.inside.seat.seat ws) (ap ways_of c.deref.ensures.value ∙ c.list_waiting_requests-queue.ensures.ways p setting told)
          ∙ ap (λ k. begins_at_port p c.self.inside.seat.seat (HasRequests c.args.number) (p.port k)) c.requires.there
          ∙ sym (c.in_ok-name_port.ensures.begins p none setting);
      aimed = c.seek.ensures.aimed p
          (subst (AreQueues p c.list_waiting_requests-queue.result.kind c.list_waiting_requests-queue.result.capacity) (sym c.deref.ensures.value) (c.list_waiting_requests-queue.ensures.queues p setting));
    })
    c.seek.ensures.accesses c.seek.ensures.room c.seek.ensures.rooms

pub returns-clause-rooms : goal.returns-clause-rooms
returns-clause-rooms c = keeps_seat c.self.view_is c.seek.new.self c.seek.ensures.rooms

pub seek-requires-clause-fits : goal.seek-requires-clause-fits
seek-requires-clause-fits c =
    let room : most_ways c.args.map.now ≤ c.self.inside.seat.ways_room = subst (λ (n : NodeView). most_ways c.args.map.now ≤ n.seat.ways_room) (sym c.self.view_is) c.requires.rooms.ways in
    let few = c.list_waiting_requests-queue.ensures.few in let len = ap length c.deref.ensures.value in
    omega (arith, room, few, len)
