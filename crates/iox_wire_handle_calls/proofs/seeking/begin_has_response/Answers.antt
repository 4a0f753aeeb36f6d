use Rattle.std.specs.Prelude.{IfSome}
use Rattle.std.proofs.Common.{rules, ◌≡◌, ℕ, List, Option, None, [], map, sym, subst, ap, ◌∙◌}
use Rattle.iox_model.specs.declared.call.Call.TheVariants.{HasResponse}
use Rattle.iox_model.specs.declared.call.WireCall.TheVariants.{Port}
use Rattle.iox_model.specs.declared.kind.Role.TheVariants.{Client, Server}
use Rattle.iox_model.specs.declared.way.Way.{Way}
use Rattle.iox_model.specs.Commands.{Payload}
use Rattle.iox_model.specs.Messages.{response_way}
use Rattle.iox_model.specs.Peers.{ports_of_role}
use Rattle.iox_wire_stops.specs.Entry.{Entry}
use Rattle.iox_wire_stops.specs.Begins.{refusal_at}
use Rattle.iox_wire_stops.specs.Known.{known}
use Rattle.iox_wire_stops.specs.ReceiveCourses.{seeking}
use Rattle.iox_wire_stops.specs.Aims.{AreQueues}
use Rattle.iox_wire_stops.specs.Seats.{ways_of}
use Rattle.iox_wire_handle_calls.specs.HandleCalls.{refusal_in}
use Rattle.iox_wire_stops.specs.OwnStates.{HasStates}
use Rattle.iox_wire_handle_calls.proofs.seeking.begin_has_response.Goals as goal

-- no payload is asked
abbrev none : Payload
none = record { role = Client; elements = None; words = [] }

pub client_place-client-requires-clause-client : goal.client_place-client-requires-clause-client
client_place-client-requires-clause-client c =
    let states : HasStates c.args.map.now c.in_ok-pending.pending =
    subst (λ (o : Option Entry). IfSome o (HasStates c.args.map.now)) c.in_ok-pending.ensures.found c.requires.states in
    (states.pending (c.in_ok-pending.ensures.suits 0 none tt)).0

pub client_place-client-requires-clause-lane : goal.client_place-client-requires-clause-lane
client_place-client-requires-clause-lane c =
    let states : HasStates c.args.map.now c.in_ok-pending.pending =
    subst (λ (o : Option Entry). IfSome o (HasStates c.args.map.now)) c.in_ok-pending.ensures.found c.requires.states in
    (states.pending (c.in_ok-pending.ensures.suits 0 none tt)).1

pub returns-in_err-pending-clause-refused : goal.returns-in_err-pending-clause-refused
returns-in_err-pending-clause-refused c p setting =
    let known : refusal_at p c.args.seat.now.seat (Port (HasResponse c.args.number)) ≡ refusal_in c.in_err-pending.field-0.0 =
    c.in_err-pending.ensures.refused p none setting tt in
    search (rules, known)

pub returns-clause-begun : goal.returns-clause-begun
returns-clause-begun c p setting = record {
  allowed = c.in_ok-pending.ensures.allowed p none setting tt;
  begun = c.seek.ensures.begun
      ∙ ap (λ (ws : List Way). seeking c.args.seat.now.seat ws)
      (ap ways_of c.deref.ensures.value
      ∙ c.list_waiting_responses-queue.ensures.ways p c.args.seat.now.seat setting
      ∙ ap (λ (n : ℕ). map (response_way n c.in_ok-pending.pending.lane) (ports_of_role (known p c.args.seat.now.seat) Server)) c.client_place-client.ensures.number)
      ∙ sym (c.in_ok-pending.ensures.begins p none setting);
  aimed = c.seek.ensures.aimed p (subst (AreQueues p c.list_waiting_responses-queue.result.kind c.list_waiting_responses-queue.result.capacity) (sym c.deref.ensures.value) (c.list_waiting_responses-queue.ensures.queues p setting));
}

pub returns-clause-allowed : goal.returns-clause-allowed
returns-clause-allowed c p setting = c.in_ok-pending.ensures.allowed p none setting tt
