use Rattle.std.proofs.Common.{ap, sym, ◌∙◌}
use Rattle.iox_model.specs.declared.call.Call.TheVariants.{Send}
use Rattle.iox_wire_begins.specs.Begins.{begins_at_entry}
use Rattle.iox_wire_nodes.proofs.BesideLemmas.{own_seat}
use Rattle.iox_wire_nodes.proofs.ReadyLemmas.{ready_to_send_request, sent_so}
use Rattle.iox_wire_nodes.proofs.RoomsKept.{keeps_requests}
use Rattle.iox_wire_nodes.proofs.node.StoredNode.send_request.Goals as goal

pub client_place-client-requires-clause-client : goal.client_place-client-requires-clause-client
client_place-client-requires-clause-client c = (c.requires.handle.request c.requires.kind).is_client

pub client_place-client-requires-clause-lane : goal.client_place-client-requires-clause-lane
client_place-client-requires-clause-lane c = (c.requires.handle.request c.requires.kind).is_lane

pub begin_request_send-requires-clause-own : goal.begin_request_send-requires-clause-own
begin_request_send-requires-clause-own c = sym c.client_place-client.ensures.number

pub begin_request_send-requires-clause-request : goal.begin_request_send-requires-clause-request
begin_request_send-requires-clause-request c = c.requires.handle.hint

pub returns-clause-begun : goal.returns-clause-begun
returns-clause-begun c p with = record {
  begun = c.begin_request_send.ensures.begun p 0 with ∙ ap (λ x. begins_at_entry p x (Send 0) c.args.loan) (sym (own_seat c.self.view_is c.requires.own));
  aimed = c.begin_request_send.ensures.aimed p with;
  ready = sent_so p c.self.view_is (ready_to_send_request p _ c.begin_request_send.new.requesting c.begin_request_send.ensures.own);
}

pub returns-clause-rooms : goal.returns-clause-rooms
returns-clause-rooms c = keeps_requests c.self.view_is c.begin_request_send.new.requesting c.begin_request_send.ensures.room
