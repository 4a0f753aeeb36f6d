use Rattle.std.proofs.Common.{ap, ap₂, sym, ◌∙◌}
use Rattle.iox_model.specs.declared.call.Call.TheVariants.{Send}
use Rattle.iox_model.specs.Messages.{response_way}
use Rattle.iox_wire_begins.specs.Begins.{begins_at_entry}
use Rattle.iox_wire_nodes.proofs.BesideLemmas.{own_seat}
use Rattle.iox_wire_nodes.proofs.ReadyLemmas.{ready_to_send_response, sent_so}
use Rattle.iox_wire_nodes.proofs.RoomsKept.{keeps_responds}
use Rattle.iox_wire_nodes.proofs.node.StoredNode.send_response.Goals as goal

pub client_place-client-requires-clause-client : goal.client_place-client-requires-clause-client
client_place-client-requires-clause-client c = (c.requires.handle.response c.requires.kind).2

pub client_place-client-requires-clause-lane : goal.client_place-client-requires-clause-lane
client_place-client-requires-clause-lane c = (c.requires.handle.response c.requires.kind).3

pub server_place-server-requires : goal.server_place-server-requires
server_place-server-requires c = (c.requires.handle.response c.requires.kind).1

pub begin_response_send-requires-clause-own : goal.begin_response_send-requires-clause-own
begin_response_send-requires-clause-own c =
    ap₂ (λ a b. response_way a c.args.loan.lane b) (sym c.client_place-client.ensures.number) (sym c.server_place-server.ensures.number)

pub returns-clause-begun : goal.returns-clause-begun
returns-clause-begun c p with = record {
  begun = c.begin_response_send.ensures.begun p 0 with ∙ ap (λ x. begins_at_entry p x (Send 0) c.args.loan) (sym (own_seat c.self.view_is c.requires.own));
  aimed = c.begin_response_send.ensures.aimed p with;
  ready = sent_so p c.self.view_is (ready_to_send_response p _ c.begin_response_send.new.responding c.begin_response_send.ensures.own);
}

pub returns-clause-rooms : goal.returns-clause-rooms
returns-clause-rooms c = keeps_responds c.self.view_is c.begin_response_send.new.responding
