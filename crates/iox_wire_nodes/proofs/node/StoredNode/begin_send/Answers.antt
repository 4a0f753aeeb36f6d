use Rattle.std.proofs.Common.{rules, ◌≡◌, None, [], sym, ◌∙◌}
use Rattle.iox_model.specs.declared.call.Call.TheVariants.{Send}
use Rattle.iox_model.specs.declared.call.WireCall.TheVariants.{Port}
use Rattle.iox_model.specs.declared.kind.Role.TheVariants.{Client}
use Rattle.iox_model.specs.Commands.{Payload}
use Rattle.iox_wire_begins.specs.HandleCalls.{refusal_in}
use Rattle.iox_wire_begins.specs.Begins.{refusal_at}
use Rattle.iox_wire_nodes.specs.Nodes.{seat_in}
use Rattle.iox_wire_nodes.proofs.BesideLemmas.{stands_at}
use Rattle.iox_wire_nodes.proofs.NameLemmas.{sends_response_else}
use Rattle.iox_wire_nodes.proofs.node.StoredNode.begin_send.Goals as goal

-- no payload is asked
abbrev none : Payload
none = record { role = Client; elements = None; words = [] }

pub send_request-requires-clause-handle : goal.send_request-requires-clause-handle
send_request-requires-clause-handle c = stands_at c.args.map.now c.args.self.now c.args.number c.in_ok-loan.loan c.in_ok-loan.ensures.found c.requires.handle

pub send_response-requires-clause-handle : goal.send_response-requires-clause-handle
send_response-requires-clause-handle c = stands_at c.args.map.now c.args.self.now c.args.number c.in_ok-loan.loan c.in_ok-loan.ensures.found c.requires.handle

pub send_response-requires-clause-kind : goal.send_response-requires-clause-kind
send_response-requires-clause-kind c =
    sends_response_else c.args.number c.in_ok-loan.loan.kind (c.in_ok-loan.ensures.suits c.args.number none tt) (sym c.is_request.ensures ∙ c.if-is_request.false)

pub returns-in_err-loan-clause-refused : goal.returns-in_err-loan-clause-refused
returns-in_err-loan-clause-refused c p with =
    let known : refusal_at p (seat_in c.args.self.now) (Port (Send c.args.number)) ≡ refusal_in c.in_err-loan.field-0.0 = c.in_err-loan.ensures.refused p none with.setting tt in
    search (rules, known)

pub returns-then-is_request-clause-begun : goal.returns-then-is_request-clause-begun
returns-then-is_request-clause-begun c p with = record {
  allowed = c.in_ok-loan.ensures.allowed p none with.setting tt;
  begun = (c.send_request.ensures.begun p with).begun ∙ sym (c.in_ok-loan.ensures.begins p none with.setting);
  aimed = λ of_pools. (c.send_request.ensures.begun p with).aimed;
  ready = (c.send_request.ensures.begun p with).ready;
}

pub returns-clause-begun : goal.returns-clause-begun
returns-clause-begun c p with = record {
  allowed = c.in_ok-loan.ensures.allowed p none with.setting tt;
  begun = (c.send_response.ensures.begun p with).begun ∙ sym (c.in_ok-loan.ensures.begins p none with.setting);
  aimed = λ of_pools. (c.send_response.ensures.begun p with).aimed;
  ready = (c.send_response.ensures.begun p with).ready;
}
