use Rattle.std.proofs.Common.{◌≡◌, ap, subst, sym, ◌∙◌}
use Rattle.iox_model.specs.declared.call.Call.TheVariants.{Receive}
use Rattle.iox_model.specs.declared.call.WireCall.TheVariants.{Port}
use Rattle.iox_wire_begins.specs.Asked.{Asked}
use Rattle.iox_wire_begins.specs.Begins.{refusal_at}
use Rattle.iox_wire_begins.specs.HandleCalls.{HasRole, call_of, refusal_in}
use Rattle.iox_wire_nodes.specs.declared.node_call.NodeCall.{NodeCall}
use Rattle.iox_wire_nodes.specs.Begins.{IsUnderWay}
use Rattle.iox_wire_nodes.specs.Calls.{call_in, number_in}
use Rattle.iox_wire_nodes.specs.Nodes.{seat_in}
use Rattle.iox_wire_nodes.proofs.BesideLemmas.{is_under_way}
use Rattle.iox_wire_nodes.proofs.CallLemmas.{handle_called, handle_role, next_is, none}
use Rattle.iox_wire_nodes.proofs.NameLemmas.{has_request_ways, is_held}
use Rattle.iox_wire_nodes.proofs.node.StoredNode.begin_at_port.Goals as goal

pub begin_receive_at_port-requires-clause-known : goal.begin_receive_at_port-requires-clause-known
begin_receive_at_port-requires-clause-known c = has_request_ways c.args.map.now c.args.terms.now c.requires.plan

pub begin_has_requests-requires-clause-known : goal.begin_has_requests-requires-clause-known
begin_has_requests-requires-clause-known c = has_request_ways c.args.map.now c.args.terms.now c.requires.plan

pub returns-in_ok-begin_receive_at_port-in-Receive-clause-begun : goal.returns-in_ok-begin_receive_at_port-in-Receive-clause-begun
returns-in_ok-begin_receive_at_port-in-Receive-clause-begun c p with =
    subst (λ (k : NodeCall). IsUnderWay p c.args.self.now (Port (call_in p (seat_in c.args.self.now) k)) c.begin_receive_at_port.new.self) (sym c.in-Receive.is)
    (is_under_way p c.args.self.now (Port (Receive c.in-Receive.number)) c.begin_receive_at_port.new.self
    (c.in_ok-begin_receive_at_port-in-Receive.ensures.begun p with.setting
    (is_held c.args.map.now c.args.terms.now p with c.args.port c.in-Receive.number c.requires.within (c.requires.there ∙ ap number_in c.in-Receive.is))
    with.fire_and_forget (next_is c.args.map.now c.args.terms.now p c.args.self.now c.next_number-next.result with c.next_number-next.ensures)))

pub returns-in-Send-clause-refused : goal.returns-in-Send-clause-refused
returns-in-Send-clause-refused c p with =
    subst (λ (k : NodeCall). refusal_at p (seat_in c.args.self.now) (Port (call_in p (seat_in c.args.self.now) k)) ≡ refusal_in c.refuse_at_port-in-Send.result) (sym c.in-Send.is)
    (c.refuse_at_port-in-Send.ensures p none with tt)

pub returns-in-Handle-clause-refused : goal.returns-in-Handle-clause-refused
returns-in-Handle-clause-refused c p with =
    subst (λ (k : NodeCall). refusal_at p (seat_in c.args.self.now) (Port (call_in p (seat_in c.args.self.now) k)) ≡ refusal_in c.refuse_at_port-in-Handle.result) (sym c.in-Handle.is)
    (ap (λ k. refusal_at p (seat_in c.args.self.now) (Port k))
    (sym (handle_called c.in-Handle.call c.in-Handle.number none) ∙ sym (ap (λ (a : Asked). call_of a c.in-Handle.number none) c.asked-asked.ensures))
    ∙ c.refuse_at_port-in-Handle.ensures p none with (subst (λ (a : Asked). HasRole a none) (sym c.asked-asked.ensures) (handle_role c.in-Handle.call none)))
