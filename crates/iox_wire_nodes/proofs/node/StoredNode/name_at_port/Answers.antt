use Rattle.std.proofs.Common.{rules, ◌≡◌, ap, sym, subst, ◌∙◌}
use Rattle.iox_model.specs.declared.call.WireCall.TheVariants.{Port}
use Rattle.iox_wire_begins.specs.HandleCalls.{call_of, refusal_in}
use Rattle.iox_wire_nodes.proofs.NameLemmas.{is_held}
use Rattle.iox_wire_begins.specs.Seat.{Seat}
use Rattle.iox_wire_begins.specs.Begins.{begin, begins_at_port, refusal_at}
use Rattle.iox_wire_nodes.specs.Nodes.{NodeView, seat_in}
use Rattle.iox_wire_nodes.proofs.RestLemmas.{own_alike, refusal_alike}
use Rattle.iox_wire_nodes.proofs.node.StoredNode.name_at_port.Goals as goal

pub returns-in_err-name_port-clause-refused : goal.returns-in_err-name_port-clause-refused
returns-in_err-name_port-clause-refused c p y with role =
    let known : refusal_at p (seat_in c.args.self.now) (Port (call_of c.args.asked c.args.number y)) ≡ refusal_in c.in_err-name_port.field-0.0 =
    refusal_alike p (Port (call_of c.args.asked c.args.number y)) c.self.view_is c.self.invariant.0 (sym c.is_busy.ensures ∙ c.if-is_busy.false)
    ∙ c.in_err-name_port.ensures.refused p y with.setting (is_held c.args.map.now c.args.terms.now p with c.args.port c.args.number c.requires.within c.requires.there) role in
    search (rules, known)

pub returns-clause-own : goal.returns-clause-own
returns-clause-own c =
    own_alike c.self.view_is c.self.invariant.0 (sym c.is_busy.ensures ∙ c.if-is_busy.false) ∙ ap (λ (o : NodeView). o.seat.seat) c.self.view_is

pub returns-clause-allowed : goal.returns-clause-allowed
returns-clause-allowed c p y with role =
    refusal_alike p (Port (call_of c.args.asked c.args.number y)) c.self.view_is c.self.invariant.0 (sym c.is_busy.ensures ∙ c.if-is_busy.false)
    ∙ c.in_ok-name_port.ensures.allowed p y with.setting (is_held c.args.map.now c.args.terms.now p with c.args.port c.args.number c.requires.within c.requires.there) role

pub returns-clause-begins : goal.returns-clause-begins
returns-clause-begins c p y with =
    subst (λ (x : Seat). begin p x (Port (call_of c.args.asked c.args.number y)) ≡ begins_at_port p x (call_of c.args.asked c.args.number y) (p.port c.args.number))
    (sym (own_alike c.self.view_is c.self.invariant.0 (sym c.is_busy.ensures ∙ c.if-is_busy.false)))
    (c.in_ok-name_port.ensures.begins p y with.setting)
