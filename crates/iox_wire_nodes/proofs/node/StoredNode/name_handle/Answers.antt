use Rattle.std.proofs.Common.{rules, ◌≡◌, ap, sym, subst, ◌∙◌}
use Rattle.iox_model.specs.declared.call.WireCall.TheVariants.{Port}
use Rattle.iox_wire_begins.specs.HandleCalls.{call_of, refusal_in}
use Rattle.iox_wire_begins.specs.Seat.{Seat}
use Rattle.iox_wire_begins.specs.Begins.{begin, begins_at_entry, refusal_at}
use Rattle.iox_wire_begins.specs.Tables.{entry_at}
use Rattle.iox_wire_nodes.specs.Nodes.{NodeView, seat_in}
use Rattle.iox_wire_nodes.proofs.RestLemmas.{own_alike, refusal_alike}
use Rattle.iox_wire_nodes.proofs.node.StoredNode.name_handle.Goals as goal

pub returns-in_err-entry-clause-refused : goal.returns-in_err-entry-clause-refused
returns-in_err-entry-clause-refused c p y setting role =
    let known : refusal_at p (seat_in c.args.self.now) (Port (call_of c.args.asked c.args.number y)) ≡ refusal_in c.in_err-entry.field-0.0 =
    refusal_alike p (Port (call_of c.args.asked c.args.number y)) c.self.view_is c.self.invariant.0 (sym c.is_busy.ensures ∙ c.if-is_busy.false)
    ∙ c.in_err-entry.ensures.refused p y setting role in
    search (rules, known)

pub returns-clause-own : goal.returns-clause-own
returns-clause-own c =
    own_alike c.self.view_is c.self.invariant.0 (sym c.is_busy.ensures ∙ c.if-is_busy.false) ∙ ap (λ (o : NodeView). o.seat.seat) c.self.view_is

pub returns-clause-found : goal.returns-clause-found
returns-clause-found c =
    ap (λ (o : NodeView). entry_at c.args.number o.seat.seat.table) (sym c.self.view_is) ∙ c.in_ok-entry.ensures.found

pub returns-clause-allowed : goal.returns-clause-allowed
returns-clause-allowed c p y setting role =
    refusal_alike p (Port (call_of c.args.asked c.args.number y)) c.self.view_is c.self.invariant.0 (sym c.is_busy.ensures ∙ c.if-is_busy.false)
    ∙ c.in_ok-entry.ensures.allowed p y setting role

pub returns-clause-begins : goal.returns-clause-begins
returns-clause-begins c p y setting =
    subst (λ (x : Seat). begin p x (Port (call_of c.args.asked c.args.number y)) ≡ begins_at_entry p x (call_of c.args.asked c.args.number y) c.in_ok-entry.entry)
    (sym (own_alike c.self.view_is c.self.invariant.0 (sym c.is_busy.ensures ∙ c.if-is_busy.false)))
    (c.in_ok-entry.ensures.begins p y setting)
