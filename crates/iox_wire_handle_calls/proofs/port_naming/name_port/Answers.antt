use Rattle.std.proofs.Common.{rules, ◌≡◌, ℕ, true, false, get_or, ap, ap₂, refl, sym, ◌∙◌}
use Rattle.std.specs.Prelude.{◌==◌, Option}
use Rattle.std.specs.Option.{option_map_or}
use Rattle.iox_model.specs.declared.kind.Kind.{Kind}
use Rattle.iox_model.specs.declared.kind.Role.{Role}
use Rattle.iox_model.specs.declared.kind.Role.TheVariants.{Client}
use Rattle.iox_model.specs.Names.{suits}
use Rattle.iox_wire_stops.specs.PlanPort.{PlanPort}
use Rattle.iox_wire_stops.specs.WirePlan.{WirePlan}
use Rattle.iox_wire_handle_calls.specs.HandleCalls.{call_of, port_kind}
use Rattle.iox_wire_handle_calls.proofs.NameLemmas.{found_there, port_begins, port_refusal, port_there}
use Rattle.iox_wire_handle_calls.proofs.port_naming.name_port.Goals as goal

pub returns-then-port-node-clause-refused : goal.returns-then-port-node-clause-refused
returns-then-port-node-clause-refused c p y setting held role =
    let q = port_there c.args.map.now c.plan.ensures.plan p setting c.args.port c.args.number c.index-port.result.now c.requires.within c.requires.there
    (c.index-port.ensures ∙ ap (λ (plan : WirePlan). get_or plan.ports.items c.args.port c.index-port.result.now) c.plan.ensures.value) in
    let other : (c.index-port.result.now.node == c.args.node) ≡ false = search (rules, c.if-port-node.true) in
    port_refusal c.args.map.now p setting c.args.number c.args.seat.now.seat c.args.asked y c.index-port.result.now (found_there c.args.map.now c.plan.ensures.plan c.args.port c.args.number c.index-port.result.now c.requires.within c.requires.there
    (c.index-port.ensures ∙ ap (λ (plan : WirePlan). get_or plan.ports.items c.args.port c.index-port.result.now) c.plan.ensures.value)) false
    (suits true (call_of c.args.asked c.args.number y) (port_kind (p.port c.args.number).role)) (sym c.is_busy.ensures ∙ c.if-is_busy.false) held
    (ap₂ (λ (a b : ℕ). a == b) q.node c.requires.node ∙ other) refl

pub returns-then-not-suits-clause-refused : goal.returns-then-not-suits-clause-refused
returns-then-not-suits-clause-refused c p y setting held role =
    let q = port_there c.args.map.now c.plan.ensures.plan p setting c.args.port c.args.number c.index-port.result.now c.requires.within c.requires.there
    (c.index-port.ensures ∙ ap (λ (plan : WirePlan). get_or plan.ports.items c.args.port c.index-port.result.now) c.plan.ensures.value) in
    let own : (c.index-port.result.now.node == c.args.node) ≡ true = search (rules, c.if-port-node.false) in
    port_refusal c.args.map.now p setting c.args.number c.args.seat.now.seat c.args.asked y c.index-port.result.now (found_there c.args.map.now c.plan.ensures.plan c.args.port c.args.number c.index-port.result.now c.requires.within c.requires.there
    (c.index-port.ensures ∙ ap (λ (plan : WirePlan). get_or plan.ports.items c.args.port c.index-port.result.now) c.plan.ensures.value)) true false
    (sym c.is_busy.ensures ∙ c.if-is_busy.false) held (ap₂ (λ (a b : ℕ). a == b) q.node c.requires.node ∙ own)
    (ap (λ (r : Role). suits true (call_of c.args.asked c.args.number y) (port_kind r)) q.role
    ∙ ap (λ (k : Kind). suits true (call_of c.args.asked c.args.number y) k) (sym c.kind_of.ensures)
    ∙ sym (c.suits.ensures c.args.number y role) ∙ c.if-not-suits.true)

pub returns-clause-kind : goal.returns-clause-kind
returns-clause-kind c n y role =
    ap (λ (o : Option PlanPort). suits true (call_of c.args.asked n y) (port_kind (option_map_or (λ r. r.role) o Client))) (found_there c.args.map.now c.plan.ensures.plan c.args.port c.args.number c.index-port.result.now c.requires.within c.requires.there
    (c.index-port.ensures ∙ ap (λ (plan : WirePlan). get_or plan.ports.items c.args.port c.index-port.result.now) c.plan.ensures.value))
    ∙ ap (λ (k : Kind). suits true (call_of c.args.asked n y) k) (sym c.kind_of.ensures)
    ∙ sym (c.suits.ensures n y role) ∙ c.if-not-suits.false

pub returns-clause-allowed : goal.returns-clause-allowed
returns-clause-allowed c p y setting held role =
    let q = port_there c.args.map.now c.plan.ensures.plan p setting c.args.port c.args.number c.index-port.result.now c.requires.within c.requires.there
    (c.index-port.ensures ∙ ap (λ (plan : WirePlan). get_or plan.ports.items c.args.port c.index-port.result.now) c.plan.ensures.value) in
    let own : (c.index-port.result.now.node == c.args.node) ≡ true = search (rules, c.if-port-node.false) in
    port_refusal c.args.map.now p setting c.args.number c.args.seat.now.seat c.args.asked y c.index-port.result.now (found_there c.args.map.now c.plan.ensures.plan c.args.port c.args.number c.index-port.result.now c.requires.within c.requires.there
    (c.index-port.ensures ∙ ap (λ (plan : WirePlan). get_or plan.ports.items c.args.port c.index-port.result.now) c.plan.ensures.value)) true true
    (sym c.is_busy.ensures ∙ c.if-is_busy.false) held (ap₂ (λ (a b : ℕ). a == b) q.node c.requires.node ∙ own)
    (ap (λ (r : Role). suits true (call_of c.args.asked c.args.number y) (port_kind r)) q.role
    ∙ ap (λ (k : Kind). suits true (call_of c.args.asked c.args.number y) k) (sym c.kind_of.ensures)
    ∙ sym (c.suits.ensures c.args.number y role) ∙ c.if-not-suits.false)

pub returns-clause-begins : goal.returns-clause-begins
returns-clause-begins c p y setting =
    port_begins c.args.map.now p setting c.args.number c.args.seat.now.seat c.args.asked y c.index-port.result.now (found_there c.args.map.now c.plan.ensures.plan c.args.port c.args.number c.index-port.result.now c.requires.within c.requires.there
    (c.index-port.ensures ∙ ap (λ (plan : WirePlan). get_or plan.ports.items c.args.port c.index-port.result.now) c.plan.ensures.value))
