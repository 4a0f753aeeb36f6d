use Rattle.std.proofs.Common.{ap, sym, ◌∙◌, true, false}
use Rattle.iox_wire_weaves.specs.Wires.{WireData}
use Rattle.iox_wire.proofs.Places.{refusal_there, unknown_there}
use Rattle.iox_wire.proofs.wire.Wire.living.Goals as goal

pub returns-in_default-clause-refused : goal.returns-in_default-clause-refused
returns-in_default-clause-refused c = unknown_there c.args.node c.args.self.now.nodes (sym c.in_default.ensures.first)

pub returns-then-is_alive-clause-alive : goal.returns-then-is_alive-clause-alive
returns-then-is_alive-clause-alive c =
    refusal_there c.args.node c.self.inside.members.items c.args.self.now.nodes c.in-Some.place c.index.result.now true
    (ap (λ (w : WireData). w.nodes) c.self.view_is) (sym c.in-Some.ensures.first) c.index.ensures (sym c.is_alive.ensures ∙ c.if-is_alive.true)

pub returns-clause-refused : goal.returns-clause-refused
returns-clause-refused c =
    refusal_there c.args.node c.self.inside.members.items c.args.self.now.nodes c.in-Some.place c.index.result.now false
    (ap (λ (w : WireData). w.nodes) c.self.view_is) (sym c.in-Some.ensures.first) c.index.ensures (sym c.is_alive.ensures ∙ c.if-is_alive.false)
