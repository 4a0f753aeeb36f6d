use Rattle.std.specs.Prelude.{position}
use Rattle.std.proofs.Common.{◌≡◌, ◌<◌, ◌==◌, Some, ap, length, sym, subst, ◌∙◌}
use Rattle.iox_wire_weaves.specs.Wires.{WireData, WireNode}
use Rattle.iox_wire.proofs.InOrder.{within_if_in_order}
use Rattle.iox_wire.proofs.wire.Wire.place.Goals as goal

pub returns-then-own-self-clause-first : goal.returns-then-own-self-clause-first
returns-then-own-self-clause-first c =
    sym (c.self.invariant.3 c.args.node c.if-own-self.true) ∙ ap (λ (w : WireData). position (λ x. x.number == c.args.node) w.nodes) c.self.view_is

pub returns-then-own-self-clause-within : goal.returns-then-own-self-clause-within
returns-then-own-self-clause-within c =
    subst (λ (w : WireData). c.args.node < length w.nodes) c.self.view_is
    (within_if_in_order c.self.inside.in_order c.self.inside.members.items c.args.node c.self.invariant.3 c.if-own-self.true)
