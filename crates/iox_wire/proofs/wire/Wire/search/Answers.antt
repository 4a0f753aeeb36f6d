use Rattle.std.specs.Prelude.{position}
use Rattle.std.proofs.Common.{ap, ◌==◌, ◌∙◌, List}
use Rattle.iox_wire_weaves.specs.Wires.{WireData, WireNode}
use Rattle.iox_wire.proofs.wire.Wire.search.Goals as goal

pub returns-clause-first : goal.returns-clause-first
returns-clause-first c =
    c.place_of.ensures.first ∙ ap (position (λ (x : WireNode). x.number == c.args.node)) c.deref.ensures.value
    ∙ ap (λ (w : WireData). position (λ x. x.number == c.args.node) w.nodes) c.self.view_is
