use Rattle.std.specs.Prelude.{get_or, option_and_then}
use Rattle.std.proofs.Common.{◌==◌, ap, sym, ◌∙◌}
use Rattle.iox_wire_weaves.specs.Wires.{WireData, WireNode}
use Rattle.iox_wire.proofs.Places.{none_found, read_there}
use Rattle.iox_wire.proofs.wire.Wire.died_after.Goals as goal

pub returns-in-Some : goal.returns-in-Some
returns-in-Some c =
    c.died.ensures
    ∙ sym (ap (option_and_then (λ (x : WireNode). x.died))
    (read_there c.args.node c.args.self.now.nodes c.in-Some.place c.index.result.now (sym c.in-Some.ensures.first)
    (c.index.ensures ∙ ap (λ (w : WireData). get_or w.nodes c.in-Some.place c.index.result.now) c.self.view_is)))

pub returns-in-None : goal.returns-in-None
returns-in-None c =
    sym (ap (option_and_then (λ (x : WireNode). x.died)) (none_found (λ (x : WireNode). x.number == c.args.node) c.args.self.now.nodes (sym c.in-None.ensures.first)))
