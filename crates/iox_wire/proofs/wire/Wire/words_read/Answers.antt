use Rattle.std.specs.Prelude.{get_or, option_map}
use Rattle.std.proofs.Common.{◌==◌, Some, ap, sym, ◌∙◌}
use Rattle.iox_wire_weaves.specs.Wires.{WireData, WireNode}
use Rattle.iox_wire.proofs.Places.{none_found, read_there}
use Rattle.iox_wire.proofs.wire.Wire.words_read.Goals as goal

pub returns-in-Some-clause-read : goal.returns-in-Some-clause-read
returns-in-Some-clause-read c =
    ap Some c.words_read.ensures
    ∙ sym (ap (option_map (λ (x : WireNode). x.read))
    (read_there c.args.node c.args.self.now.nodes c.in-Some.place c.index.result.now (sym c.in-Some.ensures.first)
    (c.index.ensures ∙ ap (λ (w : WireData). get_or w.nodes c.in-Some.place c.index.result.now) c.self.view_is)))

pub returns-in-None-clause-unknown : goal.returns-in-None-clause-unknown
returns-in-None-clause-unknown c is = none_found (λ x. x.number == c.args.node) c.args.self.now.nodes (sym c.in-None.ensures.first)
