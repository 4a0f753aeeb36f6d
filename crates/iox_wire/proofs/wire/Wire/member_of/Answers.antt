use Rattle.std.specs.Prelude.{get_or}
use Rattle.std.proofs.Common.{◌==◌, ap, sym, ◌∙◌}
use Rattle.iox_wire_weaves.specs.Wires.{WireData}
use Rattle.iox_wire.proofs.Places.{none_found, read_there}
use Rattle.iox_wire.proofs.wire.Wire.member_of.Goals as goal

pub returns-in-Some-clause-there : goal.returns-in-Some-clause-there
returns-in-Some-clause-there c =
    read_there c.args.node c.args.self.now.nodes c.in-Some.place c.index.result.now (sym c.in-Some.ensures.first)
    (c.index.ensures ∙ ap (λ (w : WireData). get_or w.nodes c.in-Some.place c.index.result.now) c.self.view_is)

pub returns-in-None-clause-none : goal.returns-in-None-clause-none
returns-in-None-clause-none c is = none_found (λ x. x.number == c.args.node) c.args.self.now.nodes (sym c.in-None.ensures.first)
