use Rattle.std.proofs.Common.{◌==◌, ◌∙◌, rules, tests}
use Rattle.std.proofs.lemmas.Iterator.{YieldsList-from_slice}
use Rattle.std.proofs.lemmas.Iterator.Search.{any_from_yields_List}
use Rattle.iox_word_places.specs.declared.plan.PlanPort.{PlanPort}
use Rattle.iox_wire_layouts.proofs.PlanTests.{any_number}
use Rattle.iox_wire_layouts.proofs.checks.has_port.Goals as goal

pub returns : goal.returns
returns c =
    any_from_yields_List (λ (p : PlanPort). p.number == c.args.number) _ _ c.any.result c.any.ensures.ran
    (YieldsList-from_slice c.args.ports.now cc) (λ x b q k. search (rules, tests))
    ∙ any_number c.args.number c.args.ports.now
