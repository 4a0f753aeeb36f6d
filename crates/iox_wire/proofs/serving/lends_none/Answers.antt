use Rattle.std.proofs.Common.{◌==◌, length, rules, tests}
use Rattle.std.proofs.lemmas.Iterator.{YieldsList-from_slice, YieldsList-from_take}
use Rattle.std.proofs.lemmas.Iterator.Search.{any_from_yields_List}
use Rattle.iox_wire.proofs.serving.lends_none.Goals as goal

pub returns : goal.returns
returns c =
    any_from_yields_List (λ r. r.loaned_responses == 0) _ _ c.any.result c.any.ensures.ran
    (YieldsList-from_take (length c.args.plan.now.ports.items) (YieldsList-from_slice c.args.terms.now.ports.items (cc)) (cc))
    (λ x b q k. search (rules, tests))
