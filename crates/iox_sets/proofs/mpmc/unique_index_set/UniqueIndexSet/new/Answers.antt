use Rattle.std.proofs.Common.{ap, ◌∙◌, arith, reverse}
use Rattle.iox_sets.proofs.FreeListLemmas.{AreIndexPlaces-new, set_in_places-new}
use Rattle.iox_sets.proofs.mpmc.unique_index_set.UniqueIndexSet.new.Goals as goal

pub invariant_of-result : goal.invariant_of-result
invariant_of-result c =
    let is = c.reverse.ensures.items ∙ ap reverse c.in_ok-places.ensures in
    AreIndexPlaces-new c.args.capacity _ is (grind arith) (grind arith)

pub returns-clause-made : goal.returns-clause-made
returns-clause-made c = set_in_places-new c.args.capacity _ (c.reverse.ensures.items ∙ ap reverse c.in_ok-places.ensures)
