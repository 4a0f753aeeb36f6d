use Rattle.std.proofs.Common.{◌≡◌, None, replicate, arith, rules}
use Rattle.iox_sets.proofs.OwnedLemmas.{IsIndexed-new}
use Rattle.iox_sets.proofs.mpmc.robust_unique_index_set.RobustUniqueIndexSet.new.Goals as goal

pub invariant_of-result : goal.invariant_of-result
invariant_of-result c =
    let owners : c.in_ok-owners.owners.items ≡ replicate c.args.capacity None = search rules in
    rw (owners, c.in_ok-free.ensures) (IsIndexed-new c.args.capacity (grind arith) (grind arith))
