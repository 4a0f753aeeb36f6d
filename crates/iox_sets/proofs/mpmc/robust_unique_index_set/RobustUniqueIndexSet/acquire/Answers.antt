use Rattle.std.proofs.Common.{sym}
use Rattle.iox_sets.proofs.OwnedLemmas.{IsIndexed-taken, was_none}
use Rattle.iox_sets.proofs.mpmc.robust_unique_index_set.RobustUniqueIndexSet.acquire.Goals as goal

pub invariant_of-self-2 : goal.invariant_of-self-2
invariant_of-self-2 c =
    rw (c.in-Some.ensures.cleared) (
    IsIndexed-taken _ _ _ _ c.self.invariant c.in-Some.index c.args.owner c.if-self.false (sym c.in-Some.ensures.lowest))

pub returns-clause-was_free : goal.returns-clause-was_free
returns-clause-was_free c =
    rw (← c.self.view_is) (
    was_none _ _ _ _ c.self.invariant c.in-Some.index c.args.owner c.if-self.false (sym c.in-Some.ensures.lowest))
