use Rattle.std.proofs.Common.{◌<◌, arith}
use Rattle.iox_sets.proofs.FreeListLemmas.{AreIndexPlaces-taken, Takes-next}
use Rattle.iox_sets.proofs.mpmc.unique_index_set.UniqueIndexSet.acquire_raw_index.Goals as goal

pub invariant_of-self : goal.invariant_of-self
invariant_of-self c =
    let some : 0 < c.self.inside.free = omega (arith, c.if-self-eq0.false) in
    AreIndexPlaces-taken _ _ _ some c.index.ensures _ c.self.invariant

pub returns-clause-acquired : goal.returns-clause-acquired
returns-clause-acquired c =
    let some : 0 < c.self.inside.free = omega (arith, c.if-self-eq0.false) in
    rw (← c.self.view_is) (Takes-next _ _ _ some c.index.ensures _ c.self.invariant)
