use Rattle.iox_sets.proofs.mpmc.robust_unique_index_set.fixed_size.StaticRobustUniqueIndexSet.recover.Goals as goal

pub returns-clause-owners : goal.returns-clause-owners
returns-clause-owners g c = rw (← c.self.view_is) c.recover.ensures.owners
