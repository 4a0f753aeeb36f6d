use Rattle.iox_sets.proofs.mpmc.counting_bit_set.fixed_size.FixedSizeCountingBitSet.reset_all.Goals as goal

pub returns-clause-called : goal.returns-clause-called
returns-clause-called g c = rw (← c.self.view_is) c.reset_all.ensures.called
