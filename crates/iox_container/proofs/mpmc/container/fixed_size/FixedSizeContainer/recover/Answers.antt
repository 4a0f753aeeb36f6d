use Rattle.iox_container.proofs.mpmc.container.fixed_size.FixedSizeContainer.recover.Goals as goal

pub returns-clause-recovered : goal.returns-clause-recovered
returns-clause-recovered g c = rw (← c.self.view_is) c.recover.ensures.recovered
