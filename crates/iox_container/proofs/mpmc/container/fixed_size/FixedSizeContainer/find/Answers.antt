use Rattle.iox_container.proofs.mpmc.container.fixed_size.FixedSizeContainer.find.Goals as goal

pub returns-clause-accepted : goal.returns-clause-accepted
returns-clause-accepted g c = rw (← c.self.view_is) c.find.ensures.accepted
