use Rattle.iceoryx2_wire.proofs.service.Service.port.Goals as goal

pub returns-clause-answered : goal.returns-clause-answered
returns-clause-answered g c = rw (← c.self.view_is) c.port.ensures.answered

pub returns-clause-grows : goal.returns-clause-grows
returns-clause-grows g c = rw (← c.self.view_is) c.port.ensures.grows
