use Rattle.iox_nodes.proofs.service.Service.join.Goals as goal

pub returns-in-Err-clause-joined : goal.returns-in-Err-clause-joined
returns-in-Err-clause-joined g c = rw c.in-Err.ensures.unchanged c.in-Err.ensures.wanting
