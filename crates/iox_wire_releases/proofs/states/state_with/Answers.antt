use Rattle.iox_wire_releases.proofs.states.state_with.Goals as goal

pub returns-clause-place : goal.returns-clause-place
returns-clause-place c = c.state-place.ensures
