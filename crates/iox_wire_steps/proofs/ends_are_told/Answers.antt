use Rattle.iox_wire_steps.proofs.Told.{asked_requests_are_told, sent_requests_are_told}
use Rattle.iox_wire_steps.proofs.ends_are_told.Goals as goal

pub returns-clause-sent : goal.returns-clause-sent
returns-clause-sent c = sent_requests_are_told

pub returns-clause-asked : goal.returns-clause-asked
returns-clause-asked c = asked_requests_are_told
