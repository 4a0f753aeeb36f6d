use Rattle.iox_tables.proofs.HubMaking.Ending.{loans_end, pendings_end, ports_end, requests_end, responses_end}
use Rattle.iox_tables.proofs.hub_making.whole_releases.Goals as goal

pub returns-clause-loans : goal.returns-clause-loans
returns-clause-loans c = loans_end

pub returns-clause-pendings : goal.returns-clause-pendings
returns-clause-pendings c = pendings_end

pub returns-clause-responses : goal.returns-clause-responses
returns-clause-responses c = responses_end

pub returns-clause-requests : goal.returns-clause-requests
returns-clause-requests c = requests_end

pub returns-clause-ports : goal.returns-clause-ports
returns-clause-ports c = ports_end
