use Rattle.iox_tables.proofs.HubLending.WorkedHolds.{client_may_not_lend, server_may_lend}
use Rattle.iox_tables.proofs.hub_lending.worked.Goals as goal

pub returns-clause-server : goal.returns-clause-server
returns-clause-server c = server_may_lend

pub returns-clause-client : goal.returns-clause-client
returns-clause-client c = client_may_not_lend
