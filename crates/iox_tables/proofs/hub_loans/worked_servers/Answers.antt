use Rattle.iox_tables.proofs.HubLoans.ServersHold.{both_are_connected, client_finds_dry_pool, server_copies_once, server_lends_once}
use Rattle.iox_tables.proofs.hub_loans.worked_servers.Goals as goal

pub returns-clause-lends : goal.returns-clause-lends
returns-clause-lends c = server_lends_once

pub returns-clause-dry : goal.returns-clause-dry
returns-clause-dry c = client_finds_dry_pool

pub returns-clause-copies : goal.returns-clause-copies
returns-clause-copies c = server_copies_once

pub returns-clause-connected : goal.returns-clause-connected
returns-clause-connected c = both_are_connected
