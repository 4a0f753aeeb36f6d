use Rattle.iox_tables.proofs.HubMaking.Working.{one_of_each_is_made, requests_go_with_clients}
use Rattle.iox_tables.proofs.hub_making.worked.Goals as goal

pub returns-clause-made : goal.returns-clause-made
returns-clause-made c = one_of_each_is_made

pub returns-clause-goes : goal.returns-clause-goes
returns-clause-goes c = requests_go_with_clients
