use Rattle.iox_laws.proofs.ServiceLaws.Listings.{nodes_are_listed, clients_are_listed, servers_are_listed}
use Rattle.iox_laws.proofs.service_laws.listings_are_exact.Goals as goal

pub returns-clause-nodes : goal.returns-clause-nodes
returns-clause-nodes c = nodes_are_listed

pub returns-clause-clients : goal.returns-clause-clients
returns-clause-clients c = clients_are_listed

pub returns-clause-servers : goal.returns-clause-servers
returns-clause-servers c = servers_are_listed
