use Rattle.iox_laws.proofs.ServiceLaws.Closed.{closed_with_the_last_node, closed_services_are_bare, ports_are_of_nodes}
use Rattle.iox_laws.proofs.service_laws.closed_services_are_bare.Goals as goal

pub returns-clause-last : goal.returns-clause-last
returns-clause-last c = closed_with_the_last_node

pub returns-clause-bare : goal.returns-clause-bare
returns-clause-bare c = closed_services_are_bare

pub returns-clause-ports : goal.returns-clause-ports
returns-clause-ports c = ports_are_of_nodes
