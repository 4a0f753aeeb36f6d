use Rattle.iox_tables.proofs.HubKeeping.WorkedKeeps.{one_has_the_request, two_ports_are_in_order}
use Rattle.iox_tables.proofs.hub_keeping.worked.Goals as goal

pub returns-clause-two : goal.returns-clause-two
returns-clause-two c = two_ports_are_in_order

pub returns-clause-one : goal.returns-clause-one
returns-clause-one c = one_has_the_request
