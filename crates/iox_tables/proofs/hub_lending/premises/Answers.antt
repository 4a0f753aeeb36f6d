use Rattle.iox_tables.proofs.HubLending.Owning.{free_slots_are_unused, handles_are_on_nodes, ports_are_ready}
use Rattle.iox_tables.proofs.hub_lending.premises.Goals as goal

pub returns-clause-nodes : goal.returns-clause-nodes
returns-clause-nodes c = handles_are_on_nodes

pub returns-clause-ports : goal.returns-clause-ports
returns-clause-ports c = ports_are_ready

pub returns-clause-free : goal.returns-clause-free
returns-clause-free c = free_slots_are_unused
