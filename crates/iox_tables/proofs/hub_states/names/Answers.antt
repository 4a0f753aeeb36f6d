use Rattle.iox_tables.proofs.HubStates.Naming.{each_handle_is_named, each_port_is_named}
use Rattle.iox_tables.proofs.hub_states.names.Goals as goal

pub returns-clause-handles : goal.returns-clause-handles
returns-clause-handles c = each_handle_is_named

pub returns-clause-ports : goal.returns-clause-ports
returns-clause-ports c = each_port_is_named
