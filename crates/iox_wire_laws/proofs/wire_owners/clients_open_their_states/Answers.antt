use Rattle.iox_wire_laws.proofs.WireOwners.RequestStates.{only_clients_open, others_open_nothing}
use Rattle.iox_wire_laws.proofs.wire_owners.clients_open_their_states.Goals as goal

pub returns-clause-opened : goal.returns-clause-opened
returns-clause-opened c = only_clients_open

pub returns-clause-others : goal.returns-clause-others
returns-clause-others c = others_open_nothing
