use Rattle.iox_tables.proofs.HubStates.Placing.{places_are_of_numbers, ranks_are_of_senders}
use Rattle.iox_tables.proofs.hub_states.places.Goals as goal

pub returns-clause-ranks : goal.returns-clause-ranks
returns-clause-ranks c = ranks_are_of_senders

pub returns-clause-ports : goal.returns-clause-ports
returns-clause-ports c = places_are_of_numbers
