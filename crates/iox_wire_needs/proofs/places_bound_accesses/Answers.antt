use Rattle.iox_wire_needs.proofs.PlaceBounds.{cells_stay, nodes_are_bound, places_bound_accesses}
use Rattle.iox_wire_needs.proofs.places_bound_accesses.Goals as goal

pub returns-clause-accesses : goal.returns-clause-accesses
returns-clause-accesses c = places_bound_accesses

pub returns-clause-cells : goal.returns-clause-cells
returns-clause-cells c = cells_stay

pub returns-clause-nodes : goal.returns-clause-nodes
returns-clause-nodes c = nodes_are_bound
