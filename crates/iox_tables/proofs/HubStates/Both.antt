-- Visits to both kinds of pipes of a port.
use Rattle.iox_tables.specs.HubStates.Receives.{VisitsAreOfBoth}
use Rattle.iox_tables.proofs.HubStates.Borrows.{both_are, both_left}

pub visits_are_of_both : VisitsAreOfBoth
visits_are_of_both wanted labels lane p = (both_are wanted labels lane p, both_left wanted labels lane p)
