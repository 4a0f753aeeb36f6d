use Rattle.iox_wire_laws.proofs.WireKeeping.PicksFitted.{picks_fit}
use Rattle.iox_wire_laws.proofs.WireKeeping.DeliveriesFitted.{deliveries_fit}
use Rattle.iox_wire_laws.proofs.wire_keeping.pools_stay_fit.Goals as goal

pub returns-clause-picks : goal.returns-clause-picks
returns-clause-picks c = picks_fit

pub returns-clause-deliveries : goal.returns-clause-deliveries
returns-clause-deliveries c = deliveries_fit
