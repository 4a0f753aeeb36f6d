use Rattle.iox_laws.proofs.WeaveBeats.Fresh.{deliveries_are_fresh}
use Rattle.iox_laws.proofs.weave_beats.deliveries_are_fresh.Goals as goal

pub returns : goal.returns
returns c = record { fresh = deliveries_are_fresh }
