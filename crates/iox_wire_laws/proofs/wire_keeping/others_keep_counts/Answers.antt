use Rattle.iox_wire_laws.proofs.WireKeeping.PlacesKnown.{places_are_known}
use Rattle.iox_wire_laws.proofs.WireKeeping.OthersKept.{others_keep_counts}
use Rattle.iox_wire_laws.proofs.wire_keeping.others_keep_counts.Goals as goal

pub returns-clause-places : goal.returns-clause-places
returns-clause-places c = places_are_known

pub returns-clause-counts : goal.returns-clause-counts
returns-clause-counts c = others_keep_counts
