use Rattle.iox_wire_laws.proofs.WireRegions.Readers.{what_is_out_is_not_stored, what_is_read_is_out, what_is_read_stays}
use Rattle.iox_wire_laws.proofs.wire_regions.what_is_read_stays.Goals as goal

pub returns-clause-unstored : goal.returns-clause-unstored
returns-clause-unstored c = what_is_out_is_not_stored

pub returns-clause-out : goal.returns-clause-out
returns-clause-out c = what_is_read_is_out

pub returns-clause-stays : goal.returns-clause-stays
returns-clause-stays c = what_is_read_stays
