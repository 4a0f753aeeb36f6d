use Rattle.iox_wire_laws.proofs.WireRegions.OwnedPlaces.{owners_may_access}
use Rattle.iox_wire_laws.proofs.WireRegions.OwnedNext.{owners_go_on, owners_stay_owners}
use Rattle.iox_wire_laws.proofs.wire_regions.owners_go_on.Goals as goal

pub returns-clause-places : goal.returns-clause-places
returns-clause-places c = owners_may_access

pub returns-clause-steps : goal.returns-clause-steps
returns-clause-steps c = owners_stay_owners

pub returns-clause-shown : goal.returns-clause-shown
returns-clause-shown c = owners_go_on
