use Rattle.iox_wire_laws.proofs.WireOwners.FirmOwners.{firm_owners_stay, firm_owners_go_on}
use Rattle.iox_wire_laws.proofs.wire_owners.firm_owners_go_on.Goals as goal

pub returns-clause-steps : goal.returns-clause-steps
returns-clause-steps c = firm_owners_stay

pub returns-clause-shown : goal.returns-clause-shown
returns-clause-shown c = firm_owners_go_on
