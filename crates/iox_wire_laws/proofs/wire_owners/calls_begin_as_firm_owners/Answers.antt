use Rattle.iox_wire_laws.proofs.WireOwners.FirmOwners.{calls_begin_firmly}
use Rattle.iox_wire_laws.proofs.WireOwners.Releases.{releases_begin_as_owners}
use Rattle.iox_wire_laws.proofs.wire_owners.calls_begin_as_firm_owners.Goals as goal

pub returns-clause-calls : goal.returns-clause-calls
returns-clause-calls c = calls_begin_firmly

pub returns-clause-releases : goal.returns-clause-releases
returns-clause-releases c = releases_begin_as_owners
