use Rattle.iox_tables.proofs.HubMaking.Disconnecting.{disconnections_are_shown}
use Rattle.iox_tables.proofs.HubMaking.Testing.{releases_are_shown, unused_is_told}
use Rattle.iox_tables.proofs.hub_making.disconnections.Goals as goal

pub returns-clause-alone : goal.returns-clause-alone
returns-clause-alone c = disconnections_are_shown

pub returns-clause-tested : goal.returns-clause-tested
returns-clause-tested c = releases_are_shown

pub returns-clause-told : goal.returns-clause-told
returns-clause-told c = unused_is_told
