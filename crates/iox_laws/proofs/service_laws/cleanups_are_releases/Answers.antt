use Rattle.iox_laws.proofs.ServiceLaws.Cleaning.{cleanups_are_releases}
use Rattle.iox_laws.proofs.ServiceLaws.Ordered.{releases_ascend}
use Rattle.iox_laws.proofs.service_laws.cleanups_are_releases.Goals as goal

pub returns-clause-same : goal.returns-clause-same
returns-clause-same c = cleanups_are_releases

pub returns-clause-ascending : goal.returns-clause-ascending
returns-clause-ascending c = releases_ascend
