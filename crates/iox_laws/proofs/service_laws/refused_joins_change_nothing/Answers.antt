use Rattle.iox_laws.proofs.ServiceLaws.Joins.{refused_joins_change_nothing}
use Rattle.iox_laws.proofs.service_laws.refused_joins_change_nothing.Goals as goal

pub returns : goal.returns
returns c = refused_joins_change_nothing
