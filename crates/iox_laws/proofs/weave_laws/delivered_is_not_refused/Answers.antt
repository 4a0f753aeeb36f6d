use Rattle.iox_laws.proofs.WeaveLaws.DeliveredLaws.{delivered_is_not_refused}
use Rattle.iox_laws.proofs.weave_laws.delivered_is_not_refused.Goals as goal

pub returns : goal.returns
returns c = delivered_is_not_refused
