use Rattle.iox_hub_laws.proofs.Succeeding.{loans_succeed}
use Rattle.iox_hub_laws.proofs.limits.loans_succeed.Goals as goal

pub returns-clause-reached : goal.returns-clause-reached
returns-clause-reached g c = c.is_in_order.ensures.reached

pub returns-clause-made : goal.returns-clause-made
returns-clause-made g c = loans_succeed c.is_in_order.ensures
