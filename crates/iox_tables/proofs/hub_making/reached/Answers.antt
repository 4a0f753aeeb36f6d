use Rattle.iox_tables.proofs.HubMaking.Reaching.{makings_are_reached, starts_are_reached}
use Rattle.iox_tables.proofs.hub_making.reached.Goals as goal

pub returns-clause-starts : goal.returns-clause-starts
returns-clause-starts c = starts_are_reached

pub returns-clause-makings : goal.returns-clause-makings
returns-clause-makings c = makings_are_reached
