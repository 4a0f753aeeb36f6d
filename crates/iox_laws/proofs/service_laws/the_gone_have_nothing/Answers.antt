use Rattle.iox_laws.proofs.ServiceLaws.Gone.{nothing_is_for_the_gone, nothing_is_owed_to_the_gone, nothing_is_in_hand}
use Rattle.iox_laws.proofs.service_laws.the_gone_have_nothing.Goals as goal

pub returns-clause-received : goal.returns-clause-received
returns-clause-received c = nothing_is_for_the_gone

pub returns-clause-sent : goal.returns-clause-sent
returns-clause-sent c = nothing_is_owed_to_the_gone

pub returns-clause-in_hand : goal.returns-clause-in_hand
returns-clause-in_hand c = nothing_is_in_hand
