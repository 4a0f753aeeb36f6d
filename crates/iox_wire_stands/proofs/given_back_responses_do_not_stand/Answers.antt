use Rattle.iox_wire_stands.proofs.EndCounts.{given_back_responses_do_not_stand}
use Rattle.iox_wire_stands.proofs.given_back_responses_do_not_stand.Goals as goal

pub returns : goal.returns
returns c = given_back_responses_do_not_stand
