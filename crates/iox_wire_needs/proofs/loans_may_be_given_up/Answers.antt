use Rattle.iox_wire_needs.proofs.GivenUp.{new_loans_may_be_given_up, requests_may_be_given_up}
use Rattle.iox_wire_needs.proofs.loans_may_be_given_up.Goals as goal

pub returns-clause-sent : goal.returns-clause-sent
returns-clause-sent c = requests_may_be_given_up

pub returns-clause-made : goal.returns-clause-made
returns-clause-made c = new_loans_may_be_given_up
