use Rattle.iox_wire_needs.proofs.Uses.{accesses_find_in_use, loans_get_back_in_use, what_is_sent_is_in_use}
use Rattle.iox_wire_needs.proofs.slots_are_in_use.Goals as goal

pub returns-clause-found : goal.returns-clause-found
returns-clause-found c = accesses_find_in_use

pub returns-clause-lent : goal.returns-clause-lent
returns-clause-lent c = loans_get_back_in_use

pub returns-clause-sent : goal.returns-clause-sent
returns-clause-sent c = what_is_sent_is_in_use
