use Rattle.iox_tables.proofs.HubLending.Filled.{fillings_keep_loans, kinds_may_change, loans_are_of_one_handle, writes_keep_loans}
use Rattle.iox_tables.proofs.hub_lending.filling.Goals as goal

pub returns-clause-alone : goal.returns-clause-alone
returns-clause-alone c = loans_are_of_one_handle

pub returns-clause-kinds : goal.returns-clause-kinds
returns-clause-kinds c = kinds_may_change

pub returns-clause-writes : goal.returns-clause-writes
returns-clause-writes c = writes_keep_loans

pub returns-clause-fills : goal.returns-clause-fills
returns-clause-fills c = fillings_keep_loans
