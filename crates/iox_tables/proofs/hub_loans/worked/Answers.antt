use Rattle.iox_tables.proofs.HubLoans.WorkedHolds.{client_copies_once, client_lends_once, loan_is_written, numbers_are_refused}
use Rattle.iox_tables.proofs.hub_loans.worked.Goals as goal

pub returns-clause-lends : goal.returns-clause-lends
returns-clause-lends c = client_lends_once

pub returns-clause-writes : goal.returns-clause-writes
returns-clause-writes c = loan_is_written

pub returns-clause-copies : goal.returns-clause-copies
returns-clause-copies c = client_copies_once

pub returns-clause-refuses : goal.returns-clause-refuses
returns-clause-refuses c = numbers_are_refused
