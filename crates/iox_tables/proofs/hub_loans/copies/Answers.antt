use Rattle.iox_tables.proofs.HubLoans.CopyCalls.{copies_are_sent, copies_are_sent_over, spent_copies_are_refused, unawaited_copies_go_to_nobody}
use Rattle.iox_tables.proofs.HubLoans.CopyMay.{copies_may_be_sent}
use Rattle.iox_tables.proofs.hub_loans.copies.Goals as goal

pub returns-clause-spent : goal.returns-clause-spent
returns-clause-spent c = spent_copies_are_refused

pub returns-clause-unawaited : goal.returns-clause-unawaited
returns-clause-unawaited c = unawaited_copies_go_to_nobody

pub returns-clause-plain : goal.returns-clause-plain
returns-clause-plain c = copies_are_sent

pub returns-clause-over : goal.returns-clause-over
returns-clause-over c = copies_are_sent_over

pub returns-clause-premises : goal.returns-clause-premises
returns-clause-premises c = copies_may_be_sent
