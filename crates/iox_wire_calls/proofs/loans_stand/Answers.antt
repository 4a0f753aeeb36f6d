use Rattle.iox_wire_calls.proofs.LoanEnds.{ends_keep_loan_slots}
use Rattle.iox_wire_calls.proofs.LoanSlots.{accesses_keep_loans, loans_are_told}
use Rattle.iox_wire_calls.proofs.loans_stand.Goals as goal

pub returns-clause-told : goal.returns-clause-told
returns-clause-told c = loans_are_told

pub returns-clause-accesses : goal.returns-clause-accesses
returns-clause-accesses c = accesses_keep_loans

pub returns-clause-ends : goal.returns-clause-ends
returns-clause-ends c = ends_keep_loan_slots
