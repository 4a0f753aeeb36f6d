use Rattle.iox_laws.proofs.CallFunctions.LoanSending.{each_loan_send_is_whole}
use Rattle.iox_laws.proofs.call_functions.loan_sends.Goals as goal

pub returns : goal.returns
returns c = each_loan_send_is_whole
