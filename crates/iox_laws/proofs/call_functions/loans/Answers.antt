use Rattle.iox_laws.proofs.CallFunctions.Lending.{each_loan_is_whole, each_uninit_loan_is_whole}
use Rattle.iox_laws.proofs.call_functions.loans.Goals as goal

pub returns-clause-filled : goal.returns-clause-filled
returns-clause-filled c = each_loan_is_whole

pub returns-clause-unfilled : goal.returns-clause-unfilled
returns-clause-unfilled c = each_uninit_loan_is_whole
