-- What `call_by` says is a whole call.
use Rattle.iox_model.specs.declared.call.Call.TheVariants.{Loan, LoanUninit, Write, Send, SendCopy, Receive, Read, Release, IsConnected, SetHint, HasHint, HasRequests, HasResponse}
use Rattle.iox_laws.specs.CallFunctions.Calls.{EachCallIsWhole}
use Rattle.iox_laws.proofs.CallFunctions.Copying.{each_copy_is_whole}
use Rattle.iox_laws.proofs.CallFunctions.Holding.{each_write_is_whole, each_read_is_whole}
use Rattle.iox_laws.proofs.CallFunctions.Lending.{each_loan_is_whole, each_uninit_loan_is_whole}
use Rattle.iox_laws.proofs.CallFunctions.LoanSending.{each_loan_send_is_whole}
use Rattle.iox_laws.proofs.CallFunctions.Looking.{each_seek_is_whole, each_question_is_whole, each_hint_is_whole}
use Rattle.iox_laws.proofs.CallFunctions.Received.{each_receive_is_whole}
use Rattle.iox_laws.proofs.CallFunctions.Releasing.{each_release_is_whole}
use Rattle.iox_laws.specs.CallFunctions.Copies.{copied_order}

pub each_call_is_whole : EachCallIsWhole
each_call_is_whole s node (Loan n k) c payload ready choice holds = each_loan_is_whole s node n k c payload choice ready.none holds
each_call_is_whole s node (LoanUninit n k) c payload ready choice holds = each_uninit_loan_is_whole s node n k c choice ready.none
each_call_is_whole s node (Write n p) c payload ready choice holds = each_write_is_whole s node n p
each_call_is_whole s node (Send n) c payload ready choice holds = each_loan_send_is_whole s node n ready.none (ready.sends n)
each_call_is_whole s node (SendCopy n p) c payload ready choice holds =
    each_copy_is_whole s node n c p choice ready.none (λ k e. ready.copies n c (copied_order k p.words))
each_call_is_whole s node (Receive n) c payload ready choice holds = each_receive_is_whole s node n ready.nobody
each_call_is_whole s node (Read n) c payload ready choice holds = each_read_is_whole s node n c choice
each_call_is_whole s node (Release n) c payload ready choice holds = each_release_is_whole s node n
each_call_is_whole s node (IsConnected n) c payload ready choice holds = (each_question_is_whole s node n).0
each_call_is_whole s node (SetHint n) c payload ready choice holds = each_hint_is_whole s node n
each_call_is_whole s node (HasHint n) c payload ready choice holds = (each_question_is_whole s node n).1
each_call_is_whole s node (HasRequests n) c payload ready choice holds = (each_seek_is_whole s node n).0
each_call_is_whole s node (HasResponse n) c payload ready choice holds = (each_seek_is_whole s node n).1
