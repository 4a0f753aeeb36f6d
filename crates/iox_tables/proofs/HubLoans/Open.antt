-- Some payload may be held, whatever the call.
use Rattle.std.specs.Prelude.{ℕ, Bool, true, false, List, [], refl}
use Rattle.iox_model.specs.declared.call.Call.TheVariants.{Loan, LoanUninit, Write, Send, SendCopy, Receive, Read, Release, IsConnected, SetHint, HasHint, HasRequests, HasResponse}
use Rattle.iox_model.specs.Doings.{Outcome, Tells, Loans, Fills, Sends, FailsToSend, Receives, Drops, DropsPort, Forgets}
use Rattle.iox_model.specs.Settings.{Shape}
use Rattle.iox_model.specs.WholeCalls.{default_payload, is_uninit, shape_of_loan, MayHold, PayloadMayBe}
use Rattle.iox_laws.specs.CallFunctions.Loans.{loaned_from}
use Rattle.iox_tables.specs.HubStates.Tables.{HubTables}
use Rattle.iox_tables.specs.HubStates.States.{Given, fixed_of, state_shown}
use Rattle.iox_tables.specs.HubLoans.Loans.{SomePayloadMayBeHeld}

module _ (x : Given) (t : HubTables) where
  of_shape : (uninit : Bool) (shape : Shape) (k : ℕ) → (payload : List ℕ) × PayloadMayBe uninit false shape k payload
  of_shape true shape k = ([], refl)
  of_shape false shape k = (default_payload shape k, refl)

  of_outcome : (o : Outcome) → (payload : List ℕ) × MayHold (fixed_of x t) o payload
  of_outcome (Tells r) = ([], tt)
  of_outcome (Loans h) = of_shape (is_uninit h.kind) (shape_of_loan (fixed_of x t) h) h.message.elements
  of_outcome (Fills h) = ([], tt)
  of_outcome (Sends h copied count) = ([], tt)
  of_outcome (FailsToSend h copied r) = ([], tt)
  of_outcome (Receives r w n) = ([], tt)
  of_outcome (Drops h) = ([], tt)
  of_outcome (DropsPort p) = ([], tt)
  of_outcome (Forgets dead) = ([], tt)

pub some_payload_may_be_held : SomePayloadMayBeHeld
some_payload_may_be_held x t node (Loan n k) c = of_outcome x t (loaned_from (state_shown x t) node n k c false).0
some_payload_may_be_held x t node (LoanUninit n k) c = ([], tt)
some_payload_may_be_held x t node (Write n p) c = ([], tt)
some_payload_may_be_held x t node (Send n) c = ([], tt)
some_payload_may_be_held x t node (SendCopy n p) c = ([], tt)
some_payload_may_be_held x t node (Receive n) c = ([], tt)
some_payload_may_be_held x t node (Read n) c = ([], tt)
some_payload_may_be_held x t node (Release n) c = ([], tt)
some_payload_may_be_held x t node (IsConnected n) c = ([], tt)
some_payload_may_be_held x t node (SetHint n) c = ([], tt)
some_payload_may_be_held x t node (HasHint n) c = ([], tt)
some_payload_may_be_held x t node (HasRequests n) c = ([], tt)
some_payload_may_be_held x t node (HasResponse n) c = ([], tt)
