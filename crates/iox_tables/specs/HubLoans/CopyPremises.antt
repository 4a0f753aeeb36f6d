-- A copy may be sent where the loan that it makes, once it is handed out, may be sent.
use Rattle.std.specs.Prelude.{false}
use Rattle.iox_model.specs.declared.kind.Role.{Role}
use Rattle.iox_model.specs.Doings.{Sending}
use Rattle.iox_model.specs.Requests.{sending_of}
use Rattle.iox_tables.specs.HubStates.Tables.{HandleState, HubTables}
use Rattle.iox_tables.specs.HubStates.States.{Given, fixed_of}
use Rattle.iox_tables.specs.HubStates.Releases.{handle_shown}
use Rattle.iox_tables.specs.HubStates.Sends.{MaySendFrom}
use Rattle.iox_tables.specs.HubLoans.CopySends.{copy_sending, receivers_by}
use Rattle.iox_tables.specs.HubLoans.Loans.{with_handed_out}

-- the send of a loan by a port of that role: what `request_sending` and `response_sending` are
abbrev pub loan_sending : Role → Given → HubTables → HandleState → Sending
loan_sending role x t h =
    sending_of (fixed_of x t) (handle_shown x t h) false (receivers_by role t h.client)

-- What may be sent as a loan may be sent as a copy.
abbrev pub CopiesMayBeSent : Type 0
CopiesMayBeSent =
    (x : Given) (t : HubTables) (h : HandleState) (role : Role)
    → MaySendFrom x (with_handed_out t h) (loan_sending role x (with_handed_out t h) h) h.pool h.slot
    → MaySendFrom x t (copy_sending role x t h) h.pool h.slot
