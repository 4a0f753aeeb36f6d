-- A worked weave with all limits 1: what is outstanding while a full queue pushes its oldest out.
use Rattle.std.specs.Prelude.{◌≡◌, ℕ, List, [], ◌∷◌, length}
use Rattle.iox_model.specs.declared.call.Call.TheVariants.{Loan, SendCopy, Receive, Release}
use Rattle.iox_model.specs.declared.call.WireCall.TheVariants as wire_calls
use Rattle.iox_model.specs.declared.reply.Reply.TheVariants.{Done}
use Rattle.iox_model.specs.declared.reply.Reply.TheVariants as replies
use Rattle.iox_model.specs.Weaves.{at_work, IsWeave, World, Beat, Begins, Makes, Ends}
use Rattle.iox_model.specs.Settings.{Limits}
use Rattle.iox_model.specs.Keeping.{kept_in}
use Rattle.iox_model.specs.States.{State}
use Rattle.iox_model.specs.WireCalls.{opened}
use Rattle.iox_model.specs.Moments.{Deliver, Evict, Take, GetBack, SeesNoneBack, Open, Close}
use Rattle.iox_model.specs.Defaults.{defaults}
use Rattle.iox_laws.specs.WorkedExamples.Examples.{request_saying}
use Rattle.iox_model.specs.Messages.{request_way, response_way}
use Rattle.iox_laws.specs.WeaveLaws.Laws.{on_lane}
use Rattle.iox_laws.specs.WorkedExamples.WorkedWeaves.{request_sent, IsSetUp}
use Rattle.iox_model.specs.Outstandings.{outstanding}

-- limits that are all 1, but for nodes and expired messages
abbrev pub ones : Limits
ones = record defaults {
  clients = 1;
  servers = 1;
  active_requests = 1;
  loaned_requests = 1;
  response_buffer = 1;
  borrowed_responses = 1;
  loaned_responses = 1;
}

-- Of three requests the server has the first; the second fills its queue; the third is one too many.
abbrev pub deliver_beats : List Beat
deliver_beats =
    Begins 0 (wire_calls.Port (SendCopy 0 (request_saying 1))) (on_lane 0)
    ∷ Makes 0 (SeesNoneBack (request_way 0 1))
    ∷ Makes 0 (SeesNoneBack (request_way 0 1))
    ∷ Makes 0 (Open (response_way 0 0 1) 0)
    ∷ Makes 0 (Deliver (request_way 0 1) (request_sent 0 0 1))
    ∷ Ends 0 (replies.Handle 2) []
    ∷ Begins 1 (wire_calls.Port (Receive 1)) (on_lane 0)
    ∷ Makes 1 (Take (request_way 0 1) (request_sent 0 0 1))
    ∷ Ends 1 (replies.Handle 2) []
    ∷ Begins 0 (wire_calls.Port (Release 2)) (on_lane 0)
    ∷ Makes 0 (Close (response_way 0 0 1) 0)
    ∷ Ends 0 Done []
    ∷ Begins 0 (wire_calls.Port (SendCopy 0 (request_saying 2))) (on_lane 1)
    ∷ Makes 0 (SeesNoneBack (request_way 0 1))
    ∷ Makes 0 (SeesNoneBack (request_way 0 1))
    ∷ Makes 0 (Open (response_way 0 1 1) 1)
    ∷ Makes 0 (Deliver (request_way 0 1) (request_sent 1 1 2))
    ∷ Ends 0 (replies.Handle 3) []
    ∷ Begins 0 (wire_calls.Port (Release 3)) (on_lane 0)
    ∷ Makes 0 (Close (response_way 0 1 1) 1)
    ∷ Ends 0 Done []
    ∷ Begins 0 (wire_calls.Port (SendCopy 0 (request_saying 3))) (on_lane 2)
    ∷ Makes 0 (SeesNoneBack (request_way 0 1))
    ∷ Makes 0 (SeesNoneBack (request_way 0 1))
    ∷ Makes 0 (Open (response_way 0 2 1) 2)
    ∷ Makes 0 (Deliver (request_way 0 1) (request_sent 2 2 3))
    ∷ []

-- the third request pushes the second out
abbrev pub evict_beats : List Beat
evict_beats = Makes 0 (Evict (request_way 0 1)) ∷ []

-- the client gets back what was pushed out, and its call ends
abbrev pub get_back_beats : List Beat
get_back_beats = Makes 0 (GetBack (request_way 0 1) 1) ∷ Ends 0 (replies.Handle 4) [] ∷ []

-- the client's next loan succeeds
abbrev pub next_loan_beats : List Beat
next_loan_beats =
    Begins 0 (wire_calls.Port (Loan 0 1)) (on_lane 0)
    ∷ Makes 0 (SeesNoneBack (request_way 0 1))
    ∷ Ends 0 (replies.Handle 5) (0 ∷ [])
    ∷ []

-- how many requests are outstanding on the way from client 0 to server 1
abbrev pub requests_out : World → ℕ
requests_out w = length (outstanding w.state 0 1 0)

-- With all limits 1, three requests are outstanding after the third delivery and after the
-- eviction, and two once the client got one back. Then it keeps two messages, and its next loan
-- succeeds.
abbrev pub KeepsTwo : Type 0
KeepsTwo =
    (s : State) × IsSetUp ones s
    × (a b c d : World) × IsWeave (at_work (opened s)) deliver_beats a × (requests_out a ≡ 3)
    × IsWeave a evict_beats b × (requests_out b ≡ 3)
    × IsWeave b get_back_beats c × (requests_out c ≡ 2) × (length (kept_in c 0) ≡ 2)
    × IsWeave c next_loan_beats d
