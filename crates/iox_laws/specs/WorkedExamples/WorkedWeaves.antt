-- A worked weave, on the wire of a service with two nodes, a client of the first, a server of the
-- second: a node stops.
use Rattle.std.specs.Prelude.{◌≡◌, ℕ, true, false, List, [], ◌∷◌, Some, None}
use Rattle.iox_model.specs.AllocationStrategy.TheVariants.{PowerOfTwo}
use Rattle.iox_model.specs.declared.way.RequestState.TheVariants.{Named}
use Rattle.iox_model.specs.declared.call.Call.TheVariants.{Loan, SendCopy, Receive, IsConnected}
use Rattle.iox_model.specs.declared.call.WireCall.TheVariants.{Forget}
use Rattle.iox_model.specs.declared.call.WireCall.TheVariants as wire_calls
use Rattle.iox_model.specs.declared.reply.Refusal.TheVariants.{ExceedsMaxLoans, GrowingStrategy}
use Rattle.iox_model.specs.declared.reply.Reply.TheVariants.{Done, Answer, Refused}
use Rattle.iox_model.specs.declared.reply.Reply.TheVariants as replies
use Rattle.iox_model.specs.Runs.{IsRun}
use Rattle.iox_model.specs.Weaves.{at_work, begun, IsWeave, World, Beat, Begins, Makes, Ends, Dies}
use Rattle.iox_model.specs.Settings.{Limits}
use Rattle.iox_model.specs.Keeping.{kept_in}
use Rattle.iox_model.specs.States.{State}
use Rattle.iox_model.specs.Schedules.{replies_of, Finished, Entry, Begin, Transition, Die, IsWeaveOf}
use Rattle.iox_model.specs.WireCalls.{wire_refusal, opened, WordsCall}
use Rattle.iox_laws.specs.WeaveLaws.Laws.{on_lane}
use Rattle.iox_model.specs.Moments.{Deliver, Take, SeesNoneBack, Open, Look}
use Rattle.iox_model.specs.Defaults.{defaults}
use Rattle.iox_laws.specs.WorkedExamples.Examples.{process, service, request_saying, set_up, is_set_up}
use Rattle.iox_model.specs.Commands.{Reply}
use Rattle.iox_model.specs.Messages.{request_way, response_way, Message}
use Rattle.iox_model.specs.Outstandings.{outstanding}

-- a request of client 0 of node 0
abbrev pub request_sent : ℕ → ℕ → ℕ → Message
request_sent serial lane w = record {
  sender = 0;
  serial = serial;
  node_id = process 1;
  port_id = process 1;
  lane = lane;
  request = serial;
  elements = 1;
  user = [];
  payload = w ∷ [];
}

-- with these limits, two nodes, the client and the server are set up, and a wire opens on them
abbrev pub IsSetUp : Limits → State → Type 0
IsSetUp l s = IsRun (service l) (set_up []) (is_set_up []) s × (wire_refusal s 0 true ≡ None)

-- A wire does not open where the messages of a port grow, also where only the service says so.
abbrev pub RefusesGrowingPorts : Type 0
RefusesGrowingPorts =
    (s : State) × IsRun (service (record defaults { server_allocation = PowerOfTwo })) (set_up []) (is_set_up []) s
    × (wire_refusal s 0 true ≡ Some GrowingStrategy)

-- The server took a request and makes no further step; its node dies and is forgotten.
abbrev pub stop_beats : List Beat
stop_beats =
    Begins 0 (wire_calls.Port (SendCopy 0 (request_saying 7))) (on_lane 0)
    ∷ Makes 0 (SeesNoneBack (request_way 0 1))
    ∷ Makes 0 (SeesNoneBack (request_way 0 1))
    ∷ Makes 0 (Open (response_way 0 0 1) 0)
    ∷ Makes 0 (Deliver (request_way 0 1) (request_sent 0 0 7))
    ∷ Ends 0 (replies.Handle 2) []
    ∷ Begins 1 (wire_calls.Port (Receive 1)) (on_lane 0)
    ∷ Makes 1 (Take (request_way 0 1) (request_sent 0 0 7))
    ∷ Begins 0 (wire_calls.Port (IsConnected 2)) (on_lane 0)
    ∷ Makes 0 (Look (response_way 0 0 1) (Named 0 false))
    ∷ Ends 0 (Answer true) []
    ∷ Dies 1
    ∷ Begins 0 (Forget 1) (on_lane 0)
    ∷ Ends 0 Done []
    ∷ Begins 0 (wire_calls.Port (IsConnected 2)) (on_lane 0)
    ∷ Ends 0 (Answer false) []
    ∷ []

-- The schedule that leads to these beats: begins with words, steps and a death. A step of a dead
-- node does nothing.
abbrev pub stop_entries : List Entry
stop_entries =
    Begin 0 (wire_calls.Port (SendCopy 0 (7 ∷ []))) ∷ Transition 0 ∷ Transition 0 ∷ Transition 0 ∷ Transition 0
    ∷ Begin 1 (wire_calls.Port (Receive 1)) ∷ Transition 1
    ∷ Begin 0 (wire_calls.Port (IsConnected 2)) ∷ Transition 0
    ∷ Die 1 ∷ Transition 1
    ∷ Begin 0 (Forget 1) ∷ Transition 0
    ∷ Begin 0 (wire_calls.Port (IsConnected 2)) ∷ Transition 0 ∷ []

-- a finished call of node 0, with its reply, and how many moments came before it began and before
-- it ended
abbrev pub finished : WordsCall → Reply → ℕ → ℕ → Finished
finished call reply begun ended =
    record { node = 0; call = call; reply = reply; begun = begun; ended = ended }

-- the finished calls of that weave, with their replies
abbrev pub stop_replies : List Finished
stop_replies =
    finished (wire_calls.Port (SendCopy 0 (7 ∷ []))) (replies.Handle 2) 0 4
    ∷ finished (wire_calls.Port (IsConnected 2)) (Answer true) 5 6
    ∷ finished (Forget 1) Done 6 6
    ∷ finished (wire_calls.Port (IsConnected 2)) (Answer false) 6 6
    ∷ []

-- the client's loans continue to succeed, up to their limit
abbrev pub loan_beats : List Beat
loan_beats =
    Begins 0 (wire_calls.Port (Loan 0 1)) (on_lane 1)
    ∷ Ends 0 (replies.Handle 3) (0 ∷ [])
    ∷ Begins 0 (wire_calls.Port (Loan 0 1)) (on_lane 2)
    ∷ Ends 0 (replies.Handle 4) (0 ∷ [])
    ∷ Begins 0 (wire_calls.Port (Loan 0 1)) (on_lane 3)
    ∷ Ends 0 (Refused ExceedsMaxLoans) []
    ∷ []

-- A server stops. Its client sees it connected, and gone once its node forgot the dead one. Then
-- nothing is outstanding there; the pending response keeps its message.
abbrev pub StopsAndIsForgotten : Type 0
StopsAndIsForgotten =
    (s : State) × IsSetUp defaults s
    × (v : World) × IsWeave (at_work (opened s)) stop_beats v
    × IsWeaveOf (at_work (opened s)) stop_entries stop_beats v
    × (replies_of stop_beats ≡ stop_replies)
    × (outstanding v.state 0 1 0 ≡ []) × (kept_in v 0 ≡ 0 ∷ [])
    × (u : World) × IsWeave v loan_beats u
