-- The send of a request with overflow as a function of lists.
use Rattle.std.specs.Prelude.{◌≡◌, ℕ, Bool, true, false, if◌then◌else◌, List, [], ◌∷◌, length, map, Some, take, ⊤}
use Rattle.iox_model.specs.declared.kind.Role.TheVariants.{Server}
use Rattle.iox_model.specs.declared.way.Way.{Way}
use Rattle.iox_model.specs.declared.call.Call.TheVariants.{Send}
use Rattle.iox_model.specs.declared.reply.Refusal.TheVariants.{ExceedsMaxActiveRequests}
use Rattle.iox_laws.specs.CallFunctions.Sends.{without_all, emptied, opened_at}
use Rattle.iox_laws.specs.CallFunctions.Answers.{NoneInHand, answered, unless_misnamed}
use Rattle.iox_model.specs.Doings.{Sending, Outcome, Sends, FailsToSend}
use Rattle.iox_model.specs.Settings.{overflow_of}
use Rattle.iox_model.specs.States.{Handle, State}
use Rattle.iox_model.specs.Requests.{targets, to_open, sending_of, is_active_spent}
use Rattle.iox_model.specs.Handles.{is_request_loan, subject, TheHandle}
use Rattle.iox_model.specs.WholeCalls.{IsWholeCall}
use Rattle.iox_model.specs.Maps.{rest_of, put, AreDistinctWays}
use Rattle.iox_model.specs.Moments.{is_overfull, moved, Deliver}
use Rattle.iox_model.specs.Commands.{Reply}
use Rattle.iox_model.specs.Messages.{request_way, serials_of, Message}
use Rattle.iox_model.specs.Peers.{role_at, others}

-- on none of these ways more messages wait than the buffer holds
abbrev pub NotOver : State → List Way → Type 0
NotOver s [] = ⊤
NotOver s (w ∷ ws) = (is_overfull s w ≡ false) × NotOver s ws

-- the state once the first that waits is given up, and no longer outstanding
abbrev pub evicted_from : State → Way → State
evicted_from s w = record s {
  waiting = put s.waiting w (rest_of (s.waiting w));
  delivered = put s.delivered w (without_all (s.delivered w) (serials_of (take 1 (s.waiting w))));
}

-- the state once the message waits as the last; if that is one too many, the first is given up
abbrev pub pushed : State → Message → Way → State
pushed s m w =
    let t : State = moved s (Deliver w m) in if is_overfull t w then evicted_from t w else t

-- the state once the message is delivered on each of these ways, and the oldest given up where a
-- queue is full
abbrev pub pushed_to : State → Message → List Way → State
pushed_to s m [] = s
pushed_to s m (w ∷ ws) = pushed_to (pushed s m w) m ws

-- a send with overflow: all ways are emptied, opened and delivered on
abbrev pub sent_over : State → Sending → Outcome × State
sent_over s x = (
  Sends x.loan x.copied (length (targets x)),
  pushed_to (opened_at (emptied s (targets x)) x.loan.request (to_open x)) x.loan.message (targets x),
)

-- the send of a loaned request to these servers; `copied` tells that the call made its loan, too
abbrev pub sent_over_to : State → Handle → Bool → List ℕ → Outcome × State
sent_over_to s h copied servers =
    if is_active_spent s.fixed h then (FailsToSend h copied ExceedsMaxActiveRequests, s)
    else sent_over s (sending_of s.fixed h copied servers)

-- the reply of the whole call, and the state that it leaves
abbrev pub sent_over_by : State → ℕ → ℕ → Handle → Reply × State
sent_over_by s node n h =
    unless_misnamed s node (Send n)
    (answered s node (sent_over_to s h false (others s.fixed h.node Server)))

-- With overflow, the send of a request as a function of lists is a whole call. It requires that the
-- servers' numbers differ, nothing is in hand and no way has a message too many.
abbrev pub EachOverflowingSendIsWhole : Type 0
EachOverflowingSendIsWhole =
    (s : State) (node n : ℕ) (h : Handle) → subject s.fixed node n ≡ Some (TheHandle h)
    → is_request_loan h.kind ≡ true
    → overflow_of s.fixed.limits (role_at s.fixed h.port) ≡ true
    → AreDistinctWays (map (request_way h.port) (others s.fixed h.node Server))
    → NoneInHand s
    → NotOver s (map (request_way h.port) (others s.fixed h.node Server))
    → IsWholeCall s node (Send n) (sent_over_by s node n h).0 (sent_over_by s node n h).1
