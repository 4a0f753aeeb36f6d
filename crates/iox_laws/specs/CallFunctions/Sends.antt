-- The send of a request without overflow as a function of lists.
use Rattle.std.specs.Prelude.{◌≡◌, ℕ, Bool, true, false, if◌then◌else◌, nat_le, List, [], ◌∷◌, length, map, Some}
use Rattle.std.specs.List.{list_any}
use Rattle.iox_model.specs.declared.kind.Role.TheVariants.{Server}
use Rattle.iox_model.specs.declared.way.Way.{Way}
use Rattle.iox_model.specs.declared.call.Call.TheVariants.{Send}
use Rattle.iox_model.specs.declared.reply.Refusal.TheVariants.{ExceedsMaxActiveRequests, UnableToDeliver}
use Rattle.iox_laws.specs.CallFunctions.Answers.{NoneInHand, answered, unless_misnamed}
use Rattle.iox_model.specs.Doings.{Sending, Outcome, Sends, FailsToSend}
use Rattle.iox_model.specs.Settings.{overflow_of}
use Rattle.iox_model.specs.States.{Handle, State}
use Rattle.iox_model.specs.Requests.{targets, to_open, sending_of, is_active_spent}
use Rattle.iox_model.specs.Handles.{is_request_loan, subject, TheHandle}
use Rattle.iox_model.specs.WholeCalls.{IsWholeCall}
use Rattle.iox_model.specs.Maps.{put_at, put, not_in, AreDistinctWays}
use Rattle.iox_model.specs.Moments.{moved, Deliver, Open}
use Rattle.iox_model.specs.Commands.{Reply}
use Rattle.iox_model.specs.Messages.{request_way, Message}
use Rattle.iox_model.specs.Peers.{role_at, others, buffer_on}

-- what is outstanding once these serials are got back
abbrev pub without_all : (ℕ → Bool) → List ℕ → ℕ → Bool
without_all f [] = f
without_all f (k ∷ ks) = without_all (put_at f k false) ks

-- the state once the sender got back all that was given back on the way
abbrev pub emptied_at : State → Way → State
emptied_at s w = record s {
  returned = put s.returned w [];
  delivered = put s.delivered w (without_all (s.delivered w) (s.returned w));
}

-- the state once the sender got back all that was given back on each of these ways
abbrev pub emptied : State → List Way → State
emptied s [] = s
emptied s (w ∷ ws) = emptied (emptied_at s w) ws

-- whether as many messages wait on the way as its buffer holds
abbrev pub is_full : State → Way → Bool
is_full s w = nat_le (buffer_on s.fixed w) (length (s.waiting w))

-- those of the ways that are full, the last first
abbrev pub full_of : State → List Way → List Way → List Way
full_of s [] full = full
full_of s (w ∷ ws) full = full_of s ws (if is_full s w then w ∷ full else full)

-- the state once the request is opened on each of these ways
abbrev pub opened_at : State → ℕ → List Way → State
opened_at s id [] = s
opened_at s id (w ∷ ws) = opened_at (moved s (Open w id)) id ws

-- the state once the message is delivered on each of these ways
abbrev pub delivered_to : State → Message → List Way → State
delivered_to s m [] = s
delivered_to s m (w ∷ ws) = delivered_to (moved s (Deliver w m)) m ws

-- a send that no full receiver makes fail: it is delivered to all others
abbrev pub sent_past : State → Sending → List Way → Outcome × State
sent_past s x full =
    let to : List Way = not_in full (targets x) in (
      Sends x.loan x.copied (length to),
      delivered_to (opened_at s x.loan.request (to_open x)) x.loan.message to,
    )

-- refused where a full receiver makes the send fail
abbrev pub sent_or_not : State → Sending → List Way → Outcome × State
sent_or_not s x full =
    if list_any x.fails full then (FailsToSend x.loan x.copied UnableToDeliver, s)
    else sent_past s x full

-- a send: gets back, tests the full ones, opens and delivers
abbrev pub sent : State → Sending → Outcome × State
sent s x =
    let t : State = emptied s (targets x) in sent_or_not t x (full_of t (targets x) [])

-- the send of a loaned request to these servers; `copied` tells that the call made its loan, too
abbrev pub sent_to : State → Handle → Bool → List ℕ → Outcome × State
sent_to s h copied servers =
    if is_active_spent s.fixed h then (FailsToSend h copied ExceedsMaxActiveRequests, s)
    else sent s (sending_of s.fixed h copied servers)

-- the reply of the whole call, and the state that it leaves
abbrev pub sent_by : State → ℕ → ℕ → Handle → Reply × State
sent_by s node n h =
    unless_misnamed s node (Send n)
    (answered s node (sent_to s h false (others s.fixed h.node Server)))

-- Without overflow, the send of a request as a function of lists is a whole call. It requires that
-- the servers' numbers differ and nothing is in hand.
abbrev pub EachSendIsWhole : Type 0
EachSendIsWhole =
    (s : State) (node n : ℕ) (h : Handle) → subject s.fixed node n ≡ Some (TheHandle h)
    → is_request_loan h.kind ≡ true
    → overflow_of s.fixed.limits (role_at s.fixed h.port) ≡ false
    → AreDistinctWays (map (request_way h.port) (others s.fixed h.node Server))
    → NoneInHand s
    → IsWholeCall s node (Send n) (sent_by s node n h).0 (sent_by s node n h).1
