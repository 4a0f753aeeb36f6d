-- A receive as a function of lists.
use Rattle.std.specs.Prelude.{◌≡◌, ℕ, Bool, false, not, ◌||◌, if◌then◌else◌, ◌==◌, List, [], ◌∷◌, ◌++◌, Option, Some, None}
use Rattle.iox_model.specs.declared.kind.Role.TheVariants.{Client, Server}
use Rattle.iox_model.specs.declared.way.Way.{Way}
use Rattle.iox_model.specs.declared.call.Call.TheVariants.{Receive}
use Rattle.iox_model.specs.declared.reply.Refusal.TheVariants.{UnknownNumber, ExceedsMaxBorrows}
use Rattle.iox_model.specs.declared.reply.Reply.TheVariants.{Nothing, Refused}
use Rattle.iox_laws.specs.CallFunctions.Answers.{answered, unless_misnamed}
use Rattle.iox_model.specs.Receives.{server_ways, pending_ways, state_of_request, is_at_limit}
use Rattle.iox_model.specs.Doings.{Receiver, Outcome, Tells, Receives}
use Rattle.iox_model.specs.Settings.{is_client}
use Rattle.iox_model.specs.States.{State}
use Rattle.iox_model.specs.Handles.{subject, Subject, ThePort, TheHandle}
use Rattle.iox_model.specs.WholeCalls.{IsWholeCall}
use Rattle.iox_model.specs.Maps.{is_empty, put}
use Rattle.iox_model.specs.Commands.{Reply}
use Rattle.iox_model.specs.Messages.{serials_of, names, Message}
use Rattle.iox_model.specs.Peers.{is_counted_on}

-- ---- a list of messages, searched for the first that passes a test

-- the messages before the first that passes the test
abbrev pub before_first : (Message → Bool) → List Message → List Message
before_first test [] = []
before_first test (m ∷ ms) = if test m then [] else m ∷ before_first test ms

-- the first message that passes the test
abbrev pub first_that : (Message → Bool) → List Message → Option Message
first_that test [] = None
first_that test (m ∷ ms) = if test m then Some m else first_that test ms

-- the messages behind the first that passes the test
abbrev pub after_first : (Message → Bool) → List Message → List Message
after_first test [] = []
after_first test (m ∷ ms) = if test m then ms else after_first test ms

-- ---- one pair

-- whether the receiver keeps the message: a response that names its request, or a request that is
-- still named
abbrev pub fits : State → Receiver → Way → Message → Bool
fits s x w m =
    if is_client x.role then m.request == x.request
    else (s.fixed.limits.fire_and_forget || names (s.request_state (state_of_request w m)) m.request)

-- the serials given back on a way, with these more if the sender still counts them
abbrev pub and_back : Bool → List ℕ → List ℕ → List ℕ
and_back counted ks new = if counted then ks ++ new else ks

-- the state once what does not fit is given back and the first that fits is taken
abbrev pub searched : State → Receiver → Way → State
searched s x w = record s {
  waiting = put s.waiting w (after_first (fits s x w) (s.waiting w));
  returned =
      put s.returned w
      (and_back (is_counted_on s.fixed w) (s.returned w)
      (serials_of (before_first (fits s x w) (s.waiting w))));
}

-- ---- all pairs, in this order

-- continues with the message, if there is one
abbrev pub found_or :
    Option Message → (Message → Outcome × State) → Outcome × State → Outcome × State
found_or (Some m) f other = f m
found_or None f other = other

-- the result of visits to these ways
abbrev pub visited : State → Receiver → List Way → Bool → Outcome × State
visited s x [] seen = (Tells (if seen then Refused ExceedsMaxBorrows else Nothing), s)
visited s x (w ∷ left) seen =
    if is_at_limit s.fixed w then visited s x left (seen || not (is_empty (s.waiting w)))
    else found_or (first_that (fits s x w) (s.waiting w)) (λ m. (Receives x w m, searched s x w))
    (visited (searched s x w) x left seen)

-- what the server or the pending response receives
abbrev pub received_from : State → Option Subject → Outcome × State
received_from s (Some (ThePort p)) =
    visited s (record { port = p.number; role = Server; lane = 0; request = 0 })
    (server_ways s.fixed p) false
received_from s (Some (TheHandle h)) =
    visited s (record { port = h.port; role = Client; lane = h.lane; request = h.request })
    (pending_ways s.fixed h) false
received_from s None = (Tells (Refused UnknownNumber), s)

-- the reply of the whole call, and the state that it leaves
abbrev pub received : State → ℕ → ℕ → Reply × State
received s node n =
    unless_misnamed s node (Receive n) (answered s node (received_from s (subject s.fixed node n)))

-- A receive as a function of lists is a whole call, if the node forgot nobody.
abbrev pub EachReceiveIsWhole : Type 0
EachReceiveIsWhole =
    (s : State) (node n : ℕ) → s.fixed.forgot node ≡ []
    → IsWholeCall s node (Receive n) (received s node n).0 (received s node n).1
