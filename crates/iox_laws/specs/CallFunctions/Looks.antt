-- Questions and hints as functions of lists.
use Rattle.std.specs.Prelude.{ℕ, Bool, true, false, not, List, [], ◌∷◌, Option, Some, None}
use Rattle.std.specs.List.{list_any}
use Rattle.iox_model.specs.declared.way.Way.{Way}
use Rattle.iox_model.specs.declared.call.Call.TheVariants.{IsConnected, SetHint, HasHint, HasRequests, HasResponse}
use Rattle.iox_model.specs.declared.reply.Refusal.TheVariants.{UnknownNumber, WrongKind}
use Rattle.iox_model.specs.declared.reply.Reply.TheVariants.{Done, Answer}
use Rattle.iox_model.specs.Commands.{Reply}
use Rattle.iox_model.specs.Doings.{Outcome, Tells}
use Rattle.iox_model.specs.Handles.{subject, Subject, ThePort, TheHandle}
use Rattle.iox_model.specs.Looks.{is_shown}
use Rattle.iox_model.specs.Maps.{is_empty}
use Rattle.iox_model.specs.Moments.{moved, Hint}
use Rattle.iox_model.specs.Receives.{server_ways, pending_ways}
use Rattle.iox_model.specs.Releases.{states_of}
use Rattle.iox_model.specs.States.{Handle, State}
use Rattle.iox_model.specs.WholeCalls.{IsWholeCall}
use Rattle.iox_laws.specs.CallFunctions.Answers.{answered, unless_misnamed, refusing, of_handle}

-- ---- whether a message waits

-- on some of these ways a message waits
abbrev pub waits_on : State → List Way → Bool
waits_on s ws = list_any (λ w. not (is_empty (s.waiting w))) ws

-- what a server is told about its clients' ways
abbrev pub sought_by_server : State → Option Subject → Outcome × State
sought_by_server s (Some (ThePort p)) = (Tells (Answer (waits_on s (server_ways s.fixed p))), s)
sought_by_server s (Some (TheHandle h)) = refusing WrongKind s
sought_by_server s None = refusing UnknownNumber s

-- what a pending response is told about its servers' ways
abbrev pub sought_by_pending : State → Handle → Outcome × State
sought_by_pending s h = (Tells (Answer (waits_on s (pending_ways s.fixed h))), s)

-- the whole call of a server
abbrev pub has_requests_by : State → ℕ → ℕ → Reply × State
has_requests_by s node n =
    unless_misnamed s node (HasRequests n)
    (answered s node (sought_by_server s (subject s.fixed node n)))

-- the whole call of a pending response
abbrev pub has_response_by : State → ℕ → ℕ → Reply × State
has_response_by s node n =
    unless_misnamed s node (HasResponse n)
    (answered s node (of_handle s (subject s.fixed node n) (sought_by_pending s)))

-- What `has_requests_by` and `has_response_by` say are whole calls.
abbrev pub EachSeekIsWhole : Type 0
EachSeekIsWhole =
    (s : State) (node n : ℕ)
    → IsWholeCall s node (HasRequests n) (has_requests_by s node n).0 (has_requests_by s node n).1
    × IsWholeCall s node (HasResponse n) (has_response_by s node n).0 (has_response_by s node n).1

-- ---- whether the request is named

-- some of the states that the handle looks at names its request, with a hint if that is asked
abbrev pub is_named_at : State → Handle → Bool → Bool
is_named_at s h hinted =
    list_any (λ w. is_shown h hinted (s.request_state w)) (states_of s.fixed h)

-- what is answered
abbrev pub asked_of : State → Bool → Handle → Outcome × State
asked_of s hinted h = (Tells (Answer (is_named_at s h hinted)), s)

-- the whole call of the question whether the request is connected
abbrev pub connected_by : State → ℕ → ℕ → Reply × State
connected_by s node n =
    unless_misnamed s node (IsConnected n)
    (answered s node (of_handle s (subject s.fixed node n) (asked_of s false)))

-- the whole call of the question whether it has a hint
abbrev pub hinted_by : State → ℕ → ℕ → Reply × State
hinted_by s node n =
    unless_misnamed s node (HasHint n)
    (answered s node (of_handle s (subject s.fixed node n) (asked_of s true)))

-- What `connected_by` and `hinted_by` say are whole calls.
abbrev pub EachQuestionIsWhole : Type 0
EachQuestionIsWhole =
    (s : State) (node n : ℕ)
    → IsWholeCall s node (IsConnected n) (connected_by s node n).0 (connected_by s node n).1
    × IsWholeCall s node (HasHint n) (hinted_by s node n).0 (hinted_by s node n).1

-- ---- hints

-- the hint given on each of these ways
abbrev pub hinted_at : State → ℕ → List Way → State
hinted_at s id [] = s
hinted_at s id (w ∷ ws) = hinted_at (moved s (Hint w id)) id ws

-- the hint given with each server
abbrev pub hinted_from : State → Handle → Outcome × State
hinted_from s h = (Tells Done, hinted_at s h.request (states_of s.fixed h))

-- the whole call
abbrev pub hint_set_by : State → ℕ → ℕ → Reply × State
hint_set_by s node n =
    unless_misnamed s node (SetHint n)
    (answered s node (of_handle s (subject s.fixed node n) (hinted_from s)))

-- What `hint_set_by` says is a whole call.
abbrev pub EachHintIsWhole : Type 0
EachHintIsWhole =
    (s : State) (node n : ℕ)
    → IsWholeCall s node (SetHint n) (hint_set_by s node n).0 (hint_set_by s node n).1
