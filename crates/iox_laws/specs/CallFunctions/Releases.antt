-- Releases as functions of lists.
use Rattle.std.specs.Prelude.{ℕ, if◌then◌else◌, List, [], ◌∷◌, Option, Some, None}
use Rattle.iox_model.specs.declared.kind.Kind.TheVariants.{PendingResponse, ActiveRequest}
use Rattle.iox_model.specs.declared.way.Way.{Way}
use Rattle.iox_model.specs.declared.call.Call.TheVariants.{Release}
use Rattle.iox_model.specs.declared.reply.Refusal.TheVariants.{UnknownNumber}
use Rattle.iox_model.specs.Commands.{Reply}
use Rattle.iox_model.specs.Doings.{Outcome, Drops, DropsPort}
use Rattle.iox_model.specs.Handles.{same_kind, is_received, own_state, subject, way_of, Subject, ThePort, TheHandle}
use Rattle.iox_model.specs.Moments.{moved, GiveBack, Close}
use Rattle.iox_model.specs.Peers.{forgot_port}
use Rattle.iox_model.specs.Releases.{states_of}
use Rattle.iox_model.specs.States.{Handle, State}
use Rattle.iox_model.specs.WholeCalls.{IsWholeCall}
use Rattle.iox_laws.specs.CallFunctions.Answers.{answered, unless_misnamed, refusing}

-- the request closed on each of these ways
abbrev pub closed_at : State → ℕ → List Way → State
closed_at s id [] = s
closed_at s id (w ∷ ws) = closed_at (moved s (Close w id)) id ws

-- the message is its sender's again
abbrev pub given_back_by : State → Handle → State
given_back_by s h = moved s (GiveBack (way_of h) h.message.serial)

-- a received message is given back, and if it is a request, that is closed
abbrev pub returned_by : State → Handle → State
returned_by s h =
    let t : State = given_back_by s h in
    if same_kind h.kind ActiveRequest then closed_at t h.request (own_state h ∷ []) else t

-- what was received is given back, unless its sender is forgotten; a request that was sent is
-- closed with each server; a loan leaves nothing
abbrev pub left_by_handle : State → Handle → State
left_by_handle s h =
    if is_received h.kind
    then (if forgot_port s.fixed h.node (way_of h).sender then s else returned_by s h)
    else
    (if same_kind h.kind PendingResponse then closed_at s h.request (states_of s.fixed h) else s)

-- what the release of a port's own value, or of a handle, comes to
abbrev pub released_from : State → Option Subject → Outcome × State
released_from s (Some (ThePort p)) = (DropsPort p.number, s)
released_from s (Some (TheHandle h)) = (Drops h, left_by_handle s h)
released_from s None = refusing UnknownNumber s

-- the whole call; the port disconnects if nothing of it is left
abbrev pub released_by : State → ℕ → ℕ → Reply × State
released_by s node n =
    unless_misnamed s node (Release n) (answered s node (released_from s (subject s.fixed node n)))

-- What `released_by` says is a whole call, of a port and of each handle.
abbrev pub EachReleaseIsWhole : Type 0
EachReleaseIsWhole =
    (s : State) (node n : ℕ)
    → IsWholeCall s node (Release n) (released_by s node n).0 (released_by s node n).1
