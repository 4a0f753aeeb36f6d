-- What the whole send of a request answers, and what it leaves of the tables of a hub.
use Rattle.std.specs.Prelude.{◌≡◌, ℕ, Bool, if◌then◌else◌, length}
use Rattle.iox_model.specs.declared.kind.Kind.TheVariants.{RequestMut}
use Rattle.iox_model.specs.declared.reply.Refusal.TheVariants as refusals
use Rattle.iox_model.specs.declared.reply.Reply.TheVariants as replies
use Rattle.iox_model.specs.declared.way.Way.{Way}
use Rattle.iox_model.specs.Commands.{Reply}
use Rattle.iox_model.specs.Requests.{fails_at}
use Rattle.iox_tables.specs.HubStates.Tables.{HandleState, HubTables}
use Rattle.iox_tables.specs.HubStates.Ends.{with_dropped}
use Rattle.iox_tables.specs.HubStates.States.{Given, fixed_of}
use Rattle.iox_tables.specs.HubStates.Wirings.{IsHandle}
use Rattle.iox_tables.specs.HubLoans.Counts.{has_all_active}
use Rattle.iox_tables.specs.HubMaking.Disconnections.{with_released}
use Rattle.iox_control_requests.specs.declared.requested.Requested.{Requested}
use Rattle.iox_control_requests.specs.declared.requested.Requested.TheVariants.{To, ExceedsMaxActiveRequests, UnableToDeliver}
use Rattle.iox_control_requests.specs.Requests.{is_failing, ways_of, with_request_sent, with_requests_back}

-- what the send of a request answers
abbrev pub reply_of_send : Requested → Reply
reply_of_send (To count) = replies.Sent count
reply_of_send ExceedsMaxActiveRequests = replies.Refused refusals.ExceedsMaxActiveRequests
reply_of_send UnableToDeliver = replies.Refused refusals.UnableToDeliver

-- The number names a loaned request of the node, that is filled.
pub record IsRequest (t : HubTables) (node n : ℕ) : Type 0 where
  pub handle : HandleState
  pub named : IsHandle t node n handle
  pub kind : handle.kind ≡ RequestMut

-- A full server makes the send fail where this says so, by the client's handler or its strategy.
abbrev pub AreFailures : Given → HubTables → HandleState → (Way → Bool) → Type 0
AreFailures x t h fails =
    (w : Way) → w.sender ≡ h.port → fails_at (fixed_of x t) w ≡ fails w

-- what the send of that handle's request comes to
abbrev pub request_outcome : (Way → Bool) → HubTables → HandleState → Requested
request_outcome fails t h =
    if has_all_active t h.port then ExceedsMaxActiveRequests
    else if is_failing fails t.settings.request_overflow (with_requests_back t h).ports h.port
    then UnableToDeliver
    else To (length (ways_of (with_requests_back t h) h t.settings.request_overflow))

-- what is left by then: the request is delivered, or its loan is gone
abbrev pub with_request_ended : HubTables → ℕ → ℕ → HandleState → Requested → HubTables
with_request_ended t node n h (To count) =
    with_request_sent (with_requests_back t h) h t.settings.request_overflow
with_request_ended t node n h ExceedsMaxActiveRequests = with_dropped t node n
with_request_ended t node n h UnableToDeliver = with_dropped (with_requests_back t h) node n

-- and then the port goes of a loan that is gone, if nothing else of it is left
abbrev pub with_lost_released : Requested → HubTables → ℕ → HubTables
with_lost_released (To count) t port = t
with_lost_released ExceedsMaxActiveRequests t port = with_released t port
with_lost_released UnableToDeliver t port = with_released t port
