-- What the send of a response answers, and what it leaves of the tables of a hub.
use Rattle.std.specs.Prelude.{◌≡◌, ℕ, ◌+◌, Bool, true, false, not, ◌&&◌, if◌then◌else◌, List, [], ◌∷◌, Option, None}
use Rattle.std.specs.Option.{option_map_or}
use Rattle.iox_model.specs.declared.kind.Kind.TheVariants.{ResponseMut}
use Rattle.iox_model.specs.declared.reply.Refusal.TheVariants.{UnableToDeliver}
use Rattle.iox_model.specs.declared.reply.Reply.TheVariants as replies
use Rattle.iox_model.specs.declared.way.Way.{Way}
use Rattle.iox_model.specs.Commands.{Reply}
use Rattle.iox_model.specs.Requests.{fails_at}
use Rattle.iox_lanes.specs.Lanes.{is_full}
use Rattle.iox_tables.specs.HubStates.Tables.{HandleState, HubTables, PoolState}
use Rattle.iox_tables.specs.HubStates.Changes.{emptied_lane, with_lanes}
use Rattle.iox_tables.specs.HubStates.Ends.{with_call, with_dropped}
use Rattle.iox_tables.specs.HubStates.Releases.{way_to_client}
use Rattle.iox_tables.specs.HubStates.States.{Given, fixed_of}
use Rattle.iox_tables.specs.HubStates.Wirings.{IsHandle}
use Rattle.iox_tables.specs.HubBooks.Keeps.{delivers}
use Rattle.iox_tables.specs.HubLoans.Questions.{is_named_by_client}
use Rattle.iox_hub_ports.specs.Ports.{on_way, pushed, pushed_out}
use Rattle.iox_slots.specs.Pools.{with_slot}
use Rattle.iox_slots.specs.Slots.{let_go}
use Rattle.iox_control.specs.Controls.{ControlState}
use Rattle.iox_control_responses.specs.declared.responded.Responded.{Responded}
use Rattle.iox_control_responses.specs.declared.responded.Responded.TheVariants.{Done, Undelivered}

-- what the send of a response answers
abbrev pub reply_of_send : Responded → Reply
reply_of_send Done = replies.Done
reply_of_send Undelivered = replies.Refused UnableToDeliver

-- The number names a loaned response of the node, that is filled.
pub record IsResponse (t : HubTables) (node n : ℕ) : Type 0 where
  pub handle : HandleState
  pub named : IsHandle t node n handle
  pub kind : handle.kind ≡ ResponseMut

-- ---- where it goes

-- the response may not wait there: as many wait as may, and none of them is pushed out
abbrev pub is_shut : HubTables → HandleState → Bool
is_shut t h =
    on_way is_full true t.ports (way_to_client t h) && not t.settings.response_overflow

-- the send fails: the client waits for the response, it may not wait there, and that is a failure
abbrev pub is_undelivered : HubTables → HandleState → Bool → Bool
is_undelivered t h fails = is_named_by_client t h false && (is_shut t h && fails)

-- It is a failure where a full client makes a send fail: the server's handler or strategy says so.
abbrev pub IsFailure : Given → HubTables → HandleState → Bool → Type 0
IsFailure x t h fails = fails_at (fixed_of x t) (way_to_client t h) ≡ fails

-- what the machine replies
abbrev pub response_reply : HubTables → HandleState → Bool → Reply
response_reply t h fails =
    if is_undelivered t h fails then replies.Refused UnableToDeliver else replies.Done

-- ---- what is left

-- the server got back all that was given back there
abbrev pub with_way_emptied : HubTables → HandleState → HubTables
with_way_emptied t h = with_lanes emptied_lane t (way_to_client t h ∷ [])

-- the response is last in line, where it may wait
abbrev pub with_response_offered : HubTables → HandleState → HubTables
with_response_offered t h =
    if is_shut t h then with_way_emptied t h
    else with_lanes (delivers t.settings.response_overflow h.slot) (with_way_emptied t h)
    (way_to_client t h ∷ [])

-- the same, if the client waits for it
abbrev pub with_response_sent : HubTables → HandleState → HubTables
with_response_sent t h = if is_named_by_client t h false then with_response_offered t h else t

-- Then the handle is gone. The call is counted, unless it fails.
abbrev pub with_response_ended : HubTables → ℕ → ℕ → HandleState → Bool → HubTables
with_response_ended t node n h fails =
    record (with_dropped (with_response_sent t h) node n) {
      calls = if is_undelivered t h fails then t.calls else t.calls + 1;
    }

-- ---- only for proofs of this crate

-- what is pushed out of the lane has one holder less
abbrev pub pools_after_push : HubTables → Way → ℕ → List (Option PoolState)
pools_after_push t w pool =
    option_map_or (with_slot let_go t.pools pool) (on_way pushed_out None t.ports w) t.pools

-- the message is last in line in place of its handle, and the call is counted
abbrev pub with_handed_over : ControlState → ℕ → ℕ → Way → ℕ → ℕ → ControlState
with_handed_over c node n w pool k =
    record c {
      tables =
          record (with_call
          (with_dropped (with_lanes (λ l. pushed l k) c.tables (w ∷ [])) node n)) {
            pools = pools_after_push c.tables w pool;
          };
      room = c.room + 1;
    }
