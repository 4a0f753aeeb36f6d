-- What a send does to the tables of a hub, up to its end.
use Rattle.std.specs.Prelude.{◌≡◌, ℕ, false, if◌then◌else◌, List, [], length, Option, Some, None}
use Rattle.std.specs.List.{list_any}
use Rattle.iox_model.specs.declared.way.Way.{Way}
use Rattle.iox_model.specs.declared.way.RequestState.TheVariants.{Named}
use Rattle.iox_model.specs.declared.reply.Refusal.TheVariants.{UnableToDeliver}
use Rattle.iox_model.specs.Doings.{Sending, Outcome, Sends, FailsToSend}
use Rattle.iox_model.specs.Maps.{not_in, AreDistinctWays}
use Rattle.iox_model.specs.Requests.{targets, to_open}
use Rattle.iox_laws.specs.CallFunctions.Sends.{sent}
use Rattle.iox_laws.specs.CallFunctions.Overflows.{sent_over}
use Rattle.iox_lanes.specs.Lanes.{delivered}
use Rattle.iox_tables.specs.HubStates.Tables.{HubTables}
use Rattle.iox_tables.specs.HubStates.Ways.{lane_on, state_on}
use Rattle.iox_tables.specs.HubStates.States.{Given, message_of, state_shown}
use Rattle.iox_tables.specs.HubStates.Changes.{emptied_lane, pushed_lane, with_lanes, with_states, HasEachOnce, OfEachLane, OnEach}
use Rattle.iox_tables.specs.HubStates.Steps.{IsOpenable, IsOpenToNew, full_in}

-- the tables once the sender got back all that it can
abbrev pub with_emptied : HubTables → Sending → HubTables
with_emptied t y = with_lanes emptied_lane t (targets y)

-- the targets that are full then
abbrev pub full_targets : HubTables → Sending → List Way
full_targets t y = full_in (lane_on (with_emptied t y).ports) (targets y) []

-- the targets that are not
abbrev pub free_targets : HubTables → Sending → List Way
free_targets t y = not_in (full_targets t y) (targets y)

-- how many it is delivered to; none where a full receiver makes the send fail
abbrev pub sent_count : HubTables → Sending → Option ℕ
sent_count t y =
    if list_any y.fails (full_targets t y) then None else Some (length (free_targets t y))

-- the request of that id is opened on each of these ways
abbrev pub with_opened : HubTables → ℕ → List Way → HubTables
with_opened t id ws = with_states (λ r. Named id false) t ws

-- the tables once the message in that slot is delivered
abbrev pub with_delivered : HubTables → Sending → ℕ → List Way → HubTables
with_delivered t y k ws =
    with_lanes (λ l. delivered l k)
    (with_opened (with_emptied t y) y.loan.request (to_open y)) ws

-- the tables after the send's moments: where it fails, no more is changed
abbrev pub with_sent : HubTables → Sending → ℕ → HubTables
with_sent t y k =
    if list_any y.fails (full_targets t y) then with_emptied t y
    else with_delivered t y k (free_targets t y)

-- what that comes to
abbrev pub outcome_of_send : Sending → Option ℕ → Outcome
outcome_of_send y (Some count) = Sends y.loan y.copied count
outcome_of_send y None = FailsToSend y.loan y.copied UnableToDeliver

-- The message in that slot is what is sent; its targets differ, each takes it, and no message is on
-- a lane twice, the new one too.
pub record MaySendFrom (x : Given) (t : HubTables) (y : Sending) (pool k : ℕ) : Type 0 where
  pub message : message_of x t.pools pool k ≡ y.loan.message
  pub apart : AreDistinctWays (targets y)
  pub states_apart : AreDistinctWays (to_open y)
  pub once : OfEachLane (HasEachOnce (message_of x t.pools)) (lane_on t.ports)
  pub lanes : OnEach (IsOpenToNew x t pool k) (lane_on t.ports) (targets y)
  pub states : OnEach (IsOpenable t) (state_on t.ports) (to_open y)

-- A send without overflow is the machine's, up to its end.
abbrev pub SendsAreShown : Type 0
SendsAreShown =
    (x : Given) (t : HubTables) (y : Sending) (pool k : ℕ) → MaySendFrom x t y pool k
    → sent (state_shown x t) y
    ≡ (outcome_of_send y (sent_count t y), state_shown x (with_sent t y k))

-- the tables after the moments of a send with overflow
abbrev pub with_pushed : HubTables → Sending → ℕ → HubTables
with_pushed t y k =
    with_lanes (pushed_lane k) (with_opened (with_emptied t y) y.loan.request (to_open y))
    (targets y)

-- So is a send with overflow.
abbrev pub PushingSendsAreShown : Type 0
PushingSendsAreShown =
    (x : Given) (t : HubTables) (y : Sending) (pool k : ℕ) → MaySendFrom x t y pool k
    → sent_over (state_shown x t) y
    ≡ (Sends y.loan y.copied (length (targets y)), state_shown x (with_pushed t y k))
