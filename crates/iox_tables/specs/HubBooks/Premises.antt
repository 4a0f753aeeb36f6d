-- What the laws of a hub's calls ask is so where its tables are in order.
use Rattle.std.specs.Prelude.{◌≡◌, ℕ, true, Bool, not, ◌==◌, List, [], length, filter, Option, Some}
use Rattle.std.specs.List.{list_any}
use Rattle.iox_model.specs.Outstandings.{is_dry, kept}
use Rattle.iox_model.specs.Handles.{is_received, is_request_loan, is_response_loan, way_of}
use Rattle.iox_laws.specs.CallFunctions.Responses.{is_awaited}
use Rattle.iox_tables.specs.HubStates.Tables.{HandleState, HubTables, PoolState, PortState, SlotState, port_in, slots_of, is_free}
use Rattle.iox_tables.specs.HubStates.Ways.{lane_on}
use Rattle.iox_tables.specs.HubStates.States.{Given, fixed_of, message_of, state_shown}
use Rattle.iox_tables.specs.HubStates.Changes.{HasEachOnce, OfEachLane}
use Rattle.iox_tables.specs.HubStates.Ends.{OfEachHandle, ShowsSame}
use Rattle.iox_tables.specs.HubStates.Releases.{handle_shown, IsHeldOn}
use Rattle.iox_tables.specs.HubStates.Sendings.{request_sending, response_sending}
use Rattle.iox_tables.specs.HubStates.Sends.{MaySendFrom}
use Rattle.iox_tables.specs.HubStates.Steps.{HasSameMessages}
use Rattle.iox_tables.specs.HubStates.Wirings.{IsHandle}
use Rattle.iox_tables.specs.HubBooks.Hubs.{AreInOrder, IsUsed}

-- No message is on a lane twice.
abbrev pub EachIsOnceOnItsLane : Type 0
EachIsOnceOnItsLane =
    (x : Given) (t : HubTables) → AreInOrder t
    → OfEachLane (HasEachOnce (message_of x t.pools)) (lane_on t.ports)

-- A loaned request may be sent.
abbrev pub RequestsMayBeSent : Type 0
RequestsMayBeSent =
    (x : Given) (t : HubTables) (node n : ℕ) (h : HandleState) → AreInOrder t
    → IsHandle t node n h → is_request_loan h.kind ≡ true
    → MaySendFrom x t (request_sending x t h) h.pool h.slot

-- A loaned response that is awaited may be sent.
abbrev pub ResponsesMayBeSent : Type 0
ResponsesMayBeSent =
    (x : Given) (t : HubTables) (node n : ℕ) (h : HandleState) → AreInOrder t
    → IsHandle t node n h → is_response_loan h.kind ≡ true
    → is_awaited (state_shown x t) (handle_shown x t h) ≡ true
    → MaySendFrom x t (response_sending x t h) h.pool h.slot

-- A received message is on its lane, or the lane and its sender are no more.
abbrev pub ReceivedAreHeld : Type 0
ReceivedAreHeld =
    (x : Given) (t : HubTables) (node n : ℕ) (h : HandleState) → AreInOrder t
    → IsHandle t node n h → is_received h.kind ≡ true
    → IsHeldOn t (way_of (handle_shown x t h)) h

-- In each slot that somebody has there is the same message, as much of it filled.
pub record HasSameWhereUsed (x x' : Given) (t : HubTables)
    (pools : List (Option PoolState)) : Type 0
  where
    pub messages :
        (pool k : ℕ) → IsUsed t pool k → message_of x t.pools pool k ≡ message_of x' pools pool k
    pub filled : (pool k : ℕ) → IsUsed t pool k → x.filled pool k ≡ x'.filled pool k

-- Then lanes and handles show the same.
abbrev pub FreeSlotsAreNotShown : Type 0
FreeSlotsAreNotShown =
    (x x' : Given) (t : HubTables) (pools : List (Option PoolState)) → AreInOrder t
    → HasSameWhereUsed x x' t pools
    → OfEachLane (HasSameMessages (message_of x t.pools) (message_of x' pools)) (lane_on t.ports)
    × OfEachHandle (ShowsSame x (message_of x t.pools) x' (message_of x' pools)) t.handles

-- A port keeps as many messages as slots of its pool are used.
abbrev pub KeptAreUsed : Type 0
KeptAreUsed =
    (x : Given) (t : HubTables) (n : ℕ) (p : PortState) → AreInOrder t
    → port_in t.ports n ≡ Some p
    → length (kept (state_shown x t) n [])
    ≡ length (filter (λ s. not (is_free s)) (slots_of t.pools p.pool))

-- So its pool is dry exactly if no slot is unused.
abbrev pub DryPoolsAreUsedUp : Type 0
DryPoolsAreUsedUp =
    (x : Given) (t : HubTables) (n : ℕ) (p : PortState) → AreInOrder t
    → port_in t.ports n ≡ Some p
    → is_dry (fixed_of x t) n (kept (state_shown x t) n [])
    ≡ not (list_any is_free (slots_of t.pools p.pool))
