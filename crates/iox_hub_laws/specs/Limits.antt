-- No way of a hub has more than it may.
use Rattle.std.specs.Prelude.{◌≡◌, ◌≤◌, Some, length}
use Rattle.iox_model.specs.declared.way.Way.{Way}
use Rattle.iox_model.specs.Peers.{borrow_limit_on}
use Rattle.iox_model.specs.Settings.{other_role}
use Rattle.iox_model.specs.Weaves.{at_work}
use Rattle.iox_laws.specs.WeaveLaws.Ledgers.{had_on}
use Rattle.iox_lanes.specs.Lanes.{LaneState}
use Rattle.iox_tables.specs.HubStates.Tables.{HubTables}
use Rattle.iox_tables.specs.HubStates.Ways.{lane_on}
use Rattle.iox_tables.specs.HubStates.Wirings.{buffer_from, role_in}
use Rattle.iox_hub.specs.Hubs.{HubState}
use Rattle.iox_hub_laws.specs.Shown.{shown}

-- On each way at most the buffer of those that send to its receiver waits.
abbrev pub BuffersHold : HubTables → Type 0
BuffersHold t =
    (w : Way) (l : LaneState) → lane_on t.ports w ≡ Some l
    → length l.waiting ≤ buffer_from t.settings (other_role (role_in t.ports w.receiver))

-- A receiver has at most as many messages of each way as it may borrow.
abbrev pub BorrowsHold : HubState → Type 0
BorrowsHold h =
    (w : Way) → length (had_on (at_work (shown h)) w) ≤ borrow_limit_on (shown h).fixed w
