-- How counts over lanes and handles change with the tables, and how many holders there may be.
use Rattle.std.specs.Prelude.{◌≡◌, ℕ, ◌+◌, ◌<◌, ◌≤◌, ◌^◌, List, [], ◌∷◌, ◌++◌, map, Some}
use Rattle.iox_model.specs.declared.way.Way.{Way}
use Rattle.iox_model.specs.Maps.{AreDistinctWays, AreDistinct}
use Rattle.iox_lanes.specs.declared.wanted.Wanted.{Wanted}
use Rattle.iox_lanes.specs.Lanes.{LaneState}
use Rattle.iox_lanes.specs.Searches.{LabelsByPlace}
use Rattle.iox_tables.specs.HubStates.Tables.{HandleState, HubTables, PortState, slot_at}
use Rattle.iox_tables.specs.HubStates.Ways.{lane_on, with_lane_on, with_lanes_on, with_port}
use Rattle.iox_tables.specs.HubStates.Ends.{changed_handles, dropped_handles}
use Rattle.iox_tables.specs.HubStates.Receives.{visited_port}
use Rattle.iox_tables.specs.HubStates.Shown.{by_lane}
use Rattle.iox_tables.specs.HubStates.Wirings.{handle_in}
use Rattle.iox_tables.specs.HubBooks.Counts.{lane_uses, on_lanes, total, uses}
use Rattle.iox_tables.specs.HubBooks.Hubs.{AreInOrder}
use Rattle.iox_tables.specs.HubBooks.Rooms.{CanCountHolders, most_holders}

-- ---- lanes

-- As one lane changes, the sum over all lanes changes by what that lane counts.
abbrev pub OneLaneCounts : Type 0
OneLaneCounts =
    (f : LaneState → ℕ) (g : LaneState → LaneState) (ports : List PortState) (w : Way)
    (l : LaneState) → lane_on ports w ≡ Some l
    → on_lanes f (with_lane_on g ports w) + f l ≡ on_lanes f ports + f (g l)

-- As the lanes of different ways change, it changes by what these lanes count.
abbrev pub EachLaneCounts : Type 0
EachLaneCounts =
    (f : LaneState → ℕ) (g : LaneState → LaneState) (ports : List PortState) (ws : List Way)
    → AreDistinctWays ws
    → on_lanes f (with_lanes_on g ports ws) + total (by_lane f 0 (lane_on ports)) ws
    ≡ on_lanes f ports + total (by_lane (λ l. f (g l)) 0 (lane_on ports)) ws

-- Where each lane counts the same after its change, so do all.
abbrev pub SameLanesCountTheSame : Type 0
SameLanesCountTheSame =
    (f : LaneState → ℕ) (g : LaneState → LaneState) → ((l : LaneState) → f (g l) ≡ f l)
    → (ports : List PortState) (ws : List Way)
    → on_lanes f (with_lanes_on g ports ws) ≡ on_lanes f ports

-- Visits of a port's lanes leave it to each slot how many lanes have it.
abbrev pub VisitsKeepUses : Type 0
VisitsKeepUses =
    (wanted : Wanted) (labels : LabelsByPlace) (lane : ℕ) (ports : List PortState) (n pool k : ℕ)
    → lane_uses (with_port (visited_port wanted labels lane) ports n) pool k
    ≡ lane_uses ports pool k

-- ---- handles

-- One handle more counts what it counts.
abbrev pub AddedHandlesCount : Type 0
AddedHandlesCount =
    (f : HandleState → ℕ) (hs : List HandleState) (h : HandleState)
    → total f (hs ++ h ∷ []) ≡ total f hs + f h

-- A changed handle counts what the new one counts, in place of the old one.
abbrev pub ChangedHandlesCount : Type 0
ChangedHandlesCount =
    (f : HandleState → ℕ) (hs : List HandleState) (new old : HandleState)
    → handle_in hs new.node new.number ≡ Some old
    → total f (changed_handles new hs) + f old ≡ total f hs + f new

-- Where numbers differ, a dropped handle counts no more, and all others do.
abbrev pub DroppedHandlesCount : Type 0
DroppedHandlesCount =
    (f : HandleState → ℕ) (hs : List HandleState) (node n : ℕ) (h : HandleState)
    → handle_in hs node n ≡ Some h → AreDistinct (map (λ k. k.number) hs)
    → total f (dropped_handles node n hs) + f h ≡ total f hs

-- ---- bounds

-- No slot is held more often than each lane and each handle once.
abbrev pub UsesAreBounded : Type 0
UsesAreBounded =
    (t : HubTables) (pool k : ℕ) → AreInOrder t → uses t pool k ≤ most_holders t

-- Where the tables can count, a slot may get as many holders more as there is room for handles.
abbrev pub HoldersCanBeCounted : Type 0
HoldersCanBeCounted =
    (t : HubTables) (room pool k : ℕ) → AreInOrder t → CanCountHolders room t
    → (slot_at t.pools pool k).holders + room < 2 ^ 64
