-- What can be counted, and what there is room for, as messages are sent.
use Rattle.std.specs.Prelude.{◌≡◌, ℕ, ◌+◌, ◌≤◌, Bool, true, List}
use Rattle.iox_model.specs.declared.way.RequestState.{RequestState}
use Rattle.iox_model.specs.declared.way.Way.{Way}
use Rattle.iox_model.specs.Handles.{is_own}
use Rattle.iox_model.specs.Maps.{AreDistinctWays}
use Rattle.iox_tables.specs.HubStates.Tables.{HandleState, HubTables, PortState}
use Rattle.iox_tables.specs.HubStates.Ways.{with_lanes_on, with_port, with_states_on}
use Rattle.iox_tables.specs.HubStates.Changes.{emptied_lane, with_lanes, with_states}
use Rattle.iox_tables.specs.HubStates.Ends.{with_changed, with_dropped}
use Rattle.iox_tables.specs.HubStates.Sendings.{pending_of}
use Rattle.iox_tables.specs.HubStates.Wirings.{IsHandle}
use Rattle.iox_tables.specs.HubBooks.Counts.{OfAll, OfAllLanes}
use Rattle.iox_tables.specs.HubBooks.Hubs.{AreInOrder}
use Rattle.iox_tables.specs.HubBooks.Keeps.{delivers}
use Rattle.iox_tables.specs.HubBooks.Rooms.{may_come, most_holders}

-- ---- counts

-- No port counts more loans, and no lane more deliveries, than so many calls.
pub record AreCountedBy (calls : ℕ) (ports : List PortState) : Type 0 where
  pub loans : OfAll (λ p. p.loans ≤ calls) ports
  pub deliveries : OfAllLanes (λ l. l.deliveries ≤ calls) ports

-- A call that delivers once on different ways is one call more, also where it counts a loan of a
-- port; and it is none where lanes are emptied or request states change.
pub record SendsAreCounted (calls : ℕ) (ports : List PortState) : Type 0 where
  pub delivered :
      (overflow : Bool) (k : ℕ) (ws : List Way) → AreDistinctWays ws
      → AreCountedBy (calls + 1) (with_lanes_on (delivers overflow k) ports ws)
  pub lent :
      (overflow : Bool) (k : ℕ) (ws : List Way) (n : ℕ) → AreDistinctWays ws
      → AreCountedBy (calls + 1)
      (with_port (λ p. record p { loans = p.loans + 1 })
      (with_lanes_on (delivers overflow k) ports ws) n)
  pub emptied : (ws : List Way) → AreCountedBy calls (with_lanes_on emptied_lane ports ws)
  pub opened :
      (g : RequestState → RequestState) (ws : List Way)
      → AreCountedBy calls (with_states_on g ports ws)
  pub later : AreCountedBy (calls + 1) ports

-- It is so wherever they are counted.
abbrev pub EachSendIsCounted : Type 0
EachSendIsCounted =
    (calls : ℕ) (ports : List PortState) → AreCountedBy calls ports → SendsAreCounted calls ports

-- ---- room

-- As many handles may still come, and slots may have as many holders.
pub record NeedsAsMuch (old new : HubTables) : Type 0 where
  pub come : may_come new ≡ may_come old
  pub holders : most_holders new ≡ most_holders old

-- One handle is gone: at most one more may come, and slots may have one holder less.
pub record NeedsOneLess (old new : HubTables) : Type 0 where
  pub come : may_come new ≤ may_come old + 1
  pub holders : most_holders new + 1 ≡ most_holders old

-- Deliveries, and what comes before them, need as much room as there was; so does a loan that
-- becomes a pending response.
pub record SendsNeedAsMuch (t : HubTables) : Type 0 where
  pub delivered :
      (overflow : Bool) (k : ℕ) (ws : List Way)
      → NeedsAsMuch t (with_lanes (delivers overflow k) t ws)
  pub emptied : (ws : List Way) → NeedsAsMuch t (with_lanes emptied_lane t ws)
  pub opened :
      (g : RequestState → RequestState) (ws : List Way) → NeedsAsMuch t (with_states g t ws)
  pub pending :
      (node n : ℕ) (h : HandleState) (count : ℕ) → IsHandle t node n h → is_own h.kind ≡ true
      → NeedsAsMuch t (with_changed t (pending_of h count))

-- It is so of all tables.
abbrev pub EachSendNeedsAsMuch : Type 0
EachSendNeedsAsMuch = (t : HubTables) → SendsNeedAsMuch t

-- Where a handle is gone, its room may be had by another.
abbrev pub EndsNeedOneLess : Type 0
EndsNeedOneLess =
    (t : HubTables) (node n : ℕ) (h : HandleState) → AreInOrder t → IsHandle t node n h
    → NeedsOneLess t (with_dropped t node n)
