-- What a hub does to its lanes and request states is what the machine does on their ways.
use Rattle.std.specs.Prelude.{◌≡◌, ℕ, Bool, true, false, if◌then◌else◌, List, [], ◌∷◌, ◌++◌, is_some}
use Rattle.std.specs.List.{list_any}
use Rattle.std.specs.Option.{option_map_or}
use Rattle.iox_model.specs.declared.way.Way.{Way}
use Rattle.iox_model.specs.declared.way.RequestState.{RequestState}
use Rattle.iox_model.specs.declared.way.RequestState.TheVariants.{Named}
use Rattle.iox_model.specs.Maps.{has_number, AreDistinctWays}
use Rattle.iox_model.specs.Messages.{closed_for, hinted_for}
use Rattle.iox_model.specs.States.{Members, Fixed}
use Rattle.iox_laws.specs.CallFunctions.Sends.{delivered_to, emptied, full_of, opened_at}
use Rattle.iox_laws.specs.CallFunctions.Overflows.{pushed_to}
use Rattle.iox_laws.specs.CallFunctions.Releases.{closed_at}
use Rattle.iox_laws.specs.CallFunctions.Looks.{hinted_at, waits_on}
use Rattle.iox_lanes.specs.Lanes.{LaneState, delivered, has_waiting, is_full}
use Rattle.iox_tables.specs.HubStates.Tables.{HubTables, PortState, port_in}
use Rattle.iox_tables.specs.HubStates.Ways.{OnWays, at, lane_on, state_on, with_lane_on, with_state_on}
use Rattle.iox_tables.specs.HubStates.Shown.{MessagesByPlace, by_lane, shown}
use Rattle.iox_tables.specs.HubStates.States.{Given, message_of, state_shown}
use Rattle.iox_tables.specs.HubStates.Wirings.{buffer_from, role_in}
use Rattle.iox_tables.specs.HubStates.Changes.{emptied_lane, pushed_lane, with_lanes, with_states, HasEachOnce, OfEachLane, OnEach}
-- the places on a lane
pub use Rattle.iox_lanes.specs.Lanes.{places as places_on}

-- ---- one way

-- A change of one lane changes the lane of one way, and no request state.
abbrev pub OneLaneIsOneWay : Type 0
OneLaneIsOneWay =
    (g : LaneState → LaneState) (ports : List PortState) (w : Way)
    → (lane_on (with_lane_on g ports w) ≡ at g (lane_on ports) w)
    × (state_on (with_lane_on g ports w) ≡ state_on ports)

-- A change of one request state changes that of one way, and no lane.
abbrev pub OneStateIsOneWay : Type 0
OneStateIsOneWay =
    (g : RequestState → RequestState) (ports : List PortState) (w : Way)
    → (state_on (with_state_on g ports w) ≡ at g (state_on ports) w)
    × (lane_on (with_state_on g ports w) ≡ lane_on ports)

-- ---- messages that are on no lane

-- in each of its places is the same message
abbrev pub HasSameMessages : MessagesByPlace → MessagesByPlace → LaneState → Type 0
HasSameMessages old new l =
    (k : ℕ) → has_number k (places_on l) ≡ true → old l.pool k ≡ new l.pool k

-- Where a message is on no lane it may become another one: what lanes show stays.
abbrev pub OthersMayChange : Type 0
OthersMayChange =
    (members : Members) (f : Fixed) (old new : MessagesByPlace) (lanes : OnWays LaneState)
    (states : OnWays RequestState) → OfEachLane (HasSameMessages old new) lanes
    → shown members f old lanes states ≡ shown members f new lanes states

-- ---- a sender

-- a port of that number is connected
abbrev pub is_there : List PortState → ℕ → Bool
is_there ports n = is_some (port_in ports n)

-- All that was given back is got back.
abbrev pub EmptyingIsShown : Type 0
EmptyingIsShown =
    (x : Given) (t : HubTables) (ws : List Way)
    → OfEachLane (HasEachOnce (message_of x t.pools)) (lane_on t.ports)
    → state_shown x (with_lanes emptied_lane t ws) ≡ emptied (state_shown x t) ws

-- The lane takes messages of that pool, and its sender is connected.
pub record IsOpenTo (t : HubTables) (pool : ℕ) (w : Way) (l : LaneState) : Type 0 where
  pub of_pool : l.pool ≡ pool
  pub sender : is_there t.ports w.sender ≡ true
  pub buffer : l.buffer ≡ buffer_from t.settings (role_in t.ports w.sender)

-- A message is delivered on each of these ways.
abbrev pub DeliveriesAreShown : Type 0
DeliveriesAreShown =
    (x : Given) (t : HubTables) (pool k : ℕ) (ws : List Way) → AreDistinctWays ws
    → OnEach (IsOpenTo t pool) (lane_on t.ports) ws
    → state_shown x (with_lanes (λ l. delivered l k) t ws)
    ≡ delivered_to (state_shown x t) (message_of x t.pools pool k) ws

-- moreover no message is there twice, the new one too
pub record IsOpenToNew (x : Given) (t : HubTables) (pool k : ℕ) (w : Way) (l : LaneState) : Type 0
  where
    pub open_to : IsOpenTo t pool w l
    pub once : HasEachOnce (message_of x t.pools) (delivered l k)

-- It is delivered on each, and where it is one too many the oldest is pushed out.
abbrev pub PushesAreShown : Type 0
PushesAreShown =
    (x : Given) (t : HubTables) (pool k : ℕ) (ws : List Way) → AreDistinctWays ws
    → OnEach (IsOpenToNew x t pool k) (lane_on t.ports) ws
    → state_shown x (with_lanes (pushed_lane k) t ws)
    ≡ pushed_to (state_shown x t) (message_of x t.pools pool k) ws

-- the full ones of these ways, the last first
abbrev pub full_in : OnWays LaneState → List Way → List Way → List Way
full_in lanes [] full = full
full_in lanes (w ∷ ws) full =
    full_in lanes ws (if option_map_or is_full (lanes w) true then w ∷ full else full)

-- The same ways are full.
abbrev pub FullIsShown : Type 0
FullIsShown =
    (x : Given) (t : HubTables) (pool : ℕ) (ws full : List Way)
    → OnEach (IsOpenTo t pool) (lane_on t.ports) ws
    → full_of (state_shown x t) ws full ≡ full_in (lane_on t.ports) ws full

-- ---- request states

-- the receiver of responses is connected
abbrev pub IsOpenable : HubTables → Way → RequestState → Type 0
IsOpenable t w r = is_there t.ports w.receiver ≡ true

-- A request is opened on each of these ways.
abbrev pub OpensAreShown : Type 0
OpensAreShown =
    (x : Given) (t : HubTables) (id : ℕ) (ws : List Way) → AreDistinctWays ws
    → OnEach (IsOpenable t) (state_on t.ports) ws
    → state_shown x (with_states (λ r. Named id false) t ws) ≡ opened_at (state_shown x t) id ws

-- It is closed on each, where it is named.
abbrev pub ClosesAreShown : Type 0
ClosesAreShown =
    (x : Given) (t : HubTables) (id : ℕ) (ws : List Way)
    → state_shown x (with_states (λ r. closed_for r id) t ws) ≡ closed_at (state_shown x t) id ws

-- A hint is given on each, where it is named.
abbrev pub HintsAreShown : Type 0
HintsAreShown =
    (x : Given) (t : HubTables) (id : ℕ) (ws : List Way)
    → state_shown x (with_states (λ r. hinted_for r id) t ws) ≡ hinted_at (state_shown x t) id ws

-- ---- questions

-- Something waits on one of these ways if it does on one of their lanes.
abbrev pub WaitingIsShown : Type 0
WaitingIsShown =
    (x : Given) (t : HubTables) (ws : List Way)
    → waits_on (state_shown x t) ws ≡ list_any (by_lane has_waiting false (lane_on t.ports)) ws
