-- A pool that nobody has messages of may become another, and may go.
use Rattle.std.specs.Prelude.{◌≡◌, ℕ, ◌<◌, false, ◌==◌, List, [], ◌∷◌, ◌++◌, length, Option, Some, None, slice_set}
use Rattle.iox_model.specs.declared.way.Way.{Way}
use Rattle.iox_model.specs.Maps.{has_number}
use Rattle.iox_lanes.specs.Lanes.{LaneState}
use Rattle.iox_tables.specs.HubStates.Tables.{HubTables, PoolState, pool_at}
use Rattle.iox_tables.specs.HubStates.Ways.{lane_on}
use Rattle.iox_tables.specs.HubStates.States.{Given, state_shown}
use Rattle.iox_tables.specs.HubStates.Ends.{HasSameSettings, OfEachHandle}
use Rattle.iox_tables.specs.HubStates.Steps.{places_on}

-- No lane and no handle has a message of the pool in this place.
pub record NobodyHas (t : HubTables) (place : ℕ) : Type 0 where
  pub lanes :
      (w : Way) (l : LaneState) (k : ℕ) → lane_on t.ports w ≡ Some l → l.pool ≡ place
      → has_number k (places_on l) ≡ false
  pub handles : OfEachHandle (λ h. (h.pool == place) ≡ false) t.handles

-- All pools but the one in this place stay, with the words of their messages.
pub record OthersStay (place : ℕ) (x : Given) (old : List (Option PoolState)) (x' : Given)
    (new : List (Option PoolState)) : Type 0
  where
    pub pools : (q : ℕ) → (q == place) ≡ false → pool_at old q ≡ pool_at new q
    pub user : (q k : ℕ) → (q == place) ≡ false → x.user q k ≡ x'.user q k
    pub payload : (q k : ℕ) → (q == place) ≡ false → x.payload q k ≡ x'.payload q k
    pub filled : (q k : ℕ) → (q == place) ≡ false → x.filled q k ≡ x'.filled q k

-- Where nobody has messages of a pool, it may be there or not, with any messages: the state that is
-- shown stays.
abbrev pub FreePoolsMayChange : Type 0
FreePoolsMayChange =
    (x x' : Given) (t : HubTables) (place : ℕ) (pools : List (Option PoolState))
    → HasSameSettings x x' → NobodyHas t place → OthersStay place x t.pools x' pools
    → state_shown x t ≡ state_shown x' (record t { pools = pools })

-- A pool is in that place, and all others stay.
pub record IsPut (old : List (Option PoolState)) (place : ℕ) (pool : PoolState)
    (new : List (Option PoolState)) : Type 0
  where
    pub there : pool_at new place ≡ Some pool
    pub others : (q : ℕ) → (q == place) ≡ false → pool_at old q ≡ pool_at new q

-- A new pool may be put into a place, or behind all others.
pub record PoolsArePut (pools : List (Option PoolState)) (pool : PoolState) : Type 0 where
  pub inside :
      (place : ℕ) → place < length pools
      → IsPut pools place pool (slice_set pools place (Some pool))
  pub behind : IsPut pools (length pools) pool (pools ++ Some pool ∷ [])

-- Where a new pool is put into a place, or behind all others, all others stay.
abbrev pub NewPoolsArePut : Type 0
NewPoolsArePut = (pools : List (Option PoolState)) (pool : PoolState) → PoolsArePut pools pool

-- the tables once the pool in this place is gone
abbrev pub with_pool_gone : HubTables → ℕ → HubTables
with_pool_gone t place = record t { pools = slice_set t.pools place None }

-- A pool that nobody has messages of may go.
abbrev pub FreePoolsMayGo : Type 0
FreePoolsMayGo =
    (x : Given) (t : HubTables) (place : ℕ) → NobodyHas t place
    → state_shown x t ≡ state_shown x (with_pool_gone t place)
