-- When a pool goes, and what is left of pools.
use Rattle.std.specs.Prelude.{◌≡◌, ℕ, true, not, ◌&&◌, if◌then◌else◌, List, Option, Some, is_some}
use Rattle.iox_tables.specs.HubStates.Tables.{HandleState, HubTables, PoolState, PortState, owner_of, pool_at, port_in}
use Rattle.iox_tables.specs.HubStates.Steps.{is_there}
use Rattle.iox_tables.specs.HubBooks.Keeps.{bare_pool}
use Rattle.iox_slots.specs.Pools.{is_idle, without_pool}

-- the pools without the one in this place, if its port is gone and nobody has a message of it
abbrev pub with_left_pool_gone : HubTables → ℕ → List (Option PoolState)
with_left_pool_gone t place =
    if is_idle t.pools place && not (is_there t.ports (owner_of t.pools place))
    then without_pool t.pools place else t.pools

-- Each pool that is left is the old one in its place, but for how many have its slots.
abbrev pub KeptPools : List (Option PoolState) → List (Option PoolState) → Type 0
KeptPools old new =
    (place : ℕ) → (q : PoolState) → pool_at new place ≡ Some q
    → (p : PoolState) × (pool_at old place ≡ Some p) × (bare_pool p ≡ bare_pool q)

-- The pool of the handle's message is there, and that of its port.
pub record ArePoolsThere (ports : List PortState) (pools : List (Option PoolState)) (h : HandleState)
    : Type 0
  where
    pub message : is_some (pool_at pools h.pool) ≡ true
    pub port :
        (p : PortState) → port_in ports h.port ≡ Some p → is_some (pool_at pools p.pool) ≡ true

-- The pool in this place, if there is one, is of a connected port, or somebody has a message of it.
abbrev pub NoLeftPool : HubTables → ℕ → Type 0
NoLeftPool t place =
    (q : PoolState) → pool_at t.pools place ≡ Some q → is_idle t.pools place ≡ true
    → is_there t.ports q.port ≡ true

-- No pool is left that was not left before.
abbrev pub StaysTidy : HubTables → HubTables → Type 0
StaysTidy old new = (place : ℕ) → NoLeftPool old place → NoLeftPool new place

-- No pool is left.
abbrev pub IsTidy : HubTables → Type 0
IsTidy t = (place : ℕ) → NoLeftPool t place
