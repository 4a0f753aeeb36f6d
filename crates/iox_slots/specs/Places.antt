-- What stands in one place: a pool, or nothing.
use Rattle.std.specs.Prelude.{◌≡◌, ℕ, Bool, if◌then◌else◌, List, [], Option, Some, None}
use Rattle.std.specs.Option.{option_map_or}
use Rattle.iox_tables.specs.HubStates.Tables.{PoolState, SlotState}

-- the pool, if there is one
abbrev pub pool_if : Bool → PoolState → Option PoolState
pool_if there pool = if there then Some pool else None

-- its slots
abbrev pub slots_in : Option PoolState → List SlotState
slots_in o = option_map_or (λ p. p.slots) o []

-- its port
abbrev pub port_of : Option PoolState → ℕ
port_of o = option_map_or (λ p. p.port) o 0

-- Where there is no pool, what stands there has no slots, and is of no port.
pub record IsPlace (there : Bool) (pool : PoolState) : Type 0 where
  pub slots : slots_in (pool_if there pool) ≡ pool.slots
  pub port : port_of (pool_if there pool) ≡ pool.port
