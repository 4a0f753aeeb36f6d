-- Loans beside which somebody has no message of their pool.
use Rattle.std.specs.Prelude.{◌≡◌, ℕ, ◌-◌, Bool, true, ◌==◌, List, Option, length}
use Rattle.iox_slots.specs.Pools.{free_count}
use Rattle.iox_tables.specs.HubStates.Tables.{HandleState, HubTables, PoolState, slots_of}
use Rattle.iox_tables.specs.HubStates.Wirings.{IsHandle}
use Rattle.iox_tables.specs.HubBooks.Handles.{is_loan}

-- somebody has just one message of the pool
abbrev pub has_one_out : List (Option PoolState) → ℕ → Bool
has_one_out pools pool = (length (slots_of pools pool) - free_count pools pool) == 1

-- A loan has a message of the pool, and nobody has another.
pub record HasOneLoan (t : HubTables) (pool : ℕ) : Type 0 where
  pub node : ℕ
  pub number : ℕ
  pub handle : HandleState
  pub named : IsHandle t node number handle
  pub loan : is_loan handle.kind ≡ true
  pub of_pool : handle.pool ≡ pool
  pub one : has_one_out t.pools pool ≡ true
