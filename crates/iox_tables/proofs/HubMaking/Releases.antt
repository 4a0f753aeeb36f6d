-- The release of a port does not see pools, nor how many calls there were.
use Rattle.std.specs.Prelude.{◌≡◌, ℕ, Bool, true, false, if◌then◌else◌, List, Option, refl}
use Rattle.iox_tables.specs.HubStates.Tables.{HubTables, PoolState}
use Rattle.iox_tables.specs.HubMaking.Disconnections.{is_unused, with_disconnected, with_released}

pub released_as : (u : HubTables) (pools : List (Option PoolState)) (n : ℕ) → with_released (record u { pools = pools }) n ≡ record (with_released u n) { pools = pools }
released_as u pools n = step (is_unused u n)
  where
    step : (b : Bool) → (if b then with_disconnected (record u { pools = pools }) n else record u { pools = pools }) ≡ record (if b then with_disconnected u n else u) { pools = pools }
    step true = refl
    step false = refl

pub released_later : (u : HubTables) (calls : ℕ) (pools : List (Option PoolState)) (n : ℕ)
    → with_released (record u { calls = calls; pools = pools }) n ≡ record (with_released u n) { calls = calls; pools = pools }
released_later u calls pools n = step (is_unused u n)
  where
    step : (b : Bool) → (if b then with_disconnected (record u { calls = calls; pools = pools }) n else record u { calls = calls; pools = pools })
        ≡ record (if b then with_disconnected u n else u) { calls = calls; pools = pools }
    step true = refl
    step false = refl

pub released_pools : (u : HubTables) (n : ℕ) → (with_released u n).pools ≡ u.pools
released_pools u n = step (is_unused u n)
  where
    step : (b : Bool) → (if b then with_disconnected u n else u).pools ≡ u.pools
    step true = refl
    step false = refl

pub released_calls : (u : HubTables) (n : ℕ) → (with_released u n).calls ≡ u.calls
released_calls u n = step (is_unused u n)
  where
    step : (b : Bool) → (if b then with_disconnected u n else u).calls ≡ u.calls
    step true = refl
    step false = refl
