use Rattle.std.proofs.Common.{◌≡◌, ℕ, ◌<◌, true, is_some}
use Rattle.iox_tables.specs.HubStates.Tables.{pool_at}
use Rattle.iox_control_making.proofs.places.vacant_place.Given as goal

-- no place so far is vacant
abbrev pub invariant-loop-place : goal.invariant-loop-place
invariant-loop-place l = (k : ℕ) → k < l.place → is_some (pool_at l.pools k) ≡ true
