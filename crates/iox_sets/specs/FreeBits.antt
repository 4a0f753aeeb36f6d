-- How the free indices agree with the owners.
use Rattle.std.specs.Prelude.{◌≡◌, ◌<◌, ◌≤◌, ℕ, List, Bool, true, Option, count_by, is_none, is_some, length, map}
use Rattle.iox_sets.specs.IndexSets.{max_capacity}

-- the bits say which indices are free, and `held` counts the others
pub record IsIndexed (owners : List (Option ℕ)) (free : List Bool) (held : ℕ)
    (locked : Bool) : Type 0 where
  pub some : 0 < length owners
  pub few : length owners ≤ max_capacity
  pub bits : free ≡ map is_none owners
  pub counted : held ≡ count_by is_some owners
  -- where the set is locked, no index is held
  pub closed : locked ≡ true → held ≡ 0
