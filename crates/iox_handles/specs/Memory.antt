-- How a table stands in memory: its places, the vacant ones, its list and its counts.
use Rattle.std.specs.Prelude.{ℕ, ◌≤◌, List, length}
use Rattle.iox_handles.specs.declared.entry.Entry.{Entry}
use Rattle.iox_handles.specs.NodeLists.{IsWhole, ListState}
use Rattle.iox_handles.specs.Places.{handles_there, room_in}
use Rattle.iox_handles.specs.Tallies.{IsTallied}

-- What is so of them.
pub record IsInMemory (ps : List Entry) (free : List ℕ) (most next pc fc : ℕ) (l : ListState) (counts : List ℕ)
    : Type 0 where
  pub whole : IsWhole (handles_there ps) free (room_in most ps free) next pc fc l
  -- there are not more places than there may be
  pub few : length ps ≤ most
  pub tallied : IsTallied counts (handles_there ps)
