-- How the set of indices agrees with the slots.
use Rattle.std.specs.Prelude.{◌≡◌, ◌≤◌, ℕ, List, Bool, Option, length, map}
use Rattle.std.specs.Option.{option_map}
use Rattle.iox_sets.specs.IndexSets.{max_capacity}
use Rattle.iox_container.specs.declared.mpmc.container.entries.Entry.{Entry}
use Rattle.iox_container.specs.Containers.{Contents}

-- the contents that the fields stand for
abbrev pub contents_in : {T : Type 0} → ℕ → List (Option (Entry T)) → Bool → ℕ → Contents T
contents_in id slots locked next_ticket =
    record { id = id; slots = slots; locked = locked; next_ticket = next_ticket }

-- the owners in the set of indices agree with the entries in the slots
pub record IsIndexed {T : Type 0} (slots : List (Option (Entry T)))
    (held : List (Option ℕ)) : Type 0 where
  -- an index is held where the slot has an entry, and by its owner
  pub owned : held ≡ map (option_map (λ entry. entry.owner)) slots
  -- there are not more slots than a set of indices may have
  pub few : length slots ≤ max_capacity
