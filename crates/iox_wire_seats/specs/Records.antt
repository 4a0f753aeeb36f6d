-- What a port delivered on each of its ways and did not get back, and for how many slots there is
-- room.
use Rattle.std.specs.Prelude.{◌≡◌, ◌<◌, ◌≤◌, ℕ, true, List, [], ◌∷◌, length, map, if◌then◌else◌}
use Rattle.iox_model.specs.declared.way.Way.{Way}
use Rattle.iox_model.specs.Maps.{same_way}
use Rattle.iox_wire_locals.specs.declared.table.Recorded.{Recorded}

-- The slots that are recorded on a way, and how many there may be.
pub record Noted : Type 0 where
  pub recorded : Recorded
  pub capacity : ℕ

-- what is recorded on each way
abbrev pub recorded_in : List Noted → List Recorded
recorded_in notes = map (λ n. n.recorded) notes

-- the ways of the records
abbrev pub ways_in : List Noted → List Way
ways_in notes = map (λ n. n.recorded.way) notes

-- other slots are recorded now
abbrev pub changed : (List ℕ → List ℕ) → Noted → Noted
changed change n = record n { recorded = record (n.recorded) { slots = change n.recorded.slots } }

-- so they are on the way
abbrev pub with_noted : Way → (List ℕ → List ℕ) → Noted → Noted
with_noted w change n = if same_way n.recorded.way w then changed change n else n

-- there is room for one slot more on the way
abbrev pub HasRoomToNote : Way → List Noted → Type 0
HasRoomToNote w [] = Unit {0}
HasRoomToNote w (n ∷ notes) =
    (same_way n.recorded.way w ≡ true → length n.recorded.slots < n.capacity)
    × HasRoomToNote w notes

-- on each way there is room for so many slots
abbrev pub NotesHaveRoom : ℕ → List Noted → Type 0
NotesHaveRoom k [] = Unit {0}
NotesHaveRoom k (n ∷ notes) = (k ≤ n.capacity) × NotesHaveRoom k notes

-- fewer slots than that are recorded on the way
abbrev pub HasFewer : ℕ → Way → List Recorded → Type 0
HasFewer k w [] = Unit {0}
HasFewer k w (r ∷ rs) = (same_way r.way w ≡ true → length r.slots < k) × HasFewer k w rs
