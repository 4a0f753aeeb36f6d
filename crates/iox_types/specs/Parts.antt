-- The bytes of a message: those of its three parts, wherever they have to stand.
use Rattle.std.specs.Prelude.{ℕ, ◌+◌, ◌-◌, ◌*◌}
use Rattle.iox_types.specs.Places.{aligned_place}

-- a part of a message in memory
pub record Part : Type 0 where
  -- how many bytes it has
  pub size : ℕ
  -- the number of bytes that its place is a multiple of
  pub alignment : ℕ

-- a part of so many whole words
abbrev pub part_of_words : ℕ → Part
part_of_words n = record { size = 8 * n; alignment = 8 }

-- the bytes that a message of n elements takes at most, wherever its header stands
abbrev pub bytes_of_parts : Part → Part → Part → ℕ → ℕ
bytes_of_parts header user element n =
    header.size + user.size + (user.alignment - 1) + n * element.size + (element.alignment - 1)

-- the size of such a message: these bytes, rounded up to the header's alignment
abbrev pub size_of_parts : Part → Part → Part → ℕ → ℕ
size_of_parts header user element n =
    aligned_place (bytes_of_parts header user element n) header.alignment
