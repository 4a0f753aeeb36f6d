-- Aligned places.
use Rattle.std.specs.Prelude.{ℕ, ◌≡◌, ◌+◌, ◌-◌, ◌*◌, ◌/◌}

-- the place is a multiple of the alignment
abbrev pub IsAlignedTo : ℕ → ℕ → Type 0
IsAlignedTo alignment place = (k : ℕ) × (place ≡ k * alignment)

-- the least multiple of the alignment that is not below the place
abbrev pub aligned_place : ℕ → ℕ → ℕ
aligned_place place alignment = (place + (alignment - 1)) / alignment * alignment
