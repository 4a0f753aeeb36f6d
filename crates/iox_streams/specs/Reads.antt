-- What one read takes from a reader.
use Rattle.std.specs.Prelude.{◌≡◌, ℕ, ◌≤◌, List, [], length, take, Option, Result, Ok, Err}
use Rattle.std.specs.Io.KnownBytes.{Consumes, IsAtEnd}
use Rattle.iox_streams.specs.declared.fault.Fault.{Fault}
use Rattle.iox_streams.specs.declared.fault.Fault.TheVariants.{Read}

-- A read gave `n` bytes: at most as many as there was room for, and none only at the end.
pub record Comes (room : ℕ) (reader reader' : Option (List ℕ)) (n : ℕ) (chunk : List ℕ) : Type 0 where
  pub within : n ≤ length chunk
  pub room_left : n ≤ room
  pub bytes : Consumes reader reader' (take n chunk)
  pub end : n ≡ 0 → IsAtEnd reader'

-- One read of at most `room` bytes; if it failed, or one byte too many came, none of its bytes
-- count.
abbrev pub ReadsWithin : ℕ → (reader reader' : Option (List ℕ)) → Result ℕ Fault → List ℕ → Type 0
ReadsWithin room reader reader' (Ok n) chunk = Comes room reader reader' n chunk
ReadsWithin room reader reader' (Err fault) chunk =
    (fault ≡ Read) × ((more : List ℕ) × Consumes reader reader' more × (take room more ≡ []))
