-- The description of a type, and which types are compatible.
use Rattle.std.specs.Prelude.{ℕ, ◌≡◌, ◌≤◌, List, length, nat_le, not, Bool, IsTrue, Option, Some, None, if◌then◌else◌}
use Rattle.std.specs.Int.{is_power_of_two}
use Rattle.iox_types.specs.declared.type_detail.TypeVariant.{TypeVariant}
use Rattle.iox_types.specs.declared.type_detail.TypeDetailError.{TypeDetailError}
use Rattle.iox_types.specs.declared.type_detail.TypeDetailError.TheVariants.{NameTooLong, AlignmentNotPowerOfTwo}

-- the description of a type of messages
pub record Detail : Type 0 where
  -- whether a message has one value or several
  pub variant : TypeVariant
  -- the bytes of the type's name
  pub name : List ℕ
  -- how many bytes a value takes
  pub size : ℕ
  -- the number of bytes that a value's address is a multiple of
  pub alignment : ℕ

-- the description of a type of that name, size and alignment
abbrev pub detail : TypeVariant → List ℕ → ℕ → ℕ → Detail
detail variant name size alignment =
    record { variant = variant; name = name; size = size; alignment = alignment }

-- the most bytes of a type's name
abbrev pub max_name_length : ℕ
max_name_length = 256

-- whether a type's name is not too long
abbrev pub is_short : List ℕ → Bool
is_short name = nat_le (length name) max_name_length

-- none of three names is too long
abbrev pub AllShort : List ℕ → List ℕ → List ℕ → Type 0
AllShort header user_header payload =
    IsTrue (is_short header) × IsTrue (is_short user_header) × IsTrue (is_short payload)

-- the first test of a detail that fails
abbrev pub detail_refusal : List ℕ → ℕ → Option TypeDetailError
detail_refusal name alignment =
    if not (is_short name) then Some NameTooLong
    else if not (is_power_of_two alignment) then Some AlignmentNotPowerOfTwo
    else None

-- a value of `mine` may stand where one of `theirs` does
pub record IsCompatible (mine theirs : Detail) : Type 0 where
  pub variant : mine.variant ≡ theirs.variant
  pub name : mine.name ≡ theirs.name
  pub size : mine.size ≡ theirs.size
  pub alignment : mine.alignment ≤ theirs.alignment
