-- On which lanes of a pipe something is left to get back.
use Rattle.std.specs.Prelude.{◌≡◌, ◌≢◌, ◌<◌, ◌≤◌, ◌+◌, ◌-◌, ◌*◌, ◌/◌, ◌%◌, ◌^◌, ℕ, zero, suc, Bool, true, false, if◌then◌else◌, List, get_or, length, nat_lt, slice_get}
use Rattle.std.specs.Int.{bit_at}
use Rattle.std.specs.Option.{option_map_or}
use Rattle.iox_lanes.specs.Lanes.{LaneState, has_returned}

-- whether something is left to get back on the lane of that number
abbrev pub has_returned_at : List LaneState → ℕ → Bool
has_returned_at lanes k = option_map_or has_returned (slice_get lanes k) false

-- ---- marks in words

-- the number is not 0
abbrev pub is_set : ℕ → Bool
is_set zero = false
is_set (suc n) = true

-- the word in that place, and 0 past the last
abbrev pub word_at : List ℕ → ℕ → ℕ
word_at words n = get_or words n 0

-- the mark of that number is set, where each word has 64
abbrev pub is_marked : List ℕ → ℕ → Bool
is_marked words k = is_set (bit_at (word_at words (k / 64)) (k % 64))

-- ---- words above words

-- the place of the first word that has so many levels above it
abbrev pub first_of : ℕ → ℕ
first_of zero = 0
first_of (suc levels) = 64 * first_of levels + 1

-- a mark that is in no word at the bottom says whether its word has any
abbrev pub Tells : List ℕ → ℕ → Type 0
Tells words k = is_marked words k ≡ is_set (word_at words (k + 1))

-- so many marks do
abbrev pub TellBelow : List ℕ → ℕ → Type 0
TellBelow words marks = (k : ℕ) → k < marks → Tells words k

-- so many do, but for that of the word in this place
abbrev pub TellBut : List ℕ → ℕ → ℕ → Type 0
TellBut words marks at = (k : ℕ) → k < marks → k + 1 ≢ at → Tells words k

-- where the word in this place has a mark, the word above it says so
abbrev pub TellsOfWord : List ℕ → ℕ → Type 0
TellsOfWord words at =
    0 < at → is_set (word_at words at) ≡ true → is_marked words (at - 1) ≡ true

-- The words from that place on are at the bottom. Above them are so many levels of words, which
-- tell where marks are.
pub record AreSummed (words : List ℕ) (bottom levels : ℕ) : Type 0 where
  pub at : bottom ≡ first_of levels
  pub some : bottom ≤ length words
  pub wide : length words ≤ 64 * bottom + 1
  pub fits : length words < 2 ^ 57
  pub tells : TellBelow words (64 * bottom)

-- The marks of many lanes: words, of which those from that place on are at the bottom.
pub record FarState : Type 0 where
  pub words : List ℕ
  pub bottom : ℕ

-- for so many lanes there is a mark
abbrev pub far_room : FarState → ℕ
far_room m = 64 * (length m.words - m.bottom)

-- the mark of that lane is set
abbrev pub has_far : FarState → ℕ → Bool
has_far m k = is_marked m.words (64 * m.bottom + k)

-- none is set
abbrev pub HasNoneFar : FarState → Type 0
HasNoneFar m = (k : ℕ) → has_far m k ≡ false

-- ---- the marks of all lanes

-- The first 63 lanes have their marks in one word, and the lanes past them in others.
pub record MarksState : Type 0 where
  pub near : ℕ
  pub far : FarState

-- for so many lanes there is a mark
abbrev pub room_of : MarksState → ℕ
room_of m = 63 + far_room m.far

-- the mark of that lane is set
abbrev pub has_mark : MarksState → ℕ → Bool
has_mark m k = if nat_lt k 63 then is_set (bit_at m.near k) else has_far m.far (k - 63)

-- none is set
abbrev pub HasNone : MarksState → Type 0
HasNone m = (k : ℕ) → has_mark m k ≡ false

-- where the last mark of the first word is not set, none is past that word
abbrev pub NoneIsFar : ℕ → FarState → Type 0
NoneIsFar near far = bit_at near 63 ≡ 0 → HasNoneFar far

-- The mark of a lane says whether something is left to get back there, and each lane has one.
pub record AreMarked (marks : MarksState) (lanes : List LaneState) : Type 0 where
  pub one : (k : ℕ) → has_mark marks k ≡ has_returned_at lanes k
  pub room : length lanes ≤ room_of marks
