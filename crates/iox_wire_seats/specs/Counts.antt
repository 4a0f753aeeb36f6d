-- One count for each way.
use Rattle.std.specs.Prelude.{◌≡◌, ◌<◌, ℕ, true, false, List, [], ◌∷◌, find}
use Rattle.std.specs.Option.{option_map_or}
use Rattle.iox_model.specs.declared.way.Way.{Way}
use Rattle.iox_model.specs.Maps.{same_way}
use Rattle.iox_wire_locals.specs.declared.table.Borrowed.{Borrowed}

-- none of these is the count of that way
abbrev pub AreOfOtherWays : Way → List Borrowed → Type 0
AreOfOtherWays w [] = Unit {0}
AreOfOtherWays w (b ∷ bs) = (same_way b.way w ≡ false) × AreOfOtherWays w bs

-- no two of these are counts of one way
abbrev pub AreOfDifferentWays : List Borrowed → Type 0
AreOfDifferentWays [] = Unit {0}
AreOfDifferentWays (b ∷ bs) = AreOfOtherWays b.way bs × AreOfDifferentWays bs

-- the count of the way is below this
abbrev pub IsBelow : ℕ → Way → List Borrowed → Type 0
IsBelow n w [] = Unit {0}
IsBelow n w (b ∷ bs) = (same_way b.way w ≡ true → b.count < n) × IsBelow n w bs

-- the count of the way; 0 if it has none
abbrev pub count_at : Way → List Borrowed → ℕ
count_at w bs = option_map_or (λ b. b.count) (find (λ b. same_way b.way w) bs) 0
