-- A table of entries, as its callers see it.
use Rattle.std.specs.Prelude.{◌≡◌, ◌==◌, false, ℕ, zero, suc, ◌+◌, ◌<◌, ◌≤◌, List, [], ◌∷◌, length}
use Rattle.iox_wire_locals.specs.declared.table.Entry.{Entry}

-- The entries, oldest first, and how many more may come.
pub record Rows : Type 0 where
  pub room : ℕ
  pub entries : List Entry

-- each entry has a number above this one
abbrev pub AreAbove : ℕ → List Entry → Type 0
AreAbove n [] = Unit {0}
AreAbove n (e ∷ es) = (n < e.number) × AreAbove n es

-- each entry has a number below this one
abbrev pub AreBelow : ℕ → List Entry → Type 0
AreBelow n [] = Unit {0}
AreBelow n (e ∷ es) = (e.number < n) × AreBelow n es

-- their numbers ascend
abbrev pub IsAscending : List Entry → Type 0
IsAscending [] = Unit {0}
IsAscending (e ∷ es) = AreAbove e.number es × IsAscending es

-- there is capacity for those that are there and for those that may come
abbrev pub HasCapacity : List Entry → (room capacity : ℕ) → Type 0
HasCapacity es room capacity = length es + room ≤ capacity

-- the number of the entry at a place; 0 if none stands there
abbrev pub number_at : List Entry → ℕ → ℕ
number_at [] k = 0
number_at (e ∷ es) zero = e.number
number_at (e ∷ es) (suc k) = number_at es k

-- so many entries, the first, have a lower number
pub record IsLowerBound (n : ℕ) (es : List Entry) (bound : ℕ) : Type 0 where
  pub within : bound ≤ length es
  pub lower : (k : ℕ) → k < bound → number_at es k < n
  pub others : (k : ℕ) → bound ≤ k → k < length es → n ≤ number_at es k

-- only the entry at this place has that number
abbrev pub IsOnlyAt : ℕ → List Entry → ℕ → Type 0
IsOnlyAt n [] i = ⊥
IsOnlyAt n (e ∷ es) zero = (e.number ≡ n) × AreAbove n es
IsOnlyAt n (e ∷ es) (suc i) = (e.number < n) × IsOnlyAt n es i

-- no entry has that number
abbrev pub IsMissing : ℕ → List Entry → Type 0
IsMissing n [] = Unit {0}
IsMissing n (e ∷ es) = ((e.number == n) ≡ false) × IsMissing n es
