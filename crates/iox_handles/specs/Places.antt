-- How a table of places holds handles.
use Rattle.std.specs.Prelude.{ℕ, zero, suc, ◌≡◌, ◌≤◌, ◌+◌, ◌-◌, ◌^◌, ◌==◌, Bool, false, if◌then◌else◌, List, [], ◌∷◌, ◌++◌, Option, Some, None, length, map, slice_get, ⊤}
use Rattle.std.specs.Option.{option_map_or}
use Rattle.iox_handles.specs.declared.entry.Entry.{Entry}
use Rattle.iox_handles.specs.Least.{lesser}
use Rattle.iox_handles.specs.Tables.{has_port, has_that}

-- the number of no handle: a place where it stands is vacant
abbrev pub nobody : ℕ
nobody = 2 ^ 64 - 1

-- the handle that stands in a place, if the place is not vacant
abbrev pub handle_in : Entry → Option Entry
handle_in h = if h.number == nobody then None else Some h

-- the same of each place
abbrev pub handles_there : List Entry → List (Option Entry)
handles_there ps = map handle_in ps

-- whether that number stands in the place
abbrev pub has_number_at : ℕ → List Entry → ℕ → Bool
has_number_at number ps place = option_map_or (has_that number) (slice_get ps place) false

-- how many handles may come, where there may be so many places: into vacant ones or new ones
abbrev pub room_in : ℕ → List Entry → List ℕ → ℕ
room_in most ps free = most - length ps + length free

-- whether there is a handle of that number
abbrev pub is_numbered : ℕ → Option Entry → Bool
is_numbered number None = false
is_numbered number (Some h) = h.number == number

-- whether a handle of that number is in the place
abbrev pub has_at : ℕ → List (Option Entry) → ℕ → Bool
has_at number ps place = option_map_or (is_numbered number) (slice_get ps place) false

-- whether there is a handle that passes
abbrev pub passes : (Entry → Bool) → Option Entry → Bool
passes test None = false
passes test (Some h) = test h

-- whether a handle of that port stands in a place
abbrev pub is_there_of : ℕ → Entry → Bool
is_there_of port h = passes (has_port port) (handle_in h)

-- the number of the handle that is there, if it is of that node
abbrev pub number_for : ℕ → Option Entry → Option ℕ
number_for node None = None
number_for node (Some h) = if h.node == node then Some h.number else None

-- a number or none, as a list
abbrev pub number_list : Option ℕ → List ℕ
number_list None = []
number_list (Some n) = n ∷ []

-- the numbers of the node's handles, place by place
abbrev pub numbers_in : ℕ → List (Option Entry) → List ℕ
numbers_in node [] = []
numbers_in node (o ∷ ps) = number_list (number_for node o) ++ numbers_in node ps

-- the least number of the node's handles
abbrev pub least_in : ℕ → List (Option Entry) → Option ℕ
least_in node [] = None
least_in node (o ∷ ps) = lesser (number_for node o) (least_in node ps)

-- the handle of that number
abbrev pub in_places : List (Option Entry) → ℕ → Option Entry
in_places [] k = None
in_places (None ∷ ps) k = in_places ps k
in_places (Some h ∷ ps) k = if h.number == k then Some h else in_places ps k

-- a handle or none, as a list
abbrev pub option_list : Option Entry → List Entry
option_list None = []
option_list (Some h) = h ∷ []

-- those of the numbers below n, ascending
abbrev pub by_number : (ℕ → Option Entry) → ℕ → List Entry
by_number at zero = []
by_number at (suc n) = by_number at n ++ option_list (at n)

-- the handles, whose numbers are below n, ascending
abbrev pub handles_in : List (Option Entry) → ℕ → List Entry
handles_in ps n = by_number (in_places ps) n

-- no two handles have one number
abbrev pub NumbersAreApart : List (Option Entry) → Type 0
NumbersAreApart [] = ⊤
NumbersAreApart (None ∷ ps) = NumbersAreApart ps
NumbersAreApart (Some h ∷ ps) = (in_places ps h.number ≡ None) × NumbersAreApart ps

-- how many places have handles
abbrev pub used : List (Option Entry) → ℕ
used [] = 0
used (None ∷ ps) = used ps
used (Some h ∷ ps) = suc (used ps)

-- how often the number is in the list
abbrev pub how_often : ℕ → List ℕ → ℕ
how_often p [] = 0
how_often p (q ∷ qs) = (if q == p then 1 else 0) + how_often p qs

-- 1 if the place is vacant, else 0
abbrev pub vacancy : List (Option Entry) → ℕ → ℕ
vacancy [] p = 0
vacancy (None ∷ ps) zero = 1
vacancy (Some h ∷ ps) zero = 0
vacancy (o ∷ ps) (suc p) = vacancy ps p

-- How a table stands in memory.
pub record IsTable (ps : List (Option Entry)) (free : List ℕ) (room next places_cap free_cap : ℕ)
    : Type 0 where
  -- a number is one handle's, and below the next
  pub apart : NumbersAreApart ps
  pub below : (k : ℕ) → next ≤ k → in_places ps k ≡ None
  -- each vacant place is listed once, and no other
  pub listed : (p : ℕ) → how_often p free ≡ vacancy ps p
  pub counted : length free + used ps ≡ length ps
  -- there is memory for those that may come, and for their places when they go
  pub promised : length free ≤ room
  pub fits : length ps + room ≤ places_cap + length free
  pub returns : length ps + room ≤ free_cap + length free
