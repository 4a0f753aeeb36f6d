-- Lists and maps. A map is a function, with a value at each name; `put_at` and `put` give the map
-- with a new value at one name.
use Rattle.std.specs.Prelude.{◌≡◌, ℕ, Bool, true, false, not, ◌&&◌, if◌then◌else◌, ◌==◌, List, [], ◌∷◌, filter, Option, Some, None, ⊤}
use Rattle.std.specs.List.{list_any}
use Rattle.iox_model.specs.declared.way.Way.{Way}

-- whether a list is empty
abbrev pub is_empty : {A : Type 0} → List A → Bool
is_empty [] = true
is_empty (x ∷ xs) = false

-- the first, if there is one, and those behind it
abbrev pub first_of : {A : Type 0} → List A → Option A
first_of [] = None
first_of (x ∷ xs) = Some x

-- a list without its first
abbrev pub rest_of : {A : Type 0} → List A → List A
rest_of [] = []
rest_of (x ∷ xs) = xs

-- whether the number is in the list
abbrev pub has_number : ℕ → List ℕ → Bool
has_number n ns = list_any (λ k. k == n) ns

-- the list without the first of these
abbrev pub without_number : ℕ → List ℕ → List ℕ
without_number n [] = []
without_number n (k ∷ ks) = if k == n then ks else k ∷ without_number n ks

-- a value for each number, with a new one at k
abbrev pub put_at : {A : Type 0} → (ℕ → A) → ℕ → A → ℕ → A
put_at f k a q = if q == k then a else f q

-- whether two ways agree in sender, receiver and lane
abbrev pub same_way : Way → Way → Bool
same_way v w = (v.sender == w.sender) && ((v.receiver == w.receiver) && (v.lane == w.lane))

-- a value for each way, with a new one at w
abbrev pub put : {A : Type 0} → (Way → A) → Way → A → Way → A
put f w a v = if same_way v w then a else f v

-- whether the way is in the list
abbrev pub has_way : Way → List Way → Bool
has_way w ways = list_any (same_way w) ways

-- the list without the first of these
abbrev pub without_way : Way → List Way → List Way
without_way w [] = []
without_way w (v ∷ vs) = if same_way v w then vs else v ∷ without_way w vs

-- those of the ways that are not among the others
abbrev pub not_in : List Way → List Way → List Way
not_in others ways = filter (λ w. not (has_way w others)) ways

-- no way is in the list twice
abbrev pub AreDistinctWays : List Way → Type 0
AreDistinctWays [] = ⊤
AreDistinctWays (w ∷ ws) = (has_way w ws ≡ false) × AreDistinctWays ws

-- no number is in the list twice
abbrev pub AreDistinct : List ℕ → Type 0
AreDistinct [] = ⊤
AreDistinct (n ∷ ns) = (has_number n ns ≡ false) × AreDistinct ns

-- the first of two refusals, if one applies
abbrev pub or_else : {A : Type 0} → Option A → Option A → Option A
or_else None r = r
or_else (Some r) q = Some r

-- this refusal, where the test is true
abbrev pub refused_if : {A : Type 0} → Bool → A → Option A
refused_if true r = Some r
refused_if false r = None
