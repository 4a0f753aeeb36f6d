-- The words of a type that is made of others: in two parts, or the values that pass a test.
use Rattle.std.specs.Prelude.{ℕ, List, Bool, Option, Some, None, take, drop, IfSome, IsTrue, if◌then◌else◌}

-- both values, if there are two
abbrev pub both : {A B : Type 0} → Option A → Option B → Option (A × B)
both (Some a) (Some b) = Some (a, b)
both (Some a) None = None
both None _ = None

-- the first `count` words are those of the first part, the others those of the second
abbrev pub IsWordsInParts : ℕ → (List ℕ → Type 0) → (List ℕ → Type 0) → List ℕ → Type 0
IsWordsInParts count are_first are_second list = are_first (take count list) × are_second (drop count list)

-- the values of the two parts
abbrev pub of_parts : {A B : Type 0} → ℕ → (List ℕ → Option A) → (List ℕ → Option B) → List ℕ → Option (A × B)
of_parts count of_first of_second list = both (of_first (take count list)) (of_second (drop count list))

-- words whose value passes the test
abbrev pub IsWordsWhere : {A : Type 0} → (A → Bool) → (List ℕ → Type 0) → (List ℕ → Option A) → List ℕ →
    Type 0
IsWordsWhere test are of list = are list × IfSome (of list) (λ value. IsTrue (test value))

-- the value, if there is one and it passes the test
abbrev pub passing : {A : Type 0} → (A → Bool) → Option A → Option A
passing test None = None
passing test (Some value) = if test value then Some value else None

-- the value of words, if it passes the test
abbrev pub of_where : {A : Type 0} → (A → Bool) → (List ℕ → Option A) → List ℕ → Option A
of_where test of list = passing test (of list)
