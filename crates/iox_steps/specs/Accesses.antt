-- One access to shared words: the word that it names, what it finds there and what it leaves.
-- `word` reads a word by its place.
use Rattle.std.specs.Prelude.{ℕ, ◌+◌, ◌-◌, ◌%◌, ◌^◌, ◌==◌, ◌<◌, ◌≤◌, ◌≡◌, ◌⊎◌, List, length, if◌then◌else◌, slice_index, slice_set, bit_or, bit_and}
use Rattle.iox_steps.specs.declared.access.Access.{Access}
use Rattle.iox_steps.specs.declared.access.Access.TheVariants.{Local, Load, Store, CompareExchange, FetchAdd, FetchSub, FetchOr, FetchAnd}

-- the place of the one word that is named, and 0 where none is
abbrev pub place_of : Access → ℕ
place_of Local = 0
place_of (Load place) = place
place_of (Store place value) = place
place_of (CompareExchange place old new) = place
place_of (FetchAdd place value) = place
place_of (FetchSub place value) = place
place_of (FetchOr place value) = place
place_of (FetchAnd place value) = place

-- what becomes of that word, where it is n
abbrev pub change_of : Access → ℕ → ℕ
change_of Local n = n
change_of (Load place) n = n
change_of (Store place value) n = value
change_of (CompareExchange place old new) n = if n == old then new else n
change_of (FetchAdd place value) n = (n + value) % 2 ^ 64
change_of (FetchSub place value) n = (n + (2 ^ 64 - value)) % 2 ^ 64
change_of (FetchOr place value) n = bit_or n value
change_of (FetchAnd place value) n = bit_and n value

-- what the party sees, where the word was n
abbrev pub seen_of : Access → ℕ → ℕ
seen_of Local n = 0
seen_of (Load place) n = n
seen_of (Store place value) n = n
seen_of (CompareExchange place old new) n = n
seen_of (FetchAdd place value) n = n
seen_of (FetchSub place value) n = n
seen_of (FetchOr place value) n = n
seen_of (FetchAnd place value) n = n

-- what the party sees, where `word` gives the word at each place
abbrev pub seen_by : Access → (ℕ → ℕ) → ℕ
seen_by access word = seen_of access (word (place_of access))

-- what the party sees in a list of words
abbrev pub seen_at : Access → List ℕ → ℕ
seen_at access words = seen_by access (λ place. slice_index words place)

-- the words where this one is replaced, and all others stay
abbrev pub put : (ℕ → ℕ) → ℕ → ℕ → ℕ → ℕ
put word place value at = if at == place then value else word at

-- the words after an access
abbrev pub word_after : Access → (ℕ → ℕ) → ℕ → ℕ
word_after Local word = word
word_after (Load place) word = word
word_after (Store place value) word = put word place value
word_after (CompareExchange place old new) word = if word place == old then put word place new else word
word_after (FetchAdd place value) word = put word place (change_of (FetchAdd place value) (word place))
word_after (FetchSub place value) word = put word place (change_of (FetchSub place value) (word place))
word_after (FetchOr place value) word = put word place (change_of (FetchOr place value) (word place))
word_after (FetchAnd place value) word = put word place (change_of (FetchAnd place value) (word place))

-- the list of words after an access
abbrev pub words_after : Access → List ℕ → List ℕ
words_after Local words = words
words_after (Load place) words = words
words_after (Store place value) words = slice_set words place value
words_after (CompareExchange place old new) words =
    if slice_index words place == old then slice_set words place new else words
words_after (FetchAdd place value) words =
    slice_set words place (change_of (FetchAdd place value) (slice_index words place))
words_after (FetchSub place value) words =
    slice_set words place (change_of (FetchSub place value) (slice_index words place))
words_after (FetchOr place value) words =
    slice_set words place (change_of (FetchOr place value) (slice_index words place))
words_after (FetchAnd place value) words =
    slice_set words place (change_of (FetchAnd place value) (slice_index words place))

-- the place is one of the `size` places from `base` on
abbrev pub IsPlace : ℕ → ℕ → ℕ → Type 0
IsPlace base size place = (base ≤ place) × (place < base + size)

-- the access names no word outside the `size` places from `base` on
abbrev pub IsWithin : ℕ → ℕ → Access → Type 0
IsWithin base size Local = Unit {0}
IsWithin base size (Load place) = IsPlace base size place
IsWithin base size (Store place value) = IsPlace base size place
IsWithin base size (CompareExchange place old new) = IsPlace base size place
IsWithin base size (FetchAdd place value) = IsPlace base size place
IsWithin base size (FetchSub place value) = IsPlace base size place
IsWithin base size (FetchOr place value) = IsPlace base size place
IsWithin base size (FetchAnd place value) = IsPlace base size place

-- one word became another, and no other word changed
abbrev pub ChangesWord : (ℕ → ℕ) → ℕ → ℕ → (ℕ → ℕ) → Type 0
ChangesWord word place new word' = (word' place ≡ new) × ((at : ℕ) → (at ≡ place → ⊥) → word' at ≡ word at)

-- two stretches of words have no word in common
abbrev pub AreApart : ℕ → ℕ → ℕ → ℕ → Type 0
AreApart base size base' size' = (base + size ≤ base') ⊎ (base' + size' ≤ base)

-- no word changed but in this stretch
abbrev pub IsSameOutside : ℕ → ℕ → (ℕ → ℕ) → (ℕ → ℕ) → Type 0
IsSameOutside base size word word' = (place : ℕ)
    → (place < base) ⊎ (base + size ≤ place) → word' place ≡ word place

-- the lists are equally long, and no word changed but in this stretch
abbrev pub KeepsOutside : ℕ → ℕ → List ℕ → List ℕ → Type 0
KeepsOutside base size words after = (length after ≡ length words)
    × IsSameOutside base size (λ place. slice_index words place) (λ place. slice_index after place)
