-- A value of `size` words: its version, and then two cells, for the values of even and of odd
-- versions; and its events.
use Rattle.std.specs.Prelude.{◌≡◌, ℕ, ◌+◌, ◌%◌, ◌<◌, ◌==◌, List, [], ◌∷◌, Option, Some, None, if◌then◌else◌, slice_index}
use Rattle.iox_set_steps.specs.declared.unrestricted_atomic.AtomicEvent.{AtomicEvent}
use Rattle.iox_set_steps.specs.declared.unrestricted_atomic.AtomicEvent.TheVariants.{Stored, Loaded}

-- where the cell of a version begins, in words from the place behind the version: 0 for an even
-- version, `size` for an odd one
abbrev pub cell_of : ℕ → ℕ → ℕ
cell_of size version = if version % 2 == 0 then 0 else size

-- the version that is current now
abbrev pub version_now : ℕ → List ℕ → ℕ
version_now base words = slice_index words base

-- a word of the value of a version
abbrev pub word_of : ℕ → ℕ → List ℕ → ℕ → ℕ → ℕ
word_of size base words version index = slice_index words (base + 1 + cell_of size version + index)

-- a word of the value that is current now
abbrev pub value_now : ℕ → ℕ → List ℕ → ℕ → ℕ
value_now size base words = word_of size base words (version_now base words)

-- the first words of two values are the same, as many as `count`
abbrev pub AgreeUpTo : ℕ → (ℕ → ℕ) → (ℕ → ℕ) → Type 0
AgreeUpTo count a b = (index : ℕ) → index < count → a index ≡ b index

-- the words of a list
abbrev pub words_of : List ℕ → ℕ → ℕ
words_of list index = slice_index list index

-- `value` is current at first and `last` at last, and each load hands out the value that is current
-- when it comes
abbrev pub ValueRun : (size : ℕ) → (ℕ → ℕ) → List (AtomicEvent size) → (ℕ → ℕ) → Type 0
ValueRun size value [] last = AgreeUpTo size last value
ValueRun size value (Stored list ∷ events) last = ValueRun size (words_of list) events last
ValueRun size value (Loaded list ∷ events) last = AgreeUpTo size (words_of list) value × ValueRun size value events last

-- what an event makes of the current value: a store replaces it, a load hands it out, and else it
-- is unchanged
abbrev pub LeadsOn : (size : ℕ) → (ℕ → ℕ) → Option (AtomicEvent size) → (ℕ → ℕ) → Type 0
LeadsOn size old None new = AgreeUpTo size new old
LeadsOn size old (Some (Stored list)) new = AgreeUpTo size new (words_of list)
LeadsOn size old (Some (Loaded list)) new = AgreeUpTo size (words_of list) old × AgreeUpTo size new old
