-- Values of a type in words: what an access makes of the value that is current, and what keeps it of its type.
use Rattle.std.specs.Prelude.{List, Option, Some, None, MatchOption}
use Rattle.std.specs.List.{range_with_len}
use Rattle.std.proofs.Common.{◌≡◌, ℕ, length, map, ltb, eqb, refl, ap, sym, ◌∙◌, inl, inr, arith}
use Rattle.std.proofs.lemmas.Bool.{cases_Bool}
use Rattle.std.proofs.lemmas.List.{get_or_default, same_lists}
use Rattle.std.proofs.lemmas.List.FromFn.{length-map-range_with_len, get_or-map-range_with_len}
use Rattle.iox_set_steps.specs.declared.unrestricted_atomic.AtomicEvent.TheVariants as event
use Rattle.iox_set_steps.specs.declared.unrestricted_atomic.AtomicProgram.{AtomicProgram}
use Rattle.iox_set_steps.specs.declared.unrestricted_atomic.AtomicProgram.TheVariants.{AtRest, LoadsToStore, StoresWord, Raises, LoadsToLoad, LoadsWord, LoadsAgain}
use Rattle.iox_set_steps.specs.Values.{AgreeUpTo, words_of}
use Rattle.iox_set_steps.specs.AtomicPrograms.{last_version, index_behind, atomic_next, atomic_event, program_of}
use Rattle.iox_set_steps.specs.AtomicPlays.{AtomicsKnow}
use Rattle.iox_set_steps.specs.TypedWords.{stored_by}

-- a list that agrees with a value is the list of its words
pub list_of : (size : ℕ) (value : ℕ → ℕ) (list : List ℕ) → length list ≡ size → AgreeUpTo size (words_of list) value → list ≡ map value (range_with_len 0 size)
list_of size value list whole agree =
    let counted = length-map-range_with_len value 0 size in
    same_lists _ _ (whole ∙ sym counted) (λ k default below.
    get_or_default list k default 0 below ∙ agree k (omega arith)
    ∙ sym (get_or-map-range_with_len value 0 size k k default (omega arith) (omega arith)))

-- values that agree have the same words
pub same_words : (size : ℕ) (value other : ℕ → ℕ) → AgreeUpTo size value other → map value (range_with_len 0 size) ≡ map other (range_with_len 0 size)
same_words size value other agree =
    let counted = length-map-range_with_len value 0 size in
    list_of size other (map value (range_with_len 0 size)) counted (λ k below.
    get_or-map-range_with_len value 0 size k k 0 below (omega arith) ∙ agree k below)

-- what an access that continues stores, it was to store before
pub stored_next : (size : ℕ) (program : AtomicProgram size) (seen : ℕ) (list : List ℕ) → stored_by (program_of (atomic_next size program seen)) ≡ Some list → stored_by program ≡ Some list
stored_next size AtRest seen list is = is
stored_next size (LoadsToStore value) seen list is = elim (cases_Bool (eqb seen last_version)) [
  | inl last ↦ (let no : stored_by {size = size} AtRest ≡ Some list = rw last at is in absurd (cc))
  | inr more ↦ first_word size value seen list (rw more at is)
]
  where
    first_word : (size : ℕ) (value : List ℕ) (seen : ℕ) (list : List ℕ) → stored_by (Rattle.iox_set_steps.specs.AtomicPrograms.stores_from size value seen 0) ≡ Some list → Some value ≡ Some list
    first_word size value seen list is = elim (cases_Bool (ltb 0 size)) [ inl some ↦ rw some at is | inr none ↦ rw none at is ]
stored_next size (StoresWord value version index) seen list is = elim (cases_Bool (ltb (index_behind index) size)) [ inl some ↦ rw some at is | inr none ↦ rw none at is ]
stored_next size (Raises value version) seen list is = absurd (cc)
stored_next size LoadsToLoad seen list is = elim (cases_Bool (ltb 0 size)) [ inl some ↦ absurd (let no = rw some at is in cc) | inr none ↦ absurd (let no = rw none at is in cc) ]
stored_next size (LoadsWord version words index) seen list is = elim (cases_Bool (ltb (index_behind index) size)) [ inl some ↦ absurd (let no = rw some at is in cc) | inr none ↦ absurd (let no = rw none at is in cc) ]
stored_next size (LoadsAgain version words) seen list is = elim (cases_Bool (eqb seen version)) [
  | inl stands ↦ absurd (let no = rw stands at is in cc)
  | inr moved ↦ (let at_first = rw moved at is in elim (cases_Bool (ltb 0 size)) [ inl some ↦ absurd (let no = rw some at at_first in cc) | inr none ↦ absurd (let no = rw none at at_first in cc) ])
]

-- what is stored was to be stored
pub stored_event : (size : ℕ) (program : AtomicProgram size) (seen : ℕ) (list : List ℕ) → atomic_event program seen ≡ Some (event.Stored list) → stored_by program ≡ Some list
stored_event size AtRest seen list is = absurd (cc)
stored_event size (LoadsToStore value) seen list is = absurd (cc)
stored_event size (StoresWord value version index) seen list is = absurd (cc)
stored_event size (Raises value version) seen list is = cc
stored_event size LoadsToLoad seen list is = absurd (cc)
stored_event size (LoadsWord version words index) seen list is = absurd (cc)
stored_event size (LoadsAgain version words) seen list is = elim (cases_Bool (eqb seen version)) [ inl stands ↦ absurd (let no = rw stands at is in cc) | inr moved ↦ absurd (let no = rw moved at is in cc) ]

-- what is loaded has all words of a value
pub loaded_event : (size base : ℕ) (words : List ℕ) (program : AtomicProgram size) (seen : ℕ) (list : List ℕ) → AtomicsKnow size base words program → atomic_event program seen ≡ Some (event.Loaded list) → length list ≡ size
loaded_event size base words AtRest seen list knows is = absurd (cc)
loaded_event size base words (LoadsToStore value) seen list knows is = absurd (cc)
loaded_event size base words (StoresWord value version index) seen list knows is = absurd (cc)
loaded_event size base words (Raises value version) seen list knows is = absurd (cc)
loaded_event size base words LoadsToLoad seen list knows is = absurd (cc)
loaded_event size base words (LoadsWord version value index) seen list knows is = absurd (cc)
loaded_event size base words (LoadsAgain version value) seen list knows is = elim (cases_Bool (eqb seen version)) [
  | inl stands ↦ (let same : value ≡ list = (let now = rw stands at is in cc) in ap length (sym same) ∙ knows.whole)
  | inr moved ↦ absurd (let no = rw moved at is in cc)
]

-- a list of words of a type is the words of the value that it gives
pub given : {A : Type 0} {P : Type 0} {Q : A → Type 0} (option : Option A) → MatchOption option (P → ⊥) Q → P → (value : A) × ((option ≡ Some value) × Q value)
given None none p = absurd (none p)
given (Some value) q p = (value, (refl, q))
