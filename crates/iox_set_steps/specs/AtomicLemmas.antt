-- What one access does to a value: the two cells have no word in common, and an unchanged version
-- keeps its words.
use Rattle.std.specs.Prelude.{List, [], ◌∷◌, Option, Some, None}
use Rattle.std.specs.Option.{option_to_list}
use Rattle.std.proofs.Common.{◌≡◌, ℕ, ◌+◌, ◌%◌, ◌^◌, ◌<◌, ◌≤◌, ◌⊎◌, ◌++◌, length, set, refl, ◌∙◌, inl, inr, arith, get_or-set_same, get_or-set_other}
use Rattle.std.proofs.lemmas.Bool.{cases_eq, cases_lt, lt-ltb, le-ltb, eq-eqb, ne_eqb}
use Rattle.iox_set_steps.specs.declared.unrestricted_atomic.AtomicEvent.{AtomicEvent}
use Rattle.iox_set_steps.specs.declared.unrestricted_atomic.AtomicEvent.TheVariants.{Stored, Loaded}
use Rattle.iox_set_steps.specs.Values.{cell_of, word_of, AgreeUpTo, words_of, ValueRun, LeadsOn}
use Rattle.iox_set_steps.specs.AtomicPrograms.{word_place, stores_from, loads_from}
use Rattle.iox_set_steps.specs.AtomicPlays.{IsStoring, IsLoading, AtomicsKnow}

-- the cells of a version and of the next one are two, and begin at 0 and at `size`
pub record AreTwoCells (size here there : ℕ) : Type 0 where
  pub inside : (here ≤ size) × (there ≤ size)
  pub apart : ((here ≡ 0) × (there ≡ size)) ⊎ ((here ≡ size) × (there ≡ 0))

-- the cells of a version and of the next one are two
pub two_cells : (size version : ℕ) → AreTwoCells size (cell_of size version) (cell_of size (version + 1))
two_cells size version = elim (cases_eq (version % 2) 0) [
  | inl even ↦ rw (eq-eqb (version % 2) 0 even, ne_eqb ((version + 1) % 2) 0 (omega arith))
      (record { inside = (omega arith, omega arith); apart = inl (refl, refl) })
  | inr odd ↦ rw (ne_eqb (version % 2) 0 odd, eq-eqb ((version + 1) % 2) 0 (omega arith))
      (record { inside = (omega arith, omega arith); apart = inr (refl, refl) })
]

-- the place of a word of a value
pub word_place_is : (size base version index : ℕ) → index < size → base + 1 + size + size < 2 ^ 64
    → word_place size base version index ≡ base + 1 + cell_of size version + index
word_place_is size base version index below memory = let cells = two_cells size version in let cell = cells.inside.0 in omega arith

-- a store in the other cell leaves the value of the current version unchanged
pub other_cell_stays : (size base : ℕ) (words : List ℕ) (version index value at : ℕ) → index < size → at < size
    → word_of size base (set words (base + 1 + cell_of size (version + 1) + index) value) version at ≡ word_of size base words version at
other_cell_stays size base words version index value at below inside =
    let cells = two_cells size version in
    get_or-set_other words (base + 1 + cell_of size (version + 1) + index) (base + 1 + cell_of size version + at) value 0
    (elim cells.apart [ inl low ↦ (let a = low.0 in let b = low.1 in omega arith) | inr high ↦ (let a = high.0 in let b = high.1 in omega arith) ])

-- more words were written
pub written_more : (size base : ℕ) (words list : List ℕ) (version index : ℕ) → index < size → base + 1 + size + size ≤ length words
    → AgreeUpTo index (word_of size base words (version + 1)) (words_of list)
    → AgreeUpTo (index + 1) (word_of size base (set words (base + 1 + cell_of size (version + 1) + index) (words_of list index)) (version + 1)) (words_of list)
written_more size base words list version index below room written at inside = elim (cases_eq at index) [
  | inl same ↦ (let cells = two_cells size version in let cell = cells.inside.1 in
      rw (same) (get_or-set_same words (base + 1 + cell_of size (version + 1) + index) (words_of list index) 0 (omega arith)))
  | inr apart ↦ get_or-set_other words (base + 1 + cell_of size (version + 1) + index) (base + 1 + cell_of size (version + 1) + at)
      (words_of list index) 0 (omega arith)
      ∙ written at (omega arith)
]

-- more words were loaded
pub loaded_more : (list : List ℕ) (index word : ℕ) (value : ℕ → ℕ) → index < length list → word ≡ value index
    → AgreeUpTo index (words_of list) value → AgreeUpTo (index + 1) (words_of (set list index word)) value
loaded_more list index word value below is loaded at inside = elim (cases_eq at index) [
  | inl same ↦ rw (same) (get_or-set_same list index word 0 below ∙ is)
  | inr apart ↦ get_or-set_other list index at word 0 apart ∙ loaded at (omega arith)
]

-- a list of events continues with one more event
pub run_more : (size : ℕ) (first : ℕ → ℕ) (events : List (AtomicEvent size)) (last : ℕ → ℕ) (event : Option (AtomicEvent size)) (new : ℕ → ℕ)
    → ValueRun size first events last → LeadsOn size last event new → ValueRun size first (events ++ option_to_list event) new
run_more size first [] last None new run leads = λ at inside. leads at inside ∙ run at inside
run_more size first [] last (Some (Stored list)) new run leads = leads
run_more size first [] last (Some (Loaded list)) new run leads =
    (λ at inside. leads.0 at inside ∙ run at inside, λ at inside. leads.1 at inside ∙ run at inside)
run_more size first (Stored list ∷ events) last event new run leads = run_more size (words_of list) events last event new run leads
run_more size first (Loaded list ∷ events) last event new run leads = (run.0, run_more size first events last event new run.1 leads)

module _ (size base : ℕ) (words : List ℕ) where
  -- what holds of a store where its next access begins
  pub stores_from_knows : (list : List ℕ) (version index : ℕ) → index ≤ size → IsStoring size base words list version index
      → AtomicsKnow size base words (stores_from size list version index)
  stores_from_knows list version index most storing = elim (cases_lt index size) [
    | inl below ↦ rw (lt-ltb index size below) (below, storing)
    | inr past ↦ rw (le-ltb index size past)
        (record { current = storing.current; behind = storing.behind; written = λ at inside. storing.written at (omega arith) })
  ]

  -- what holds of a load where its next access begins
  pub loads_from_knows : (version : ℕ) (list : List ℕ) (index : ℕ) → index ≤ size → IsLoading size base words version list index
      → AtomicsKnow size base words (loads_from size version list index)
  loads_from_knows version list index most loading = elim (cases_lt index size) [
    | inl below ↦ rw (lt-ltb index size below) (below, loading)
    | inr past ↦ rw (le-ltb index size past)
        (record { whole = loading.whole; passed = loading.passed; loaded = λ stands at inside. loading.loaded stands at (omega arith) })
  ]
