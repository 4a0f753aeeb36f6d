-- One access of a party at a value leads to the next value, and its party's next program is sound.
use Rattle.std.specs.Prelude.{List, None}
use Rattle.std.proofs.Common.{◌≡◌, ◌≢◌, ℕ, ◌+◌, ◌^◌, ◌<◌, ◌≤◌, length, get_or, set, replicate, refl, sym, ap, ◌∙◌, inl}
use Rattle.std.proofs.Common.{inr, arith, length-set, get_or-set_same, get_or-set_other}
use Rattle.std.proofs.lemmas.List.{length-replicate}
use Rattle.std.proofs.lemmas.Bool.{cases_eq, eq-eqb, ne_eqb}
use Rattle.iox_steps.specs.Accesses.{seen_by, words_after}
use Rattle.iox_set_steps.specs.declared.unrestricted_atomic.AtomicProgram.{AtomicProgram}
use Rattle.iox_set_steps.specs.declared.unrestricted_atomic.AtomicProgram.TheVariants.{AtRest, LoadsToStore, StoresWord, Raises, LoadsToLoad, LoadsWord}
use Rattle.iox_set_steps.specs.declared.unrestricted_atomic.AtomicProgram.TheVariants.{LoadsAgain}
use Rattle.iox_set_steps.specs.Values.{cell_of, version_now, word_of, value_now, AgreeUpTo, words_of, LeadsOn}
use Rattle.iox_set_steps.specs.AtomicPrograms.{last_version, version_behind, index_behind, stores_from, atomic_access, atomic_next, atomic_event, program_of}
use Rattle.iox_set_steps.specs.AtomicPlays.{IsStoring, IsLoading, AtomicsKnow}
use Rattle.iox_set_steps.specs.AtomicKnowledge.{Advances}
use Rattle.iox_set_steps.specs.AtomicLemmas.{word_place_is, other_cell_stays, written_more, loaded_more, stores_from_knows, loads_from_knows}

-- what an access makes of the words and of the party
pub record Makes (size base : ℕ) (words : List ℕ) (program : AtomicProgram size) (words' : List ℕ) (seen : ℕ) : Type 0 where
  pub leads : LeadsOn size (value_now size base words) (atomic_event program seen) (value_now size base words')
  pub follows : Advances size base words words'
  pub knows : AtomicsKnow size base words' (program_of (atomic_next size program seen))
  pub version : version_now base words' < 2 ^ 64

module _ (size base : ℕ) (words : List ℕ) (room : base + 1 + size + size ≤ length words) (memory : length words < 2 ^ 64)
    (small : version_now base words < 2 ^ 64) where
  -- words that do not change follow themselves
  unchanged : Advances size base words words
  unchanged = record { onward = omega arith; stays = λ stands at inside. refl }

  -- what an access makes that does nothing to the value
  quiet : (program : AtomicProgram size) (seen : ℕ) → atomic_event program seen ≡ None
      → AtomicsKnow size base words (program_of (atomic_next size program seen)) → Makes size base words program words seen
  quiet program seen none knows = record { leads = rw (none) (λ at inside. refl); follows = unchanged; knows = knows; version = small }

  -- what holds of a store of which no word is stored yet
  stores_first : (list : List ℕ) → version_now base words ≢ last_version
      → AtomicsKnow size base words (stores_from size list (version_now base words) 0)
  stores_first list more = stores_from_knows size base words list (version_now base words) 0 (omega arith)
      (record { current = refl; behind = omega (arith, more, small); written = λ at inside. absurd (omega arith) })

  -- what holds of a store once it loaded the version
  loads_to_store : (list : List ℕ) → AtomicsKnow size base words (program_of (atomic_next size (LoadsToStore list) (version_now base words)))
  loads_to_store list = elim (cases_eq (version_now base words) last_version) [
    | inl last ↦ rw (eq-eqb _ _ last) tt
    | inr more ↦ rw (ne_eqb _ _ more) (stores_first list more)
  ]

  -- what holds of a load of which no word is loaded yet
  loads_first : (list : List ℕ) → length list ≡ size → IsLoading size base words (version_now base words) list 0
  loads_first list whole = record { whole = whole; passed = omega arith; loaded = λ stands at inside. absurd (omega arith) }

  -- the store of a word of the next value
  stores_word : (list : List ℕ) (version index : ℕ) → index < size → IsStoring size base words list version index
      → Makes size base words (StoresWord list version index) (set words (base + 1 + cell_of size (version + 1) + index) (words_of list index))
      (get_or words (base + 1 + cell_of size (version + 1) + index) 0)
  stores_word list version index below storing =
      let place = base + 1 + cell_of size (version + 1) + index in let words' = set words place (words_of list index) in
      let current = storing.current in
      let same : version_now base words' ≡ version_now base words = get_or-set_other words place base (words_of list index) 0 (omega arith) in
      let stays : AgreeUpTo size (value_now size base words') (value_now size base words) =
      (λ at inside. ap (λ v. word_of size base words' v at) same ∙ rw (← current)
      (other_cell_stays size base words version index (words_of list index) at below inside)) in
      let next : index_behind index ≡ index + 1 = omega arith in
      record {
        leads = stays;
        follows = record { onward = omega arith; stays = λ stands. stays };
        knows = rw (next) (stores_from_knows size base words' list version (index + 1) (omega arith) (record {
          current = current ∙ sym same;
          behind = storing.behind;
          written = written_more size base words list version index below room storing.written;
        }));
        version = omega arith;
      }

  -- the store of the next version, from which on the new value is current
  raises : (list : List ℕ) (version : ℕ) → IsStoring size base words list version size
      → Makes size base words (Raises list version) (set words base (version + 1)) (version_now base words)
  raises list version storing =
      let words' = set words base (version + 1) in
      let current = storing.current in let behind = storing.behind in
      let raised : version_now base words' ≡ version + 1 = get_or-set_same words base (version + 1) 0 (omega arith) in
      record {
        leads = λ at inside. ap (λ v. word_of size base words' v at) raised
            ∙ get_or-set_other words base (base + 1 + cell_of size (version + 1) + at) (version + 1) 0 (omega arith) ∙ storing.written at inside;
        follows = record { onward = omega arith; stays = λ stands. absurd (omega arith) };
        knows = tt;
        version = omega arith;
      }

  -- the load of a word of the current value
  loads_word : (version : ℕ) (list : List ℕ) (index : ℕ) → index < size → IsLoading size base words version list index
      → AtomicsKnow size base words (program_of (atomic_next size (LoadsWord version list index) (get_or words (base + 1 + cell_of size version + index) 0)))
  loads_word version list index below loading =
      let word = get_or words (base + 1 + cell_of size version + index) 0 in
      let whole = loading.whole in let next : index_behind index ≡ index + 1 = omega arith in
      rw (next) (loads_from_knows size base words version (set list index word) (index + 1) (omega arith) (record {
        whole = length-set list index word ∙ whole;
        passed = loading.passed;
        loaded = λ stands. loaded_more list index word (value_now size base words) (omega arith) (ap (λ v. word_of size base words v index) stands)
            (loading.loaded stands);
      }))

  -- the second load of the version, by which a load ends or begins anew
  loads_again : (version : ℕ) (list : List ℕ) → IsLoading size base words version list size
      → Makes size base words (LoadsAgain version list) words (version_now base words)
  loads_again version list loading = elim (cases_eq (version_now base words) version) [
    | inl stands ↦ record {
      leads = rw (eq-eqb _ _ stands) (loading.loaded (sym stands), λ at inside. refl);
      follows = unchanged;
      knows = rw (eq-eqb _ _ stands) tt;
      version = small;
    }
    | inr moved ↦ quiet (LoadsAgain version list) (version_now base words) (rw (ne_eqb _ _ moved) refl)
        (rw (ne_eqb _ _ moved) (loads_from_knows size base words (version_now base words) list 0 (omega arith) (loads_first list loading.whole)))
  ]

  -- what each access of a party makes of the words and of the party
  pub atomic_makes : (program : AtomicProgram size) → AtomicsKnow size base words program
      → let access = atomic_access size base program in Makes size base words program (words_after access words)
      (seen_by access (λ place. get_or words place 0))
  atomic_makes AtRest knows = quiet AtRest 0 refl tt
  atomic_makes (LoadsToStore list) knows = quiet (LoadsToStore list) (version_now base words) refl (loads_to_store list)
  atomic_makes (StoresWord list version index) knows =
      let storing = knows.1 in let below = storing.behind in
      let next : version_behind version ≡ version + 1 = omega arith in
      rw (next, word_place_is size base (version + 1) index knows.0 (omega arith)) (stores_word list version index knows.0 storing)
  atomic_makes (Raises list version) knows =
      let below = knows.behind in let next : version_behind version ≡ version + 1 = omega arith in
      rw (next) (raises list version knows)
  atomic_makes LoadsToLoad knows = quiet LoadsToLoad (version_now base words) refl
      (loads_from_knows size base words (version_now base words) (replicate size 0) 0 (omega arith) (loads_first (replicate size 0) (length-replicate size 0)))
  atomic_makes (LoadsWord version list index) knows = rw (word_place_is size base version index knows.0 (omega arith))
      (quiet (LoadsWord version list index) _ refl (loads_word version list index knows.0 knows.1))
  atomic_makes (LoadsAgain version list) knows = loads_again version list knows
