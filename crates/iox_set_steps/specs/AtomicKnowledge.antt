-- Each access of a party at a value names a word that exists, and what the other parties found
-- still holds after it.
use Rattle.std.specs.Prelude.{List}
use Rattle.std.proofs.Common.{◌≡◌, ℕ, ◌+◌, ◌^◌, ◌<◌, ◌≤◌, false, length, sym, ◌∙◌, arith}
use Rattle.iox_steps.specs.Accesses.{IsWithin}
use Rattle.iox_set_steps.specs.declared.unrestricted_atomic.AtomicProgram.{AtomicProgram}
use Rattle.iox_set_steps.specs.declared.unrestricted_atomic.AtomicProgram.TheVariants.{AtRest, LoadsToStore, StoresWord, Raises, LoadsToLoad, LoadsWord}
use Rattle.iox_set_steps.specs.declared.unrestricted_atomic.AtomicProgram.TheVariants.{LoadsAgain}
use Rattle.iox_set_steps.specs.Values.{version_now, value_now, AgreeUpTo}
use Rattle.iox_set_steps.specs.AtomicPrograms.{version_behind, atomic_access}
use Rattle.iox_set_steps.specs.AtomicPlays.{IsLoading, AtomicsKnow, is_storing}
use Rattle.iox_set_steps.specs.AtomicLemmas.{two_cells}

-- the version does not decrease, and while it is unchanged so is the value
pub record Advances (size base : ℕ) (words words' : List ℕ) : Type 0 where
  pub onward : version_now base words ≤ version_now base words'
  pub stays : version_now base words' ≡ version_now base words → AgreeUpTo size (value_now size base words') (value_now size base words)

module _ (size base : ℕ) (words : List ℕ) (room : base + 1 + size + size ≤ length words) (memory : length words < 2 ^ 64)
    (small : version_now base words < 2 ^ 64) where
  -- each access names a word that exists
  pub atomic_access_within : (program : AtomicProgram size) → AtomicsKnow size base words program → IsWithin 0 (length words) (atomic_access size base program)
  atomic_access_within AtRest knows = tt
  atomic_access_within (LoadsToStore list) knows = (omega arith, omega arith)
  atomic_access_within (StoresWord list version index) knows =
      let cells = two_cells size (version_behind version) in let cell = cells.inside.0 in let below = knows.0 in (omega arith, omega arith)
  atomic_access_within (Raises list version) knows = (omega arith, omega arith)
  atomic_access_within LoadsToLoad knows = (omega arith, omega arith)
  atomic_access_within (LoadsWord version list index) knows =
      let cells = two_cells size version in let cell = cells.inside.0 in let below = knows.0 in (omega arith, omega arith)
  atomic_access_within (LoadsAgain version list) knows = (omega arith, omega arith)

-- what a load found still holds after what the other parties do
loading_survives : (size base : ℕ) (words words' : List ℕ) → Advances size base words words' → (version : ℕ) (list : List ℕ) (count : ℕ) → count ≤ size
    → IsLoading size base words version list count → IsLoading size base words' version list count
loading_survives size base words words' follows version list count most loading =
    let passed = loading.passed in
    let onward = follows.onward in
    record {
      whole = loading.whole;
      passed = omega arith;
      loaded = λ stands at inside. loading.loaded (omega arith) at inside ∙ sym (follows.stays (omega arith) at (omega arith));
    }

-- what holds of a party that is in no store still holds after what the others do
pub survives : (size base : ℕ) (words words' : List ℕ) → Advances size base words words' → (program : AtomicProgram size) → is_storing program ≡ false
    → AtomicsKnow size base words program → AtomicsKnow size base words' program
survives size base words words' follows AtRest other knows = tt
survives size base words words' follows (LoadsToStore list) other knows = tt
survives size base words words' follows (StoresWord list version index) other knows = absurd (cc)
survives size base words words' follows (Raises list version) other knows = absurd (cc)
survives size base words words' follows LoadsToLoad other knows = tt
survives size base words words' follows (LoadsWord version list index) other knows =
    (knows.0, loading_survives size base words words' follows version list index (omega arith) knows.1)
survives size base words words' follows (LoadsAgain version list) other knows =
    loading_survives size base words words' follows version list size (omega arith) knows
