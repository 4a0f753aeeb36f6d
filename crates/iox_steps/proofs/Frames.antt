-- A queue's parties stay within its words, and no word but these counts.
use Rattle.std.proofs.Common.{◌≡◌, ℕ, ◌+◌, ◌^◌, ◌<◌, ◌≤◌, ◌⊎◌, List, [], length, get_or, refl, ◌∙◌, inl, inr, arith}
use Rattle.iox_steps.specs.declared.access.Access.{Access}
use Rattle.iox_steps.specs.declared.site.QueueKind.{QueueKind}
use Rattle.iox_steps.specs.declared.site.QueueKind.TheVariants.{Index, Overflowing}
use Rattle.iox_steps.specs.declared.site.Site.{Site}
use Rattle.iox_steps.specs.declared.push.Push.TheVariants as push
use Rattle.iox_steps.specs.declared.push.FullLook.TheVariants as full_look
use Rattle.iox_steps.specs.declared.pop.Pop.TheVariants as pop
use Rattle.iox_steps.specs.declared.pop.EmptyLook.TheVariants as empty_look
use Rattle.iox_steps.specs.declared.side.Pushing.{Pushing}
use Rattle.iox_steps.specs.declared.side.Pushing.TheVariants as pushing
use Rattle.iox_steps.specs.declared.side.Popping.{Popping}
use Rattle.iox_steps.specs.declared.side.Popping.TheVariants as popping
use Rattle.iox_steps.specs.Accesses.{word_after, words_after, IsPlace, IsWithin, ChangesWord, AreApart}
use Rattle.iox_steps.specs.Sites.{cells, size}
use Rattle.iox_steps.specs.Pops.{take_access}
use Rattle.iox_steps.specs.Sides.{pushing_access, popping_access}
use Rattle.iox_steps.specs.Fits.{write_of, read_of, PushingKnows, PoppingKnows, Fits}
use Rattle.iox_steps.proofs.Places.{cell_place}
use Rattle.iox_steps.proofs.Rings.{ring_frame}
use Rattle.iox_steps.proofs.Knowledge.{free_cell, pushing_knows_less, popping_knows_more}
use Rattle.iox_steps.proofs.AccessLemmas.{outside, outside_in_list}

-- the access of the party that pushes is within the queue's words
pub pushing_within : (site : Site) (word : ℕ → ℕ) (waiting hand : List ℕ) (pushes : Pushing) → PushingKnows site word waiting hand pushes
    → IsWithin site.base (size site) (pushing_access site pushes)
pushing_within site word waiting hand pushing.AtRest knows = tt
pushing_within site word waiting hand (pushing.Pushes (push.LoadsWrite value)) knows = (omega arith, omega arith)
pushing_within site word waiting hand (pushing.Pushes (push.LoadsRead value write)) knows = (omega arith, omega arith)
pushing_within site word waiting hand (pushing.Pushes (push.StoresCell value cell next full)) knows =
    let free = free_cell site word waiting full knows.0.1 knows.2 in
    let place = cell_place site (write_of site word) (omega arith) in
    let at = knows.3 in
    (omega (arith, place.0), omega (arith, place.1))
pushing_within site word waiting hand (pushing.Pushes (push.StoresWrite value next full)) knows = (omega arith, omega arith)
pushing_within site word waiting hand (pushing.Pushes (push.Evicts read)) knows = (omega arith, omega arith)
pushing_within site word waiting hand (pushing.Pushes (push.TakesOld cell)) knows = (omega (arith, knows.3.0), omega (arith, knows.3.1))
pushing_within site word waiting hand (pushing.Looks full_look.LoadsWrite) knows = (omega arith, omega arith)
pushing_within site word waiting hand (pushing.Looks (full_look.LoadsRead write)) knows = (omega arith, omega arith)

take_within : (site : Site) (kind : QueueKind) (read : ℕ) → IsWithin site.base (size site) (take_access kind (site.base + 1) read)
take_within site Index read = (omega arith, omega arith)
take_within site Overflowing read = (omega arith, omega arith)

-- and so is that of the party that pops
pub popping_within : (site : Site) (word : ℕ → ℕ) (waiting : List ℕ) (pops : Popping) → length waiting ≤ cells site
    → PoppingKnows site word waiting pops → IsWithin site.base (size site) (popping_access site pops)
popping_within site word waiting popping.AtRest bounded knows = tt
popping_within site word waiting (popping.Pops pop.LoadsRead) bounded knows = (omega arith, omega arith)
popping_within site word waiting (popping.Pops (pop.LoadsWrite read)) bounded knows = (omega arith, omega arith)
popping_within site word waiting (popping.Pops (pop.LoadsCell read cell)) bounded knows =
    let some = knows.1 in
    let at = knows.2 in
    let place = cell_place site read (omega arith) in
    (omega (arith, place.0), omega (arith, place.1))
popping_within site word waiting (popping.Pops (pop.Takes read value)) bounded knows = take_within site site.kind read
popping_within site word waiting (popping.Looks empty_look.LoadsRead) bounded knows = (omega arith, omega arith)
popping_within site word waiting (popping.Looks (empty_look.LoadsWrite read)) bounded knows = (omega arith, omega arith)

-- only the words of the queue count
pub fits_frame : (site : Site) (word word' : ℕ → ℕ) (waiting hand : List ℕ) (pushes : Pushing) (pops : Popping)
    → ((at : ℕ) → IsPlace site.base (size site) at → word' at ≡ word at) → Fits site word waiting hand pushes pops → Fits site word' waiting hand pushes pops
fits_frame site word word' waiting hand pushes pops same fits =
    let write_same = same site.base (omega arith, omega arith) in
    let read_same = same (site.base + 1) (omega arith, omega arith) in
    record {
      some = fits.some;
      position = rw write_same fits.position;
      ring = ring_frame site word word' waiting same fits.ring;
      push =
          pushing_knows_less site word word' waiting waiting hand write_same (omega arith) (omega arith)
          (λ at place. same at (omega (arith, place.0), omega (arith, place.1))) pushes fits.push;
      pop = popping_knows_more site word word' waiting waiting read_same (omega arith) (λ _. refl) pops fits.pop;
    }

-- two stretches are apart whichever is named first
pub apart_sym : (base size base' size' : ℕ) → AreApart base size base' size' → AreApart base' size' base size
apart_sym base size base' size' (inl before) = inr before
apart_sym base size base' size' (inr behind) = inl behind

-- a place of the one is outside the other
apart_outside : (base size base' size' at : ℕ) → AreApart base size base' size' → IsPlace base size at
    → (at < base') ⊎ (base' + size' ≤ at)
apart_outside base size base' size' at (inl before) place = inl (omega (arith, place.1))
apart_outside base size base' size' at (inr behind) place = inr (omega (arith, place.0))

-- what changes no word but in a stretch elsewhere leaves a queue as it is
pub fits_apart : (site : Site) (word word' : ℕ → ℕ) (waiting hand : List ℕ) (pushes : Pushing) (pops : Popping) (base' size' : ℕ)
    → ((at : ℕ) → (at < base') ⊎ (base' + size' ≤ at) → word' at ≡ word at)
    → AreApart site.base (size site) base' size'
    → Fits site word waiting hand pushes pops → Fits site word' waiting hand pushes pops
fits_apart site word word' waiting hand pushes pops base' size' same apart fits =
    fits_frame site word word' waiting hand pushes pops
    (λ at place. same at (apart_outside site.base (size site) base' size' at apart place)) fits

-- an access elsewhere, of words by their places
pub fits_elsewhere : (site : Site) (word : ℕ → ℕ) (waiting hand : List ℕ) (pushes : Pushing) (pops : Popping)
    (access : Access) (base' size' : ℕ)
    → IsWithin base' size' access → AreApart site.base (size site) base' size'
    → Fits site word waiting hand pushes pops → Fits site (word_after access word) waiting hand pushes pops
fits_elsewhere site word waiting hand pushes pops access base' size' within apart fits =
    fits_apart site word (word_after access word) waiting hand pushes pops base' size'
    (λ at out. outside access word base' size' at within out) apart fits

-- of a list of words
pub fits_elsewhere_in_list : (site : Site) (words waiting hand : List ℕ) (pushes : Pushing) (pops : Popping)
    (access : Access) (base' size' : ℕ)
    → IsWithin base' size' access → AreApart site.base (size site) base' size'
    → Fits site (λ place. get_or words place 0) waiting hand pushes pops
    → Fits site (λ place. get_or (words_after access words) place 0) waiting hand pushes pops
fits_elsewhere_in_list site words waiting hand pushes pops access base' size' within apart fits =
    fits_apart site (λ place. get_or words place 0) (λ place. get_or (words_after access words) place 0)
    waiting hand pushes pops base' size' (λ at out. outside_in_list access words base' size' at within out) apart fits

-- of words that are told one change at a time, as those of a table are
pub fits_elsewhere_changed : (site : Site) (word word' : ℕ → ℕ) (waiting hand : List ℕ) (pushes : Pushing) (pops : Popping)
    (place new base' size' : ℕ) → ChangesWord word place new word' → IsPlace base' size' place
    → AreApart site.base (size site) base' size'
    → Fits site word waiting hand pushes pops → Fits site word' waiting hand pushes pops
fits_elsewhere_changed site word word' waiting hand pushes pops place new base' size' changes within apart fits =
    fits_apart site word word' waiting hand pushes pops base' size'
    (λ at out. changes.1 at (elim out [ inl below ↦ omega (arith, within.0) | inr above ↦ omega (arith, within.1) ])) apart fits

-- an empty queue, at whatever position, with both parties at rest
pub fits_empty : (site : Site) (word : ℕ → ℕ) → (site.kind ≡ Overflowing → 0 < site.capacity) → write_of site word ≡ read_of site word
    → write_of site word < 2 ^ 64 → Fits site word [] [] pushing.AtRest popping.AtRest
fits_empty site word some empty position = record {
  some = some;
  position = position;
  ring = record { counts = empty ∙ omega arith; bounded = omega arith; items = λ k below. absurd (omega arith) };
  push = (refl, omega arith);
  pop = tt;
}
