-- The laws of the accesses over words that are told one change at a time, as those of a table are, part by part, and what
-- holds of an access whatever it finds.
use Rattle.std.proofs.Common.{ℕ, ◌+◌, ◌<◌, ◌≤◌, List, arith, inl, inr, eqb, Some, None}
use Rattle.std.proofs.lemmas.Bool.{cases_Bool}
use Rattle.iox_steps.specs.declared.site.QueueKind.{QueueKind}
use Rattle.iox_steps.specs.declared.site.QueueKind.TheVariants.{Index, Overflowing}
use Rattle.iox_steps.specs.declared.site.Site.{Site}
use Rattle.iox_steps.specs.declared.push.Push.TheVariants as push
use Rattle.iox_steps.specs.declared.push.FullLook.TheVariants as full_look
use Rattle.iox_steps.specs.declared.pop.Pop.TheVariants as pop
use Rattle.iox_steps.specs.declared.pop.EmptyLook.TheVariants as empty_look
use Rattle.iox_steps.specs.declared.side.Pushing.{Pushing}
use Rattle.iox_steps.specs.declared.side.Pushing.TheVariants as pushing
use Rattle.iox_steps.specs.declared.side.Popping.{Popping}
use Rattle.iox_steps.specs.declared.side.Popping.TheVariants as popping
use Rattle.iox_steps.specs.Accesses.{place_of, change_of, seen_by, IsWithin, ChangesWord}
use Rattle.iox_steps.specs.Sites.{cells, size, cell_at, last_position, is_full, is_empty}
use Rattle.iox_steps.specs.Pushes.{is_refused}
use Rattle.iox_steps.specs.Pops.{take_access, is_taken}
use Rattle.iox_steps.specs.Sides.{pushing_access, pushing_after, pushing_event, popping_access, popping_after, popping_event}
use Rattle.iox_steps.specs.Events.{IsTrueOf, waiting_after, hand_after}
use Rattle.iox_steps.specs.Fits.{write_of, Fits}
use Rattle.iox_steps.proofs.Places.{cell_place}
use Rattle.iox_steps.proofs.Turns.{pushing_keeps_changed, popping_keeps_changed}

module _ (site : Site) (word word' : ℕ → ℕ) (waiting hand : List ℕ) (pushes : Pushing) (pops : Popping)
    (fits : Fits site word waiting hand pushes pops) where
  pub pushing_changes : let access = pushing_access site pushes in let seen = seen_by access word in let event = pushing_event site pushes seen in
      ChangesWord word (place_of access) (change_of access (word (place_of access))) word'
      → IsTrueOf site (write_of site word) waiting hand event
      × Fits site word' (waiting_after event waiting) (hand_after event waiting hand) (pushing_after site pushes seen) pops
  pushing_changes changes =
      let keeps = pushing_keeps_changed site word waiting hand pushes pops fits word' changes in (keeps.is_true, keeps.fits)

  pub popping_changes : let access = popping_access site pops in let seen = seen_by access word in let event = popping_event site pops seen in
      ChangesWord word (place_of access) (change_of access (word (place_of access))) word'
      → IsTrueOf site (write_of site word) waiting hand event
      × Fits site word' (waiting_after event waiting) (hand_after event waiting hand) pushes (popping_after site pops seen)
  popping_changes changes =
      let keeps = popping_keeps_changed site word waiting hand pushes pops fits word' changes in (keeps.is_true, keeps.fits)

module _ (site : Site) (some : 0 < cells site) where
  -- a cell's load or store is within the queue's words
  cell_inside : (position : ℕ) → (site.base ≤ cell_at site position) × (cell_at site position < site.base + size site)
  cell_inside position = let place = cell_place site position some in (omega (arith, place.0), omega (arith, place.1))

  -- whatever an access finds, the next one is within the queue's words too
  pub pushing_stays : (pushes : Pushing) (seen : ℕ) → IsWithin site.base (size site) (pushing_access site pushes) → IsWithin site.base (size site)
      (pushing_access site (pushing_after site pushes seen))
  pushing_stays pushing.AtRest seen within = tt
  pushing_stays (pushing.Pushes (push.LoadsWrite value)) seen within = (omega arith, omega arith)
  pushing_stays (pushing.Pushes (push.LoadsRead value write)) seen within =
      elim (cases_Bool (is_refused site.kind (eqb write last_position) (is_full site seen write))) [
        | inl refused ↦ rw refused tt
        | inr goes ↦ rw goes (cell_inside write)
      ]
  pushing_stays (pushing.Pushes (push.StoresCell value cell next full)) seen within = (omega arith, omega arith)
  pushing_stays (pushing.Pushes (push.StoresWrite value next None)) seen within = tt
  pushing_stays (pushing.Pushes (push.StoresWrite value next (Some read))) seen within = (omega arith, omega arith)
  pushing_stays (pushing.Pushes (push.Evicts read)) seen within = elim (cases_Bool (eqb seen read)) [
    | inl hit ↦ rw hit (cell_inside read)
    | inr missed ↦ rw missed tt
  ]
  pushing_stays (pushing.Pushes (push.TakesOld cell)) seen within = tt
  pushing_stays (pushing.Looks full_look.LoadsWrite) seen within = (omega arith, omega arith)
  pushing_stays (pushing.Looks (full_look.LoadsRead write)) seen within = tt

  take_inside : (kind : QueueKind) (read : ℕ) → IsWithin site.base (size site) (take_access kind (site.base + 1) read)
  take_inside Index read = (omega arith, omega arith)
  take_inside Overflowing read = (omega arith, omega arith)

  pub popping_stays : (pops : Popping) (seen : ℕ) → IsWithin site.base (size site) (popping_access site pops) → IsWithin site.base (size site)
      (popping_access site (popping_after site pops seen))
  popping_stays popping.AtRest seen within = tt
  popping_stays (popping.Pops pop.LoadsRead) seen within = (omega arith, omega arith)
  popping_stays (popping.Pops (pop.LoadsWrite read)) seen within = elim (cases_Bool (is_empty site read seen)) [
    | inl none ↦ rw none tt
    | inr more ↦ rw more (cell_inside read)
  ]
  popping_stays (popping.Pops (pop.LoadsCell read cell)) seen within = take_inside site.kind read
  popping_stays (popping.Pops (pop.Takes read value)) seen within = elim (cases_Bool (is_taken site.kind read seen)) [
    | inl taken ↦ rw taken tt
    | inr missed ↦ rw missed (cell_inside seen)
  ]
  popping_stays (popping.Looks empty_look.LoadsRead) seen within = (omega arith, omega arith)
  popping_stays (popping.Looks (empty_look.LoadsWrite read)) seen within = tt
