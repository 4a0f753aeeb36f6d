-- The laws of the accesses over a list of words, part by part, for those who ask for no more.
use Rattle.std.proofs.Common.{◌≡◌, ℕ, ◌+◌, ◌≤◌, List, length, get_or}
use Rattle.iox_steps.specs.declared.access.Access.{Access}
use Rattle.iox_steps.specs.declared.site.Site.{Site}
use Rattle.iox_steps.specs.declared.side.QueueEvent.{QueueEvent}
use Rattle.iox_steps.specs.declared.side.Pushing.{Pushing}
use Rattle.iox_steps.specs.declared.side.Popping.{Popping}
use Rattle.iox_steps.specs.Accesses.{seen_by, words_after, IsWithin}
use Rattle.iox_steps.specs.Sites.{size}
use Rattle.iox_steps.specs.Sides.{pushing_access, pushing_after, pushing_event, popping_access, popping_after, popping_event}
use Rattle.iox_steps.specs.Events.{IsTrueOf, waiting_after, hand_after}
use Rattle.iox_steps.specs.Fits.{Fits}
use Rattle.iox_steps.specs.EventLists.{write_after}
use Rattle.iox_steps.proofs.Turns.{pushing_keeps_in_list, popping_keeps_in_list}

-- the event is true and counted, and the words after it fit
abbrev pub StepsInList : Site → List ℕ → List ℕ → List ℕ → Access → QueueEvent → Pushing → Popping → Type 0
StepsInList site words waiting hand access event pushes' pops' =
    IsTrueOf site (get_or words site.base 0) waiting hand event
    × (get_or (words_after access words) site.base 0 ≡ write_after event (get_or words site.base 0))
    × Fits site (λ place. get_or (words_after access words) place 0) (waiting_after event waiting) (hand_after event waiting hand) pushes' pops'

module _ (site : Site) (words waiting hand : List ℕ) (pushes : Pushing) (pops : Popping) (room : site.base + size site ≤ length words)
    (fits : Fits site (λ place. get_or words place 0) waiting hand pushes pops) where
  pub pushing_within_list : IsWithin 0 (length words) (pushing_access site pushes)
  pushing_within_list = (pushing_keeps_in_list site words waiting hand pushes pops room fits).0

  pub popping_within_list : IsWithin 0 (length words) (popping_access site pops)
  popping_within_list = (popping_keeps_in_list site words waiting hand pushes pops room fits).0

  pub pushing_step_in_list : let access = pushing_access site pushes in let seen = seen_by access (λ place. get_or words place 0) in
      StepsInList site words waiting hand access (pushing_event site pushes seen) (pushing_after site pushes seen) pops
  pushing_step_in_list =
      let keeps = (pushing_keeps_in_list site words waiting hand pushes pops room fits).2 in
      (keeps.is_true, keeps.counts, keeps.fits)

  pub popping_step_in_list : let access = popping_access site pops in let seen = seen_by access (λ place. get_or words place 0) in
      StepsInList site words waiting hand access (popping_event site pops seen) pushes (popping_after site pops seen)
  popping_step_in_list =
      let keeps = (popping_keeps_in_list site words waiting hand pushes pops room fits).2 in
      (keeps.is_true, keeps.counts, keeps.fits)
