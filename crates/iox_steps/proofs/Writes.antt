-- The write position counts what is published.
use Rattle.std.proofs.Common.{◌≡◌, ℕ, ◌+◌, ◌≤◌, List, length, refl, ◌∙◌, arith, inl, inr, eqb, if◌then◌else◌}
use Rattle.std.proofs.lemmas.Bool.{cases_Bool}
use Rattle.iox_steps.specs.declared.site.QueueKind.{QueueKind}
use Rattle.iox_steps.specs.declared.site.QueueKind.TheVariants.{Index, Overflowing}
use Rattle.iox_steps.specs.declared.site.Site.{Site}
use Rattle.iox_steps.specs.declared.push.Push.TheVariants as push
use Rattle.iox_steps.specs.declared.push.FullLook.TheVariants as full_look
use Rattle.iox_steps.specs.declared.pop.Pop.TheVariants as pop
use Rattle.iox_steps.specs.declared.pop.EmptyLook.TheVariants as empty_look
use Rattle.iox_steps.specs.declared.side.QueueEvent.TheVariants.{Quiet, HandOut}
use Rattle.iox_steps.specs.declared.side.Pushing.{Pushing}
use Rattle.iox_steps.specs.declared.side.Pushing.TheVariants as pushing
use Rattle.iox_steps.specs.declared.side.Popping.{Popping}
use Rattle.iox_steps.specs.declared.side.Popping.TheVariants as popping
use Rattle.iox_steps.specs.Accesses.{seen_by, word_after}
use Rattle.iox_steps.specs.Sites.{last_position, is_full, is_empty}
use Rattle.iox_steps.specs.Pushes.{room_event}
use Rattle.iox_steps.specs.Pops.{take_access, is_taken}
use Rattle.iox_steps.specs.Sides.{pushing_access, pushing_event, popping_access, popping_event}
use Rattle.iox_steps.specs.Fits.{write_of, PoppingKnows, Fits}
use Rattle.iox_steps.specs.EventLists.{write_after}
use Rattle.iox_steps.specs.AfterCalls.{most_waiting}
use Rattle.iox_steps.proofs.Places.{put-same, put-other, cell_place}
use Rattle.iox_steps.proofs.Knowledge.{free_cell}

-- a look at a position publishes nothing
room_event-write : (site : Site) (read write n : ℕ) → n ≡ write_after (room_event site read write) n
room_event-write site read write n = elim (cases_Bool (is_full site read write)) [ inl full ↦ rw full refl | inr room ↦ rw room refl ]

pub pushing_writes : (site : Site) (word : ℕ → ℕ) (waiting hand : List ℕ) (pushes : Pushing) (pops : Popping) → Fits site word waiting hand pushes pops
    → let access = pushing_access site pushes in write_of site (word_after access word) ≡ write_after (pushing_event site pushes (seen_by access word))
    (write_of site word)
pushing_writes site word waiting hand pushing.AtRest pops fits = refl
pushing_writes site word waiting hand (pushing.Pushes (push.LoadsWrite value)) pops fits = refl
pushing_writes site word waiting hand (pushing.Pushes (push.LoadsRead value write)) pops fits = elim (cases_Bool (eqb write last_position)) [
  | inl last ↦ rw last refl
  | inr more ↦ rw more (room_event-write site _ write _)
]
pushing_writes site word waiting hand (pushing.Pushes (push.StoresCell value cell next full)) pops fits =
    let at = fits.push.3 in
    let free = free_cell site word waiting full fits.push.0.1 fits.push.2 in
    let place = cell_place site (write_of site word) (omega arith) in
    put-other word cell value site.base (omega (arith, place.0))
pushing_writes site word waiting hand (pushing.Pushes (push.StoresWrite value next full)) pops fits = put-same word site.base next ∙ fits.push.1.0
pushing_writes site word waiting hand (pushing.Pushes (push.Evicts read)) pops fits = elim (cases_Bool (eqb (word (site.base + 1)) read)) [
  | inl hit ↦ rw hit (put-other word (site.base + 1) _ site.base (omega arith))
  | inr missed ↦ rw missed refl
]
pushing_writes site word waiting hand (pushing.Pushes (push.TakesOld cell)) pops fits = refl
pushing_writes site word waiting hand (pushing.Looks full_look.LoadsWrite) pops fits = refl
pushing_writes site word waiting hand (pushing.Looks (full_look.LoadsRead write)) pops fits = room_event-write site _ write _

-- a pop publishes nothing
pub popping_writes : (site : Site) (word : ℕ → ℕ) (pops : Popping) (waiting : List ℕ) → PoppingKnows site word waiting pops
    → let access = popping_access site pops in write_of site (word_after access word) ≡ write_after (popping_event site pops (seen_by access word))
    (write_of site word)
popping_writes site word popping.AtRest waiting knows = refl
popping_writes site word (popping.Pops pop.LoadsRead) waiting knows = refl
popping_writes site word (popping.Pops (pop.LoadsWrite read)) waiting knows =
    elim (cases_Bool (is_empty site read (write_of site word))) [ inl none ↦ rw none refl | inr some ↦ rw some refl ]
popping_writes site word (popping.Pops (pop.LoadsCell read cell)) waiting knows = refl
popping_writes site word (popping.Pops (pop.Takes read value)) waiting knows = take_writes site.kind
  where
    take_writes : (kind : QueueKind) → write_of site (word_after (take_access kind (site.base + 1) read) word)
        ≡ write_after (if is_taken kind read (seen_by (take_access kind (site.base + 1) read) word) then HandOut value else Quiet) (write_of site word)
    take_writes Index = put-other word (site.base + 1) _ site.base (omega arith)
    take_writes Overflowing = elim (cases_Bool (eqb (word (site.base + 1)) read)) [
      | inl hit ↦ rw hit (put-other word (site.base + 1) _ site.base (omega arith))
      | inr missed ↦ rw missed refl
    ]
popping_writes site word (popping.Looks empty_look.LoadsRead) waiting knows = refl
popping_writes site word (popping.Looks (empty_look.LoadsWrite read)) waiting knows =
    elim (cases_Bool (is_empty site read (write_of site word))) [ inl none ↦ rw none refl | inr some ↦ rw some refl ]

-- how much waits at most
pub waits_at_most : (site : Site) (word : ℕ → ℕ) (waiting hand : List ℕ) (pushes : Pushing) (pops : Popping) → Fits site word waiting hand pushes pops
    → length waiting ≤ most_waiting site pushes
waits_at_most site word waiting hand pushing.AtRest pops fits = fits.push.1
waits_at_most site word waiting hand (pushing.Pushes (push.LoadsWrite value)) pops fits = fits.push.1
waits_at_most site word waiting hand (pushing.Pushes (push.LoadsRead value write)) pops fits = fits.push.0.1
waits_at_most site word waiting hand (pushing.Pushes (push.StoresCell value cell next full)) pops fits = fits.push.0.1
waits_at_most site word waiting hand (pushing.Pushes (push.StoresWrite value next full)) pops fits = fits.push.0.1
waits_at_most site word waiting hand (pushing.Pushes (push.Evicts read)) pops fits =
    let counts = fits.ring.counts in omega (arith, fits.push.2, fits.push.3)
waits_at_most site word waiting hand (pushing.Pushes (push.TakesOld cell)) pops fits = fits.push.2
waits_at_most site word waiting hand (pushing.Looks full_look.LoadsWrite) pops fits = fits.push.1
waits_at_most site word waiting hand (pushing.Looks (full_look.LoadsRead write)) pops fits = fits.push.0.1
