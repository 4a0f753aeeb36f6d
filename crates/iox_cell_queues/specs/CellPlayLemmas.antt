-- Each access and each begin keeps a queue of values as one after calls.
use Rattle.std.proofs.Common.{◌≡◌, ℕ, ◌+◌, ◌^◌, ◌<◌, ◌≤◌, ◌++◌, List, [], length, get_or, refl, sym, ◌∙◌, arith, Option}
use Rattle.std.specs.Option.{option_to_list}
use Rattle.iox_steps.specs.declared.access.Access.{Access}
use Rattle.iox_steps.specs.Accesses.{seen_by, word_after, words_after, IsWithin}
use Rattle.iox_steps.proofs.AccessLemmas.{reads_after, length-words_after, within_wider}
use Rattle.iox_cell_queues.specs.declared.site.CellSite.{CellSite}
use Rattle.iox_cell_queues.specs.declared.event.CellEvent.{CellEvent}
use Rattle.iox_cell_queues.specs.declared.side.CellPushing.{CellPushing}
use Rattle.iox_cell_queues.specs.declared.side.CellPushing.TheVariants as pushing
use Rattle.iox_cell_queues.specs.declared.side.CellPopping.{CellPopping}
use Rattle.iox_cell_queues.specs.declared.side.CellPopping.TheVariants as popping
use Rattle.iox_cell_queues.specs.Cells.{size}
use Rattle.iox_cell_queues.specs.CellSides.{pushing_access, pushing_after, pushing_event, popping_access, popping_after, popping_event}
use Rattle.iox_cell_queues.specs.CellEvents.{waiting_after, IsTrueOf}
use Rattle.iox_cell_queues.specs.CellFits.{write_of, PushingKnows, PoppingKnows, Fits}
use Rattle.iox_cell_queues.specs.CellEventLists.{CellQueueState, write_after, told}
use Rattle.iox_cell_queues.specs.CellAfterCalls.{AfterCalls}
use Rattle.iox_cell_queues.specs.CellPushSteps.{pushing_step}
use Rattle.iox_cell_queues.specs.CellPopSteps.{popping_step}
use Rattle.iox_cell_queues.specs.CellFrames.{fits_frame, fits_empty}
use Rattle.iox_cell_queues.specs.CellRunLemmas.{run_told, in_order}

module _ {A : Type 0} {width : ℕ} (words : A → List ℕ) (of_words : List ℕ → Option A) (site : CellSite) (list : List ℕ) where
  -- with one more event: what fits the words by their places fits them as a list
  played_on : (pushes pushes' : CellPushing A) (pops pops' : CellPopping width) (events : List (CellEvent A)) (access : Access) (event : CellEvent A)
      (played : AfterCalls words of_words site list pushes pops events)
      → IsWithin 0 (length list) access → write_of site (word_after access (λ at. get_or list at 0)) ≡ write_after event (get_or list site.base 0)
      → IsTrueOf site (get_or list site.base 0) played.waiting event
      → Fits words of_words site (word_after access (λ at. get_or list at 0)) (waiting_after event played.waiting) pushes' pops'
      → AfterCalls words of_words site (words_after access list) pushes' pops' (events ++ option_to_list (told event))
  played_on pushes pushes' pops pops' events access event played within writes holds fits =
      let reads = reads_after access list within in
      let state : CellQueueState A = record { write = get_or list site.base 0; waiting = played.waiting } in
      let write : write_after event (get_or list site.base 0) ≡ get_or (words_after access list) site.base 0 = sym (reads site.base ∙ writes) in
      let more = run_told site _ events state event played.run holds in
      let run = rw write at more in
      record {
        first = played.first;
        waiting = waiting_after event played.waiting;
        order = in_order site _ _ _ more;
        bounded = fits.ring.bounded;
        run = run;
        room = rw length-words_after played.room;
        fits = fits_frame words of_words site (word_after access (λ at. get_or list at 0)) (λ at. get_or (words_after access list) at 0)
            (λ at inside. reads at) _ pushes' pops' fits;
      }

  module _ (pushes : CellPushing A) (pops : CellPopping width) (events : List (CellEvent A))
      (played : AfterCalls words of_words site list pushes pops events) where
    -- the access of the pushing party names a word that exists
    pub pushing_within_list : IsWithin 0 (length list) (pushing_access words site pushes)
    pushing_within_list = let room = played.room in
        within_wider (pushing_access words site pushes) site.base (size site) 0 (length list) (omega arith) (omega arith)
        (pushing_step words of_words site (λ at. get_or list at 0) played.waiting pops pushes played.fits).0

    -- the access of the popping party names a word that exists
    pub popping_within_list : IsWithin 0 (length list) (popping_access site pops)
    popping_within_list = let room = played.room in
        within_wider (popping_access site pops) site.base (size site) 0 (length list) (omega arith) (omega arith)
        (popping_step words of_words site (λ at. get_or list at 0) played.waiting pushes pops played.fits).0

    -- an access of the pushing party keeps `AfterCalls`
    pub pushing_plays : let access = pushing_access words site pushes in let seen = seen_by access (λ at. get_or list at 0) in
        AfterCalls words of_words site (words_after access list)
        (pushing_after site pushes seen) pops (events ++ option_to_list (told (pushing_event site pushes seen)))
    pushing_plays =
        let word : ℕ → ℕ = λ at. get_or list at 0 in
        let keeps = pushing_step words of_words site word played.waiting pops pushes played.fits in
        played_on pushes _ pops pops events (pushing_access words site pushes)
        (pushing_event site pushes (seen_by (pushing_access words site pushes) word)) played pushing_within_list keeps.2 keeps.1 keeps.3

    -- an access of the popping party keeps `AfterCalls`
    pub popping_plays : let access = popping_access site pops in let seen = seen_by access (λ at. get_or list at 0) in
        AfterCalls words of_words site (words_after access list) pushes (popping_after of_words site pops seen)
        (events ++ option_to_list (told (popping_event of_words site pops seen)))
    popping_plays =
        let word : ℕ → ℕ = λ at. get_or list at 0 in
        let keeps = popping_step words of_words site word played.waiting pushes pops played.fits in
        played_on pushes pushes pops _ events (popping_access site pops)
        (popping_event of_words site pops (seen_by (popping_access site pops) word)) played popping_within_list keeps.2 keeps.1 keeps.3

  -- a begin of the pushing party keeps `AfterCalls`
  pub pushing_begun : (pushes pushes' : CellPushing A) (pops : CellPopping width) (events : List (CellEvent A))
      → AfterCalls words of_words site list pushes pops events
      → ((waiting : List A) → PushingKnows words of_words site (λ at. get_or list at 0) waiting pushes') → AfterCalls words of_words site list pushes' pops events
  pushing_begun pushes pushes' pops events played knows = record {
    first = played.first;
    waiting = played.waiting;
    order = played.order;
    bounded = played.bounded;
    run = played.run;
    room = played.room;
    fits = record { position = played.fits.position; ring = played.fits.ring; push = knows played.waiting; pop = played.fits.pop };
  }

  -- a begin of the popping party keeps `AfterCalls`
  pub popping_begun : (pushes : CellPushing A) (pops pops' : CellPopping width) (events : List (CellEvent A))
      → AfterCalls words of_words site list pushes pops events
      → ((waiting : List A) → PoppingKnows words of_words site (λ at. get_or list at 0) waiting pops') → AfterCalls words of_words site list pushes pops' events
  popping_begun pushes pops pops' events played knows = record {
    first = played.first;
    waiting = played.waiting;
    order = played.order;
    bounded = played.bounded;
    run = played.run;
    room = played.room;
    fits = record { position = played.fits.position; ring = played.fits.ring; push = played.fits.push; pop = knows played.waiting };
  }

  -- an empty queue, at whatever position
  pub played_empty : site.base + size site ≤ length list → get_or list site.base 0 ≡ get_or list (site.base + 1) 0 → get_or list site.base 0 < 2 ^ 64
      → AfterCalls {width = width} words of_words site list pushing.AtRest popping.AtRest []
  played_empty room empty position = record {
    first = get_or list site.base 0;
    waiting = [];
    order = refl;
    bounded = omega arith;
    run = refl;
    room = room;
    fits = fits_empty words of_words site (λ at. get_or list at 0) empty position;
  }
