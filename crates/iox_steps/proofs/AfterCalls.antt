-- A queue that is played on stays one, access by access and begin by begin.
use Rattle.std.proofs.Common.{◌≡◌, ℕ, ◌+◌, ◌^◌, ◌<◌, ◌≤◌, ◌++◌, List, [], length, get_or, refl, sym, ◌∙◌, arith}
use Rattle.std.specs.Option.{option_to_list}
use Rattle.iox_steps.specs.declared.access.Access.{Access}
use Rattle.iox_steps.specs.declared.site.QueueKind.TheVariants.{Overflowing}
use Rattle.iox_steps.specs.declared.site.Site.{Site}
use Rattle.iox_steps.specs.declared.side.Pushing.TheVariants as pushing
use Rattle.iox_steps.specs.declared.side.Popping.TheVariants as popping
use Rattle.iox_steps.specs.declared.side.QueueEvent.{QueueEvent}
use Rattle.iox_steps.specs.declared.side.Pushing.{Pushing}
use Rattle.iox_steps.specs.declared.side.Popping.{Popping}
use Rattle.iox_steps.specs.Accesses.{seen_by, word_after, words_after, IsWithin}
use Rattle.iox_steps.specs.Sites.{size}
use Rattle.iox_steps.specs.Sides.{pushing_access, pushing_after, pushing_event, pushing_rested, popping_access, popping_after, popping_event, popping_rested}
use Rattle.iox_steps.specs.Events.{waiting_after, hand_after, IsTrueOf}
use Rattle.iox_steps.specs.Fits.{write_of, Fits}
use Rattle.iox_steps.specs.EventLists.{QueueState, write_after, told}
use Rattle.iox_steps.specs.AfterCalls.{AfterCalls}
use Rattle.iox_steps.proofs.AccessLemmas.{reads_after, length-words_after, within_wider}
use Rattle.iox_steps.proofs.PushSteps.{pushing_step}
use Rattle.iox_steps.proofs.PopSteps.{popping_step}
use Rattle.iox_steps.proofs.Frames.{fits_frame, fits_empty, pushing_within, popping_within}
use Rattle.iox_steps.proofs.Begins.{pushing_begins, popping_begins}
use Rattle.iox_steps.proofs.Writes.{pushing_writes, popping_writes, waits_at_most}
use Rattle.iox_steps.proofs.RunLemmas.{run_told, in_order}

module _ (site : Site) (words : List ℕ) where
  -- an event more: what fits the words by their places fits them as a list
  played_on : (pushes pushes' : Pushing) (pops pops' : Popping) (events : List QueueEvent) (access : Access) (event : QueueEvent)
      (played : AfterCalls site words pushes pops events)
      → IsWithin 0 (length words) access → write_of site (word_after access (λ place. get_or words place 0)) ≡ write_after event (get_or words site.base 0)
      → IsTrueOf site (get_or words site.base 0) played.waiting played.hand event
      → Fits site (word_after access (λ place. get_or words place 0)) (waiting_after event played.waiting)
      (hand_after event played.waiting played.hand) pushes' pops'
      → AfterCalls site (words_after access words) pushes' pops' (events ++ option_to_list (told event))
  played_on pushes pushes' pops pops' events access event played within writes holds fits =
      let reads = reads_after access words within in
      let state : QueueState = record { write = get_or words site.base 0; waiting = played.waiting; hand = played.hand } in
      let write : write_after event (get_or words site.base 0) ≡ get_or (words_after access words) site.base 0 = sym (reads site.base ∙ writes) in
      let more = run_told site _ events state event played.run holds in
      let run = rw write at more in
      record {
        first = played.first;
        waiting = waiting_after event played.waiting;
        hand = hand_after event played.waiting played.hand;
        order = in_order site _ _ _ more;
        bounded = waits_at_most site _ _ _ pushes' pops' fits;
        run = run;
        room = rw length-words_after played.room;
        fits =
            fits_frame site (word_after access (λ place. get_or words place 0)) (λ place. get_or (words_after access words) place 0) _ _ pushes' pops'
            (λ at place. reads at) fits;
      }

  pub pushing_within_words : (pushes : Pushing) (pops : Popping) (events : List QueueEvent) → AfterCalls site words pushes pops events
      → IsWithin 0 (length words) (pushing_access site pushes)
  pushing_within_words pushes pops events played = let room = played.room in
      within_wider (pushing_access site pushes) site.base (size site) 0 (length words) (omega arith) (omega arith)
      (pushing_within site (λ place. get_or words place 0) played.waiting played.hand pushes played.fits.push)

  pub popping_within_words : (pushes : Pushing) (pops : Popping) (events : List QueueEvent) → AfterCalls site words pushes pops events
      → IsWithin 0 (length words) (popping_access site pops)
  popping_within_words pushes pops events played = let room = played.room in
      within_wider (popping_access site pops) site.base (size site) 0 (length words) (omega arith) (omega arith)
      (popping_within site (λ place. get_or words place 0) played.waiting pops played.fits.ring.bounded played.fits.pop)

  pub pushing_plays : (pushes : Pushing) (pops : Popping) (events : List QueueEvent) → AfterCalls site words pushes pops events
      → let access = pushing_access site pushes in let seen = seen_by access (λ place. get_or words place 0) in
      AfterCalls site (words_after access words) (pushing_after site pushes seen) pops (events ++ option_to_list (told (pushing_event site pushes seen)))
  pushing_plays pushes pops events played =
      let word : ℕ → ℕ = λ place. get_or words place 0 in
      let keeps = pushing_step site word played.waiting played.hand pushes pops played.fits in
      played_on pushes _ pops pops events (pushing_access site pushes) (pushing_event site pushes (seen_by (pushing_access site pushes) word)) played
      (pushing_within_words pushes pops events played)
      (pushing_writes site word played.waiting played.hand pushes pops played.fits) keeps.0 keeps.1

  pub popping_plays : (pushes : Pushing) (pops : Popping) (events : List QueueEvent) → AfterCalls site words pushes pops events
      → let access = popping_access site pops in let seen = seen_by access (λ place. get_or words place 0) in
      AfterCalls site (words_after access words) pushes (popping_after site pops seen) (events ++ option_to_list (told (popping_event site pops seen)))
  popping_plays pushes pops events played =
      let word : ℕ → ℕ = λ place. get_or words place 0 in
      let keeps = popping_step site word played.waiting played.hand pushes pops played.fits in
      played_on pushes pushes pops _ events (popping_access site pops) (popping_event site pops (seen_by (popping_access site pops) word)) played
      (popping_within_words pushes pops events played)
      (popping_writes site word pops played.waiting played.fits.pop) keeps.0 keeps.1

  -- a party that begins a call changes nothing else
  pub pushing_begun : (pushes : Pushing) (pops : Popping) (events : List QueueEvent) → AfterCalls site words (pushing_rested pushes) pops events
      → AfterCalls site words pushes pops events
  pushing_begun pushes pops events played =
      let fits = pushing_begins site (λ place. get_or words place 0) played.waiting played.hand pushes pops played.fits in
      record {
        first = played.first;
        waiting = played.waiting;
        hand = played.hand;
        order = played.order;
        run = played.run;
        room = played.room;
        fits = fits;
        bounded = waits_at_most site (λ place. get_or words place 0) played.waiting played.hand pushes pops fits;
      }

  pub popping_begun : (pushes : Pushing) (pops : Popping) (events : List QueueEvent) → AfterCalls site words pushes (popping_rested pops) events
      → AfterCalls site words pushes pops events
  popping_begun pushes pops events played =
      let fits = popping_begins site (λ place. get_or words place 0) played.waiting played.hand pushes pops played.fits in
      record {
        first = played.first;
        waiting = played.waiting;
        hand = played.hand;
        order = played.order;
        run = played.run;
        room = played.room;
        fits = fits;
        bounded = played.bounded;
      }

  -- an empty queue, at whatever position
  pub played_empty : (site.kind ≡ Overflowing → 0 < site.capacity) → site.base + size site ≤ length words
      → get_or words site.base 0 ≡ get_or words (site.base + 1) 0 → get_or words site.base 0 < 2 ^ 64
      → AfterCalls site words pushing.AtRest popping.AtRest []
  played_empty some room empty position =
      let fits = fits_empty site (λ place. get_or words place 0) some empty position in
      record {
        first = get_or words site.base 0;
        waiting = [];
        hand = [];
        order = refl;
        run = refl;
        room = room;
        fits = fits;
        bounded = omega arith;
      }
