-- One access of a call that its party plays alone: it continues or is the last.
use Rattle.std.proofs.Common.{◌≡◌, ℕ, suc, ◌+◌, ◌≤◌, List, length, get_or, refl, ◌∙◌, arith}
use Rattle.iox_words.specs.declared.word_list.Words.{Ghosts}
use Rattle.iox_steps.specs.declared.access.Progress.TheVariants.{Going, Done}
use Rattle.iox_steps.specs.Accesses.{IsWithin, seen_by, words_after, KeepsOutside}
use Rattle.iox_steps.proofs.AccessLemmas.{reads_after, length-words_after, outside, within_wider}
use Rattle.iox_cell_queues.specs.declared.site.CellSite.{CellSite}
use Rattle.iox_cell_queues.specs.declared.event.CellReply.{CellReply}
use Rattle.iox_cell_queues.specs.declared.side.CellPushing.TheVariants as pushing
use Rattle.iox_cell_queues.specs.declared.side.CellPopping.TheVariants as popping
use Rattle.iox_cell_queues.specs.Cells.{size}
use Rattle.iox_cell_queues.specs.CellSides.{pushing_access, popping_access}
use Rattle.iox_cell_queues.specs.CellEventLists.{CellQueueState, state_after}
use Rattle.iox_cell_queues.specs.CellPushSteps.{pushing_step}
use Rattle.iox_cell_queues.specs.CellPopSteps.{popping_step}
use Rattle.iox_cell_queues.specs.CellFrames.{fits_frame}
use Rattle.iox_cell_queues.specs.declared.queue.CellSide.{CellSide}
use Rattle.iox_cell_queues.specs.declared.queue.CellSide.TheVariants.{Pusher, Popper}
use Rattle.iox_cell_queues.specs.CellPartySides.{side_access, side_after, side_progress, side_event}
use Rattle.iox_cell_queues.specs.CellMachines.{SidesShow}
use Rattle.iox_cell_queues.specs.Alone.{EndsAfter}

module _ {A : Type 0} (width : ℕ) (W : Ghosts A) (site : CellSite) where
  -- the words are those of this state, and no side but this is in a call
  abbrev pub ShowsAlone : List ℕ → CellSide A width → CellQueueState A → Type 0
  ShowsAlone list (Pusher pushes) state = SidesShow {width = width} W.words W.of_words site list (Pusher pushes) (Popper popping.AtRest) state
  ShowsAlone list (Popper pops) state = SidesShow {width = width} W.words W.of_words site list (Pusher pushing.AtRest) (Popper pops) state

  abbrev pub ShowsAtRest : List ℕ → CellQueueState A → Type 0
  ShowsAtRest list state = SidesShow {width = width} W.words W.of_words site list (Pusher pushing.AtRest) (Popper popping.AtRest) state

  -- what one access does
  pub record StepAlone (list : List ℕ) (side : CellSide A width) (state : CellQueueState A) : Type 0 where
    pub within : IsWithin site.base (size site) (side_access W.words site side)
    pub shows : ShowsAlone (words_after (side_access W.words site side) list) (side_after W.of_words site side (seen_by (side_access W.words site side) (λ at. get_or list at 0))) (state_after (side_event W.of_words site side (seen_by (side_access W.words site side) (λ at. get_or list at 0))) state)
    pub room : site.base + size site ≤ length (words_after (side_access W.words site side) list)
    pub outside : KeepsOutside site.base (size site) list (words_after (side_access W.words site side) list)

  pub step_alone : (list : List ℕ) (side : CellSide A width) (state : CellQueueState A) → site.base + size site ≤ length list → ShowsAlone list side state → StepAlone list side state
  step_alone list (Pusher pushes) state room shows =
      let word : ℕ → ℕ = λ at. get_or list at 0 in
      let did = pushing_step W.words W.of_words site word state.waiting popping.AtRest pushes shows.1 in
      let inside = within_wider (pushing_access W.words site pushes) site.base (size site) 0 (length list) (omega arith) (omega arith) did.0 in
      let reads = reads_after _ list inside in
      record {
        within = did.0;
        shows = rw (← shows.0) (reads site.base ∙ did.2, fits_frame W.words W.of_words site _ _ (λ at here. reads at) _ _ _ did.3);
        room = rw length-words_after room;
        outside = (length-words_after _ _, λ at out. reads at ∙ outside _ word site.base (size site) at did.0 out);
      }
  step_alone list (Popper pops) state room shows =
      let word : ℕ → ℕ = λ at. get_or list at 0 in
      let did = popping_step W.words W.of_words site word state.waiting pushing.AtRest pops shows.1 in
      let inside = within_wider (popping_access site pops) site.base (size site) 0 (length list) (omega arith) (omega arith) did.0 in
      let reads = reads_after _ list inside in
      record {
        within = did.0;
        shows = rw (← shows.0) (reads site.base ∙ did.2, fits_frame W.words W.of_words site _ _ (λ at here. reads at) _ _ _ did.3);
        room = rw length-words_after room;
        outside = (length-words_after _ _, λ at out. reads at ∙ outside _ word site.base (size site) at did.0 out);
      }

  -- the call ends after so many accesses, with this reply, and leaves this state
  pub record Ended (list : List ℕ) (side : CellSide A width) (accesses : ℕ) (reply : CellReply A) (state : CellQueueState A) : Type 0 where
    pub after : List ℕ
    pub ends : EndsAfter W accesses site list side reply after
    pub shows : ShowsAtRest after state
    pub room : site.base + size site ≤ length after
    pub outside : KeepsOutside site.base (size site) list after

  module _ (list : List ℕ) (side : CellSide A width) (state : CellQueueState A) (room : site.base + size site ≤ length list) (shows : ShowsAlone list side state) where
    -- the access continues
    pub goes_on : (more : ℕ) (reply : CellReply A) (state' : CellQueueState A) → let access = side_access W.words site side in let seen = seen_by access (λ at. get_or list at 0) in
        side_progress W.of_words site side seen ≡ Going → Ended (words_after access list) (side_after W.of_words site side seen) more reply state' → Ended list side (suc more) reply state'
    goes_on more reply state' going rest =
        let did = step_alone list side state room shows in
        record {
          after = rest.after;
          ends = (did.within, rw going rest.ends);
          shows = rest.shows;
          room = rest.room;
          outside = (rest.outside.0 ∙ did.outside.0, λ at out. rest.outside.1 at out ∙ did.outside.1 at out);
        }

    -- it is the last
    pub ends_here : (reply : CellReply A) (state' : CellQueueState A) → let access = side_access W.words site side in let seen = seen_by access (λ at. get_or list at 0) in
        side_progress W.of_words site side seen ≡ Done reply → ShowsAtRest (words_after access list) state' → Ended list side 1 reply state'
    ends_here reply state' done rests =
        let did = step_alone list side state room shows in
        record {
          after = words_after (side_access W.words site side) list;
          ends = (did.within, rw done (refl, refl, refl));
          shows = rests;
          room = did.room;
          outside = did.outside;
        }
