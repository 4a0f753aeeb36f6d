-- One access of a call that its party plays alone: it continues or is the last.
use Rattle.std.proofs.Common.{◌≡◌, ℕ, suc, ◌+◌, ◌≤◌, List, length, get_or, refl, ◌∙◌}
use Rattle.iox_steps.specs.declared.access.Progress.TheVariants.{Going, Done}
use Rattle.iox_steps.specs.declared.site.Site.{Site}
use Rattle.iox_steps.specs.declared.side.QueueReply.{QueueReply}
use Rattle.iox_steps.specs.declared.side.Pushing.TheVariants as pushing
use Rattle.iox_steps.specs.declared.side.Popping.TheVariants as popping
use Rattle.iox_steps.specs.Accesses.{IsWithin, seen_by, words_after, KeepsOutside}
use Rattle.iox_steps.specs.Sites.{size}
use Rattle.iox_steps.specs.Events.{IsTrueOf}
use Rattle.iox_steps.specs.EventLists.{QueueState, state_after}
use Rattle.iox_steps.proofs.AccessLemmas.{reads_after, length-words_after, outside}
use Rattle.iox_steps.proofs.Frames.{pushing_within, popping_within}
use Rattle.iox_steps.proofs.ListSteps.{pushing_within_list, popping_within_list, pushing_step_in_list, popping_step_in_list}
use Rattle.iox_queue_steps.specs.declared.queue.Side.{Side}
use Rattle.iox_queue_steps.specs.declared.queue.Side.TheVariants.{Pusher, Popper}
use Rattle.iox_queue_steps.specs.Queues.{side_access, side_after, side_progress, side_event}
use Rattle.iox_queue_steps.specs.Machines.{SidesShow}
use Rattle.iox_queue_calls.specs.Alone.{EndsAfter}

-- the words are those of this state, and no side but this is in a call
abbrev pub ShowsAlone : Site → List ℕ → Side → QueueState → Type 0
ShowsAlone site words (Pusher pushes) state = SidesShow site words (Pusher pushes) (Popper popping.AtRest) state
ShowsAlone site words (Popper pops) state = SidesShow site words (Pusher pushing.AtRest) (Popper pops) state

abbrev pub ShowsAtRest : Site → List ℕ → QueueState → Type 0
ShowsAtRest site words state = SidesShow site words (Pusher pushing.AtRest) (Popper popping.AtRest) state

-- what one access does
pub record StepAlone (site : Site) (words : List ℕ) (side : Side) (state : QueueState) : Type 0 where
  pub within : IsWithin site.base (size site) (side_access site side)
  pub is_true : IsTrueOf site state.write state.waiting state.hand (side_event site side (seen_by (side_access site side) (λ place. get_or words place 0)))
  pub shows : ShowsAlone site (words_after (side_access site side) words)
      (side_after site side (seen_by (side_access site side) (λ place. get_or words place 0)))
      (state_after (side_event site side (seen_by (side_access site side) (λ place. get_or words place 0))) state)
  pub room : site.base + size site ≤ length (words_after (side_access site side) words)
  pub outside : KeepsOutside site.base (size site) words (words_after (side_access site side) words)

pub step_alone : (site : Site) (words : List ℕ) (side : Side) (state : QueueState) → site.base + size site ≤ length words → ShowsAlone site words side state
    → StepAlone site words side state
step_alone site words (Pusher pushes) state room shows =
    let did = pushing_step_in_list site words state.waiting state.hand pushes popping.AtRest room shows.1 in
    let word : ℕ → ℕ = λ place. get_or words place 0 in
    let within = pushing_within site word state.waiting state.hand pushes shows.1.push in
    let inside = pushing_within_list site words state.waiting state.hand pushes popping.AtRest room shows.1 in
    record {
      within = within;
      is_true = rw (← shows.0) did.0;
      shows = rw (← shows.0) (did.1, did.2);
      room = rw length-words_after room;
      outside = (length-words_after _ _, λ place out. reads_after _ words inside place ∙ outside _ word site.base (size site) place within out);
    }
step_alone site words (Popper pops) state room shows =
    let did = popping_step_in_list site words state.waiting state.hand pushing.AtRest pops room shows.1 in
    let word : ℕ → ℕ = λ place. get_or words place 0 in
    let within = popping_within site word state.waiting pops shows.1.ring.bounded shows.1.pop in
    let inside = popping_within_list site words state.waiting state.hand pushing.AtRest pops room shows.1 in
    record {
      within = within;
      is_true = rw (← shows.0) did.0;
      shows = rw (← shows.0) (did.1, did.2);
      room = rw length-words_after room;
      outside = (length-words_after _ _, λ place out. reads_after _ words inside place ∙ outside _ word site.base (size site) place within out);
    }

-- the call ends after so many accesses, with this reply, and leaves this state
pub record Ended (site : Site) (words : List ℕ) (side : Side) (accesses : ℕ) (reply : QueueReply) (state : QueueState) : Type 0 where
  pub after : List ℕ
  pub ends : EndsAfter accesses site words side reply after
  pub shows : ShowsAtRest site after state
  pub room : site.base + size site ≤ length after
  pub outside : KeepsOutside site.base (size site) words after

module _ (site : Site) (words : List ℕ) (side : Side) (state : QueueState) (room : site.base + size site ≤ length words)
    (shows : ShowsAlone site words side state) where
  -- the access continues
  pub goes_on : (more : ℕ) (reply : QueueReply) (state' : QueueState) → let access = side_access site side in let seen = seen_by access (λ place. get_or words place 0) in
      side_progress site side seen ≡ Going
      → Ended site (words_after access words) (side_after site side seen) more reply state' → Ended site words side (suc more) reply state'
  goes_on more reply state' going rest =
      let did = step_alone site words side state room shows in
      record {
        after = rest.after;
        ends = (did.within, rw going rest.ends);
        shows = rest.shows;
        room = rest.room;
        outside = (rest.outside.0 ∙ did.outside.0, λ place out. rest.outside.1 place out ∙ did.outside.1 place out);
      }

  -- it is the last
  pub ends_here : (reply : QueueReply) (state' : QueueState) → let access = side_access site side in let seen = seen_by access (λ place. get_or words place 0) in
      side_progress site side seen ≡ Done reply → ShowsAtRest site (words_after access words) state' → Ended site words side 1 reply state'
  ends_here reply state' done rests =
      let did = step_alone site words side state room shows in
      record {
        after = words_after (side_access site side) words;
        ends = (did.within, rw done (refl, refl, refl));
        shows = rests;
        room = did.room;
        outside = did.outside;
      }
