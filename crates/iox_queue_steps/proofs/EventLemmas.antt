-- A step of a queue's machine is one event of the queue.
use Rattle.std.proofs.Common.{◌≡◌, ℕ, zero, suc, ◌<◌, List, [], ◌∷◌, length, slice_index, slice_index_or, refl, sym, subst, ◌∙◌, arith, Result, Ok, Err, IfOk}
use Rattle.iox_steps.specs.declared.access.Progress.{Progress}
use Rattle.iox_steps.specs.declared.error.MachineError.{MachineError}
use Rattle.iox_steps.specs.declared.site.Site.{Site}
use Rattle.iox_steps.specs.declared.side.QueueEvent.{QueueEvent}
use Rattle.iox_steps.specs.declared.side.QueueReply.{QueueReply}
use Rattle.iox_steps.specs.Accesses.{seen_by, words_after, place_of, IsWithin}
use Rattle.iox_steps.specs.Sites.{size}
use Rattle.iox_steps.specs.Events.{IsTrueOf}
use Rattle.iox_steps.specs.EventLists.{QueueState, state_after}
use Rattle.iox_steps.specs.Answers.{ReplyIsTrue}
use Rattle.iox_steps.specs.MachineStates.{seen_in, after_access}
use Rattle.iox_steps.proofs.AccessLemmas.{reads_after, word_after-other, length-words_after, outside}
use Rattle.iox_steps.proofs.Frames.{pushing_within, popping_within}
use Rattle.iox_steps.proofs.ListSteps.{pushing_step_in_list, popping_step_in_list, pushing_within_list, popping_within_list}
use Rattle.iox_steps.proofs.AnswerLemmas.{pushing_answers, popping_answers}
use Rattle.iox_queue_steps.specs.declared.queue.Side.{Side}
use Rattle.iox_queue_steps.specs.declared.queue.Side.TheVariants.{Pusher, Popper}
use Rattle.iox_queue_steps.specs.Queues.{PartyView, side_access, side_after, side_progress, side_event, queue_asks, queue_happens, QueueLeads, QueueInvariant, BothAfterCalls, PartiesAfterCalls}
use Rattle.iox_queue_steps.specs.Machines.{QueueMachineState, QueueStepped, SidesShow, side_unpublished, IsEvent}

-- what the access of a side finds
abbrev side_sees : Site → List ℕ → Side → ℕ
side_sees site words party = seen_by (side_access site party) (λ place. slice_index words place)

-- what an access of the side `party`, after which the sides are these, is to the queue
record SideEvent (site : Site) (words : List ℕ) (a b : Side) (party : Side) (a' b' : Side) : Type 0 where
  state : QueueState
  shown : SidesShow site words a b state
  within : IsWithin site.base (size site) (side_access site party)
  inside : IsWithin 0 (length words) (side_access site party)
  is_true : IsTrueOf site state.write state.waiting state.hand (side_event site party (side_sees site words party))
  leads_to : SidesShow site (words_after (side_access site party) words) a' b' (state_after (side_event site party (side_sees site words party)) state)
  answers : ReplyIsTrue (side_unpublished party) (side_progress site party (side_sees site words party)) (side_event site party (side_sees site words party))

first_event : (site : Site) (words : List ℕ) (a b : Side) (events : List QueueEvent) → BothAfterCalls site words a b events
    → SideEvent site words a b a (side_after site a (side_sees site words a)) b
first_event site words (Pusher pushes) (Popper pops) events played =
    let did = pushing_step_in_list site words played.waiting played.hand pushes pops played.room played.fits in
    record {
      state = record { write = slice_index words site.base; waiting = played.waiting; hand = played.hand };
      shown = (refl, played.fits);
      within = pushing_within site (λ place. slice_index words place) played.waiting played.hand pushes played.fits.push;
      inside = pushing_within_list site words played.waiting played.hand pushes pops played.room played.fits;
      is_true = did.0;
      leads_to = (did.1, did.2);
      answers = pushing_answers site (λ place. slice_index words place) played.waiting played.hand pushes _ played.fits.push;
    }
first_event site words (Pusher pushes) (Pusher other) events played = absurd played
first_event site words (Popper pops) b events played = absurd played

second_event : (site : Site) (words : List ℕ) (a b : Side) (events : List QueueEvent) → BothAfterCalls site words a b events
    → SideEvent site words a b b a (side_after site b (side_sees site words b))
second_event site words (Pusher pushes) (Popper pops) events played =
    let did = popping_step_in_list site words played.waiting played.hand pushes pops played.room played.fits in
    record {
      state = record { write = slice_index words site.base; waiting = played.waiting; hand = played.hand };
      shown = (refl, played.fits);
      within = popping_within site (λ place. slice_index words place) played.waiting pops played.fits.ring.bounded played.fits.pop;
      inside = popping_within_list site words played.waiting played.hand pushes pops played.room played.fits;
      is_true = did.0;
      leads_to = (did.1, did.2);
      answers = popping_answers site pops _;
    }
second_event site words (Pusher pushes) (Pusher other) events played = absurd played
second_event site words (Popper pops) b events played = absurd played

-- what an access of this party is to the machine
abbrev Is : List ℕ → List PartyView → List QueueEvent → ℕ → PartyView → Progress QueueReply → PartyView → Type 0
Is words parties events number after answer party =
    let old : QueueMachineState = record { words = words; parties = parties; events = events } in
    QueueLeads party (seen_in old (queue_asks party)) answer after
    → IsEvent old number answer (after_access old number (queue_asks party) after (queue_happens party (seen_in old (queue_asks party))))

event_at : (words : List ℕ) (parties : List PartyView) (events : List QueueEvent) (number : ℕ) (party after : PartyView) (answer : Progress QueueReply)
    → PartiesAfterCalls words parties events → number < length parties → party ≡ slice_index_or parties number party
    → Is words parties events number after answer party
event_at words (a ∷ b ∷ []) events zero party after answer played below is = subst (Is words (a ∷ b ∷ []) events 0 after answer) (sym is) (λ leads.
    let did = first_event a.site words a.side b.side events played.1 in
    record {
      site = a.site;
      state = did.state;
      party = a;
      is_party = (below, refl);
      event = side_event a.site a.side (side_sees a.site words a.side);
      shown = (refl, played.0, did.shown);
      is_true = did.is_true;
      leads_to = (leads.0, played.0, rw leads.1 did.leads_to);
      events = refl;
      answers = rw leads.2 did.answers;
      one_word = (
        place_of (side_access a.site a.side),
        λ other apart. reads_after (side_access a.site a.side) words did.inside other
            ∙ word_after-other (side_access a.site a.side) (λ place. slice_index words place) other apart,
      );
      outside = (
        length-words_after (side_access a.site a.side) words,
        λ place out. reads_after (side_access a.site a.side) words did.inside place
            ∙ outside (side_access a.site a.side) (λ at. slice_index words at) a.site.base (size a.site) place did.within out,
      );
    })
event_at words (a ∷ b ∷ []) events (suc zero) party after answer played below is = subst (Is words (a ∷ b ∷ []) events 1 after answer) (sym is) (λ leads.
    let at = sym played.0 in
    let did = second_event b.site words a.side b.side events (subst (λ site. BothAfterCalls site words a.side b.side events) at played.1) in
    record {
      site = b.site;
      state = did.state;
      party = b;
      is_party = (below, refl);
      event = side_event b.site b.side (side_sees b.site words b.side);
      shown = (at, refl, did.shown);
      is_true = did.is_true;
      leads_to = (at, leads.0, rw leads.1 did.leads_to);
      events = refl;
      answers = rw leads.2 did.answers;
      one_word = (
        place_of (side_access b.site b.side),
        λ other apart. reads_after (side_access b.site b.side) words did.inside other
            ∙ word_after-other (side_access b.site b.side) (λ place. slice_index words place) other apart,
      );
      outside = (
        length-words_after (side_access b.site b.side) words,
        λ place out. reads_after (side_access b.site b.side) words did.inside place
            ∙ outside (side_access b.site b.side) (λ at. slice_index words at) b.site.base (size b.site) place did.within out,
      );
    })
event_at words (a ∷ b ∷ []) events (suc (suc number)) party after answer played below is = absurd (omega arith)
event_at words [] events number party after answer played below is = absurd played
event_at words (a ∷ []) events number party after answer played below is = absurd played
event_at words (a ∷ b ∷ c ∷ others) events number party after answer played below is = absurd played

pub event_of : (old new : QueueMachineState) (number : ℕ) (answer : Progress QueueReply)
    → QueueInvariant old → QueueStepped old number answer new → IsEvent old number answer new
event_of old new number answer holds step = subst (λ (w : QueueMachineState). IsEvent old number answer w) (sym step.leads_to)
    (event_at old.words old.parties old.events number step.party step.after answer holds step.is_party.0 step.is_party.1 step.leads_on)

-- whatever the step answers
pub events_of : (old new : QueueMachineState) (number : ℕ) (result : Result (Progress QueueReply) MachineError) → QueueInvariant old
    → IfOk result (λ answer. QueueStepped old number answer new) → IfOk result (λ answer. IsEvent old number answer new)
events_of old new number (Ok answer) holds step = event_of old new number answer holds step
events_of old new number (Err error) holds step = tt
