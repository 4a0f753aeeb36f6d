-- A step of a queue's machine is one event of the queue.
use Rattle.std.proofs.Common.{◌≡◌, ℕ, zero, suc, ◌+◌, ◌<◌, ◌≤◌, List, [], ◌∷◌, length, slice_index, slice_index_or, refl, ap, sym, subst, ◌∙◌, arith}
use Rattle.std.proofs.Common.{Result, Ok, Err, IfOk, Option}
use Rattle.iox_words.specs.declared.word_list.Words.{Ghosts}
use Rattle.iox_steps.specs.declared.access.Progress.{Progress}
use Rattle.iox_steps.specs.declared.error.MachineError.{MachineError}
use Rattle.iox_steps.specs.Accesses.{seen_by, words_after, place_of, IsWithin}
use Rattle.iox_steps.specs.MachineStates.{seen_in, after_access}
use Rattle.iox_steps.proofs.AccessLemmas.{reads_after, word_after-other, length-words_after, outside, within_wider}
use Rattle.iox_cell_queues.specs.declared.site.CellSite.{CellSite}
use Rattle.iox_cell_queues.specs.declared.event.CellEvent.{CellEvent}
use Rattle.iox_cell_queues.specs.declared.event.CellReply.{CellReply}
use Rattle.iox_cell_queues.specs.Cells.{size}
use Rattle.iox_cell_queues.specs.CellEvents.{IsTrueOf}
use Rattle.iox_cell_queues.specs.CellEventLists.{CellQueueState, write_after, state_after}
use Rattle.iox_cell_queues.specs.CellAnswers.{ReplyIsTrue}
use Rattle.iox_cell_queues.specs.CellPushSteps.{pushing_step}
use Rattle.iox_cell_queues.specs.CellPopSteps.{popping_step}
use Rattle.iox_cell_queues.specs.CellFrames.{fits_frame}
use Rattle.iox_cell_queues.specs.declared.queue.CellSide.{CellSide}
use Rattle.iox_cell_queues.specs.declared.queue.CellSide.TheVariants.{Pusher, Popper}
use Rattle.iox_cell_queues.specs.declared.queue.CellParty.{CellParty}
use Rattle.iox_cell_queues.specs.CellPartySides.{side_access, side_after, side_progress, side_event}
use Rattle.iox_cell_queues.specs.CellParties.{cell_asks, cell_happens, CellLeads}
use Rattle.iox_cell_queues.specs.CellQueues.{CellMachineState, BothAfterCalls, PartiesAfterCalls, CellInvariant}
use Rattle.iox_cell_queues.specs.CellMachines.{CellStepped, SidesShow, PartiesShow, side_unpublished, IsEvent}

-- the queue's words are among those that there are
abbrev pub HasRoom : CellSite → List ℕ → Type 0
HasRoom site list = site.base + size site ≤ length list

module _ {A : Type 0} {width : ℕ} (words : A → List ℕ) (of_words : List ℕ → Option A) (site : CellSite) (list : List ℕ) where
  abbrev side_seen : CellSide A width → ℕ
  side_seen side = seen_by (side_access words site side) (λ at. slice_index list at)

  -- what an access of the side `party`, after which the sides are these, is to the queue in this state
  record SideEvent (state : CellQueueState A) (party a b : CellSide A width) : Type 0 where
    within : IsWithin site.base (size site) (side_access words site party)
    inside : IsWithin 0 (length list) (side_access words site party)
    is_true : IsTrueOf site state.write state.waiting (side_event of_words site party (side_seen party))
    leads_to : SidesShow words of_words site (words_after (side_access words site party) list) a b
        (state_after (side_event of_words site party (side_seen party)) state)
    answers : ReplyIsTrue (side_unpublished party) (side_progress of_words site party (side_seen party)) (side_event of_words site party (side_seen party))

  first_event : (state : CellQueueState A) (a b : CellSide A width) → SidesShow words of_words site list a b state → HasRoom site list
      → SideEvent state a (side_after of_words site a (side_seen a)) b
  first_event state (Pusher pushes) (Popper pops) shown room =
      let did = pushing_step words of_words site (λ at. slice_index list at) state.waiting pops pushes shown.1 in
      let inside = within_wider _ site.base (size site) 0 (length list) (omega arith) (omega (arith, room)) did.0 in
      let reads = reads_after _ list inside in
      let event = side_event {width = width} of_words site (Pusher pushes) (side_seen (Pusher pushes)) in
      record {
        within = did.0;
        inside = inside;
        is_true = subst (λ w. IsTrueOf site w state.waiting event) shown.0 did.1;
        leads_to = (reads site.base ∙ did.2 ∙ ap (write_after event) shown.0, fits_frame words of_words site _ _ (λ at here. reads at) _ _ pops did.3);
        answers = did.4;
      }
  first_event state (Pusher pushes) (Pusher other) shown room = absurd shown
  first_event state (Popper pops) b shown room = absurd shown

  second_event : (state : CellQueueState A) (a b : CellSide A width) → SidesShow words of_words site list a b state → HasRoom site list
      → SideEvent state b a (side_after of_words site b (side_seen b))
  second_event state (Pusher pushes) (Popper pops) shown room =
      let did = popping_step words of_words site (λ at. slice_index list at) state.waiting pushes pops shown.1 in
      let inside = within_wider _ site.base (size site) 0 (length list) (omega arith) (omega (arith, room)) did.0 in
      let reads = reads_after _ list inside in
      let event = side_event {width = width} of_words site (Popper pops) (side_seen (Popper pops)) in
      record {
        within = did.0;
        inside = inside;
        is_true = subst (λ w. IsTrueOf site w state.waiting event) shown.0 did.1;
        leads_to = (reads site.base ∙ did.2 ∙ ap (write_after event) shown.0, fits_frame words of_words site _ _ (λ at here. reads at) _ pushes _ did.3);
        answers = did.4;
      }
  second_event state (Pusher pushes) (Pusher other) shown room = absurd shown
  second_event state (Popper pops) b shown room = absurd shown

  -- a queue that was played on shows what is waiting, and has its words
  sides_show : (a b : CellSide A width) (events : List (CellEvent A)) → BothAfterCalls words of_words site list a b events
      → ((state : CellQueueState A) × SidesShow words of_words site list a b state) × HasRoom site list
  sides_show (Pusher pushes) (Popper pops) events played =
      ((record { write = slice_index list site.base; waiting = played.waiting }, (refl, played.fits)), played.room)
  sides_show (Pusher pushes) (Pusher other) events played = absurd played
  sides_show (Popper pops) b events played = absurd played

module _ {A : Type 0} {width : ℕ} (W : Ghosts A) where
  pub parties_show : (list : List ℕ) (parties : List (CellParty A width)) (events : List (CellEvent A)) → PartiesAfterCalls W list parties events
      → (site : CellSite) × ((state : CellQueueState A) × PartiesShow W site list parties state)
  parties_show list (a ∷ b ∷ []) events played =
      let shows = sides_show W.words W.of_words a.site list a.side b.side events played.1 in
      (a.site, (shows.0.0, (refl, played.0, shows.0.1)))
  parties_show list [] events played = absurd played
  parties_show list (a ∷ []) events played = absurd played
  parties_show list (a ∷ b ∷ c ∷ others) events played = absurd played

  pub parties_have_room : (site : CellSite) (list : List ℕ) (parties : List (CellParty A width)) (state : CellQueueState A) (events : List (CellEvent A))
      → PartiesAfterCalls W list parties events → PartiesShow W site list parties state → HasRoom site list
  parties_have_room site list (a ∷ b ∷ []) state events played shown =
      subst (λ p. HasRoom p list) shown.0 (sides_show W.words W.of_words a.site list a.side b.side events played.1).1
  parties_have_room site list [] state events played shown = absurd played
  parties_have_room site list (a ∷ []) state events played shown = absurd played
  parties_have_room site list (a ∷ b ∷ c ∷ others) state events played shown = absurd played

  -- the step is an event of the queue at this site, in this state
  abbrev pub EventAt : CellSite → CellQueueState A → CellMachineState A width → ℕ → Progress (CellReply A) → CellMachineState A width → Type 0
  EventAt site state old number answer new = (m : IsEvent W old number answer new) × ((m.site ≡ site) × (m.state ≡ state))

  -- what an access of this party is to the machine
  abbrev Is : CellSite → CellQueueState A → List ℕ → List (CellParty A width) → List (CellEvent A) → ℕ → CellParty A width → Progress (CellReply A)
      → CellParty A width → Type 0
  Is site state list parties events number after answer party =
      let old : CellMachineState A width = record { words = list; parties = parties; events = events } in
      CellLeads W party (seen_in old (cell_asks W party)) answer after
      → EventAt site state old number answer (after_access old number (cell_asks W party) after (cell_happens W party (seen_in old (cell_asks W party))))

  event_at : (site : CellSite) (state : CellQueueState A) (list : List ℕ) (parties : List (CellParty A width)) (events : List (CellEvent A)) (number : ℕ)
      (party after : CellParty A width) (answer : Progress (CellReply A)) → PartiesShow W site list parties state → HasRoom site list
      → number < length parties → party ≡ slice_index_or parties number party → Is site state list parties events number after answer party
  event_at site state list (a ∷ b ∷ []) events zero party after answer shown room below is =
      subst (Is site state list (a ∷ b ∷ []) events 0 after answer) (sym is) (λ leads.
      let shows = subst (λ p. SidesShow W.words W.of_words p list a.side b.side state) (sym shown.0) shown.2 in
      let did = first_event W.words W.of_words a.site list state a.side b.side shows (subst (λ p. HasRoom p list) (sym shown.0) room) in (
        record {
          site = a.site;
          state = state;
          party = a;
          event = side_event W.of_words a.site a.side (seen_by (cell_asks W a) (λ at. slice_index list at));
          is_party = (below, refl);
          shown = (refl, shown.1 ∙ sym shown.0, shows);
          is_true = did.is_true;
          leads_to = (leads.0, shown.1 ∙ sym shown.0, rw leads.1 did.leads_to);
          events = refl;
          answers = rw leads.2 did.answers;
          one_word = (
            place_of (cell_asks W a),
            λ other apart. reads_after (cell_asks W a) list did.inside other ∙ word_after-other (cell_asks W a) (λ at. slice_index list at) other apart,
          );
          outside = (
            length-words_after (cell_asks W a) list,
            λ at out. reads_after (cell_asks W a) list did.inside at
                ∙ outside (cell_asks W a) (λ at. slice_index list at) a.site.base (size a.site) at did.within out,
          );
        },
        (shown.0, refl),
      ))
  event_at site state list (a ∷ b ∷ []) events (suc zero) party after answer shown room below is =
      subst (Is site state list (a ∷ b ∷ []) events 1 after answer) (sym is) (λ leads.
      let shows = subst (λ p. SidesShow W.words W.of_words p list a.side b.side state) (sym shown.1) shown.2 in
      let did = second_event W.words W.of_words b.site list state a.side b.side shows (subst (λ p. HasRoom p list) (sym shown.1) room) in (
        record {
          site = b.site;
          state = state;
          party = b;
          event = side_event W.of_words b.site b.side (seen_by (cell_asks W b) (λ at. slice_index list at));
          is_party = (below, refl);
          shown = (shown.0 ∙ sym shown.1, refl, shows);
          is_true = did.is_true;
          leads_to = (shown.0 ∙ sym shown.1, leads.0, rw leads.1 did.leads_to);
          events = refl;
          answers = rw leads.2 did.answers;
          one_word = (
            place_of (cell_asks W b),
            λ other apart. reads_after (cell_asks W b) list did.inside other ∙ word_after-other (cell_asks W b) (λ at. slice_index list at) other apart,
          );
          outside = (
            length-words_after (cell_asks W b) list,
            λ at out. reads_after (cell_asks W b) list did.inside at
                ∙ outside (cell_asks W b) (λ at. slice_index list at) b.site.base (size b.site) at did.within out,
          );
        },
        (shown.1, refl),
      ))
  event_at site state list (a ∷ b ∷ []) events (suc (suc number)) party after answer shown room below is = absurd (omega arith)
  event_at site state list [] events number party after answer shown room below is = absurd shown
  event_at site state list (a ∷ []) events number party after answer shown room below is = absurd shown
  event_at site state list (a ∷ b ∷ c ∷ others) events number party after answer shown room below is = absurd shown

  -- a step from a machine that shows this state
  pub event_from : (site : CellSite) (state : CellQueueState A) (old : CellMachineState A width) (number : ℕ) (answer : Progress (CellReply A)) (new : CellMachineState A width)
      → PartiesShow W site old.words old.parties state → CellInvariant W old → CellStepped W old number answer new → EventAt site state old number answer new
  event_from site state old number answer new shown holds step =
      let room = parties_have_room site old.words old.parties state old.events holds.1 shown in
      subst (λ (w : CellMachineState A width). EventAt site state old number answer w) (sym step.leads_to)
      (event_at site state old.words old.parties old.events number step.party step.after answer shown room step.is_party.0 step.is_party.1 step.leads_on)

  pub event_of : (old : CellMachineState A width) (number : ℕ) (answer : Progress (CellReply A)) (new : CellMachineState A width)
      → CellInvariant W old → CellStepped W old number answer new → IsEvent W old number answer new
  event_of old number answer new holds step =
      let shows = parties_show old.words old.parties old.events holds.1 in
      (event_from shows.0 shows.1.0 old number answer new shows.1.1 holds step).0

  -- whatever the step answers
  pub events_of : (old new : CellMachineState A width) (number : ℕ) (result : Result (Progress (CellReply A)) MachineError) → CellInvariant W old
      → IfOk result (λ answer. CellStepped W old number answer new) → IfOk result (λ answer. IsEvent W old number answer new)
  events_of old new number (Ok answer) holds step = event_of old number answer new holds step
  events_of old new number (Err error) holds step = tt
