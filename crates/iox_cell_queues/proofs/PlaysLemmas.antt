-- What a schedule does to the queue of a machine: events, one after another.
use Rattle.std.proofs.Common.{◌≡◌, ℕ, zero, suc, ◌<◌, ◌++◌, List, [], ◌∷◌, length, slice_index_or, slice_set, refl, ap, sym, subst, ◌∙◌, arith}
use Rattle.std.proofs.Common.{append_assoc, append-nil, Option}
use Rattle.std.specs.Option.{option_to_list}
use Rattle.iox_words.specs.declared.word_list.Words.{Ghosts}
use Rattle.iox_steps.specs.declared.access.Progress.{Progress}
use Rattle.iox_steps.specs.Accesses.{KeepsOutside}
use Rattle.iox_steps.proofs.Schedules.{begun_keeps, stepped_keeps, all_entered_keeps}
use Rattle.iox_steps.specs.declared.machine.Entry.{Entry}
use Rattle.iox_cell_queues.specs.declared.site.CellSite.{CellSite}
use Rattle.iox_cell_queues.specs.declared.event.CellReply.{CellReply}
use Rattle.iox_cell_queues.specs.CellFits.{IsWhole}
use Rattle.iox_cell_queues.specs.Cells.{size}
use Rattle.iox_cell_queues.specs.CellEventLists.{CellQueueState, state_after, Follows, told}
use Rattle.iox_cell_queues.specs.CellRunLemmas.{run_told, in_order}
use Rattle.iox_cell_queues.specs.declared.queue.CellSide.{CellSide}
use Rattle.iox_cell_queues.specs.declared.queue.CellSide.TheVariants.{Pusher, Popper}
use Rattle.iox_cell_queues.specs.declared.queue.CellCall.{CellCall}
use Rattle.iox_cell_queues.specs.declared.queue.CellCall.TheVariants.{Push, IsFull, Pop, IsEmpty}
use Rattle.iox_cell_queues.specs.declared.queue.CellParty.{CellParty}
use Rattle.iox_cell_queues.specs.CellParties.{cell_asks, cell_happens, cell_rests, IsBegun, CellLeads, CellBegins}
use Rattle.iox_cell_queues.specs.CellQueues.{CellMachineState, CellInvariant}
use Rattle.iox_cell_queues.specs.CellQueueLaws.{cell_keeps}
use Rattle.iox_cell_queues.specs.CellBeginLaws.{cell_starts}
use Rattle.iox_cell_queues.specs.CellMachines.{CellStepped, CellBegun, AllCellsEntered, SidesShow, PartiesShow, IsInterleaving}
use Rattle.iox_cell_queues.proofs.EventLemmas.{parties_show, event_from}

module _ {A : Type 0} {width : ℕ} (count : ℕ) (words : A → List ℕ) (of_words : List ℕ → Option A) (site : CellSite) (list : List ℕ) (state : CellQueueState A) where
  -- a party that begins a call leaves what is waiting
  first_shows : (a b after : CellSide A width) (call : CellCall A) → count ≡ site.width → SidesShow words of_words site list a b state
      → IsBegun count words of_words a call after → SidesShow words of_words site list after b state
  first_shows (Pusher pushes) (Popper pops) after (Push value) wide shown begun =
      let fits = shown.1 in
      let knows : IsWhole words of_words site.width value = rw (← wide) begun.2 in
      subst (λ side. SidesShow words of_words site list side (Popper pops) state) (sym begun.1)
      (shown.0, record { position = fits.position; ring = fits.ring; push = knows; pop = fits.pop })
  first_shows (Pusher pushes) (Popper pops) after IsFull wide shown begun =
      let fits = shown.1 in
      subst (λ side. SidesShow words of_words site list side (Popper pops) state) (sym begun.1)
      (shown.0, record { position = fits.position; ring = fits.ring; push = tt; pop = fits.pop })
  first_shows (Pusher pushes) (Popper pops) after Pop wide shown begun = absurd begun
  first_shows (Pusher pushes) (Popper pops) after IsEmpty wide shown begun = absurd begun
  first_shows (Pusher pushes) (Pusher other) after call wide shown begun = absurd shown
  first_shows (Popper pops) b after call wide shown begun = absurd shown

  second_shows : (a b after : CellSide A width) (call : CellCall A) → SidesShow words of_words site list a b state
      → IsBegun count words of_words b call after → SidesShow words of_words site list a after state
  second_shows (Pusher pushes) (Popper pops) after Pop shown begun =
      let fits = shown.1 in
      subst (λ side. SidesShow words of_words site list (Pusher pushes) side state) (sym begun.1)
      (shown.0, record { position = fits.position; ring = fits.ring; push = fits.push; pop = tt })
  second_shows (Pusher pushes) (Popper pops) after IsEmpty shown begun =
      let fits = shown.1 in
      subst (λ side. SidesShow words of_words site list (Pusher pushes) side state) (sym begun.1)
      (shown.0, record { position = fits.position; ring = fits.ring; push = fits.push; pop = tt })
  second_shows (Pusher pushes) (Popper pops) after (Push value) shown begun = absurd begun
  second_shows (Pusher pushes) (Popper pops) after IsFull shown begun = absurd begun
  second_shows (Pusher pushes) (Pusher other) after call shown begun = absurd shown
  second_shows (Popper pops) b after call shown begun = absurd shown

module _ {A : Type 0} {width : ℕ} (W : Ghosts A) where
  -- what a begin of this party, which leaves it as `after`, shows in a machine with these parties afterwards
  abbrev Shows : CellSite → CellQueueState A → List ℕ → CellCall A → CellParty A width → List (CellParty A width) → CellParty A width → Type 0
  Shows site state list call after parties party = after.site ≡ party.site → IsBegun W.WORDS W.words W.of_words party.side call after.side
      → PartiesShow W site list parties state

  begun_shows : W.WORDS ≡ width → (site : CellSite) (state : CellQueueState A) (list : List ℕ) (parties : List (CellParty A width)) (number : ℕ) (call : CellCall A)
      (party after : CellParty A width) → PartiesShow W site list parties state → number < length parties → party ≡ slice_index_or parties number party
      → Shows site state list call after (slice_set parties number after) party
  begun_shows whole site state list (a ∷ b ∷ []) zero call party after shown below is =
      subst (Shows site state list call after (after ∷ b ∷ [])) (sym is) (λ same begun.
      let wide : W.WORDS ≡ site.width = whole ∙ sym a.wide ∙ ap (λ (p : CellSite). p.width) shown.0 in
      (same ∙ shown.0, shown.1, first_shows W.WORDS W.words W.of_words site list state a.side b.side after.side call wide shown.2 begun))
  begun_shows whole site state list (a ∷ b ∷ []) (suc zero) call party after shown below is =
      subst (Shows site state list call after (a ∷ after ∷ [])) (sym is) (λ same begun.
      (shown.0, same ∙ shown.1, second_shows W.WORDS W.words W.of_words site list state a.side b.side after.side call shown.2 begun))
  begun_shows whole site state list (a ∷ b ∷ []) (suc (suc number)) call party after shown below is = absurd (omega arith)
  begun_shows whole site state list [] number call party after shown below is = absurd shown
  begun_shows whole site state list (a ∷ []) number call party after shown below is = absurd shown
  begun_shows whole site state list (a ∷ b ∷ c ∷ others) number call party after shown below is = absurd shown

  -- no entry plays nothing
  pub plays_none : (machine : CellMachineState A width) → CellInvariant W machine → IsInterleaving W machine machine
  plays_none machine holds =
      let shows = parties_show W machine.words machine.parties machine.events holds.1 in
      record {
        site = shows.0;
        before = shows.1.0;
        happened = [];
        after = shows.1.0;
        shown = shows.1.1;
        run = refl;
        leads_to = shows.1.1;
        events = sym (append-nil machine.events);
        order = append-nil shows.1.0.waiting;
        outside = (refl, λ at out. refl);
      }

  -- a begin is no event
  pub plays_begun : (old mid : CellMachineState A width) (number : ℕ) (call : CellCall A) (new : CellMachineState A width)
      → CellInvariant W mid → IsInterleaving W old mid → CellBegun W mid number call new → IsInterleaving W old new
  plays_begun old mid number call new holds plays begun =
      let shows = begun_shows holds.0 plays.site plays.after mid.words mid.parties number call begun.party begun.after plays.leads_to begun.is_party.0
      begun.is_party.1
      begun.begins_with.0 begun.begins_with.1 in
      subst (IsInterleaving W old) (sym begun.leads_to) (record {
        site = plays.site;
        before = plays.before;
        happened = plays.happened;
        after = plays.after;
        shown = plays.shown;
        run = plays.run;
        leads_to = shows;
        events = plays.events;
        order = plays.order;
        outside = plays.outside;
      })

  -- a step is one
  pub plays_stepped : (old mid : CellMachineState A width) (number : ℕ) (answer : Progress (CellReply A)) (new : CellMachineState A width)
      → CellInvariant W mid → IsInterleaving W old mid → CellStepped W mid number answer new → IsInterleaving W old new
  plays_stepped old mid number answer new holds plays step =
      let at = event_from W plays.site plays.after mid number answer new plays.leads_to holds step in
      let m = at.0 in
      let site : plays.site ≡ m.site = sym at.1.0 in
      let state : plays.after ≡ m.state = sym at.1.1 in
      let so_far = subst (λ l. Follows m.site plays.before plays.happened l) state (subst (λ p. Follows p plays.before plays.happened plays.after) site plays.run) in
      let run = run_told m.site plays.before plays.happened m.state m.event so_far m.is_true in
      let kept = subst (λ p. KeepsOutside p.base (size p) old.words mid.words) site plays.outside in
      record {
        site = m.site;
        before = plays.before;
        happened = plays.happened ++ option_to_list (told m.event);
        after = state_after m.event m.state;
        shown = subst (λ p. PartiesShow W p old.words old.parties plays.before) site plays.shown;
        run = run;
        leads_to = m.leads_to;
        events = m.events ∙ ap (λ l. l ++ option_to_list (told m.event)) plays.events ∙ append_assoc old.events plays.happened (option_to_list (told m.event));
        order = in_order m.site plays.before _ _ run;
        outside = (m.outside.0 ∙ kept.0, λ at out. m.outside.1 at out ∙ kept.1 at out);
      }

  -- whatever the schedule
  pub schedule_plays : (old : CellMachineState A width) (entries : List (Entry (CellCall A))) (new : CellMachineState A width)
      → CellInvariant W old → AllCellsEntered W old entries new → IsInterleaving W old new
  schedule_plays old entries new holds entered =
      (all_entered_keeps (cell_asks W) (CellLeads W) (cell_happens W) cell_rests (CellBegins W) (λ machine. CellInvariant W machine × IsInterleaving W old machine)
      (λ mid number call after both begun. (
        begun_keeps (cell_asks W) (CellLeads W) (cell_happens W) cell_rests (CellBegins W) (CellInvariant W) (cell_starts W) mid number call after both.0 begun,
        plays_begun old mid number call after both.0 both.1 begun,
      ))
      (λ mid number answer after both step. (
        stepped_keeps (cell_asks W) (CellLeads W) (cell_happens W) cell_rests (CellBegins W) (CellInvariant W) (cell_keeps W) mid number answer after both.0 step,
        plays_stepped old mid number answer after both.0 both.1 step,
      ))
      old entries new (holds, plays_none old holds) entered).1
