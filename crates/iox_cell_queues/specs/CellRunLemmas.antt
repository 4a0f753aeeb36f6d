-- Events, one after another: the values handed out and then those that wait are those that waited
-- at first and then those published.
use Rattle.std.proofs.Common.{◌≡◌, List, [], ◌∷◌, ◌++◌, ap, sym, subst, ◌∙◌, append_assoc, append-nil}
use Rattle.std.specs.Option.{option_to_list}
use Rattle.iox_cell_queues.specs.declared.site.CellSite.{CellSite}
use Rattle.iox_cell_queues.specs.declared.event.CellEvent.{CellEvent}
use Rattle.iox_cell_queues.specs.declared.event.CellEvent.TheVariants.{Quiet, Publish, HandOut, SeesEmpty, SeesWaiting, SeesFull, SeesRoom, SeesEnd}
use Rattle.iox_cell_queues.specs.CellEvents.{IsTrueOf}
use Rattle.iox_cell_queues.specs.CellEventLists.{CellQueueState, state_after, Follows, published, departed, told}

module _ {A : Type 0} (site : CellSite) where
  -- a list of events continues with one more event
  run_more : (before : CellQueueState A) (happened : List (CellEvent A)) (mid : CellQueueState A) (event : CellEvent A) → Follows site before happened mid
      → IsTrueOf site mid.write mid.waiting event
      → Follows site before (happened ++ event ∷ []) (state_after event mid)
  run_more before [] mid event run holds = (subst (λ (l : CellQueueState A). IsTrueOf site l.write l.waiting event) run holds, ap (state_after event) run)
  run_more before (first ∷ happened) mid event run holds = (run.0, run_more (state_after first before) happened mid event run.1 holds)

  -- a list of events continues with what is written down of one more event
  pub run_told : (before : CellQueueState A) (happened : List (CellEvent A)) (mid : CellQueueState A) (event : CellEvent A) → Follows site before happened mid
      → IsTrueOf site mid.write mid.waiting event
      → Follows site before (happened ++ option_to_list (told event)) (state_after event mid)
  run_told before happened mid Quiet run holds = rw append-nil run
  run_told before happened mid (Publish value) run holds = run_more before happened mid (Publish value) run holds
  run_told before happened mid (HandOut value) run holds = run_more before happened mid (HandOut value) run holds
  run_told before happened mid SeesEmpty run holds = run_more before happened mid SeesEmpty run holds
  run_told before happened mid SeesWaiting run holds = run_more before happened mid SeesWaiting run holds
  run_told before happened mid SeesFull run holds = run_more before happened mid SeesFull run holds
  run_told before happened mid SeesRoom run holds = run_more before happened mid SeesRoom run holds
  run_told before happened mid SeesEnd run holds = run_more before happened mid SeesEnd run holds

  -- the values handed out and then those that wait are those that waited at first and then those
  -- published
  pub in_order : (before : CellQueueState A) (happened : List (CellEvent A)) (after : CellQueueState A) → Follows site before happened after
      → before.waiting ++ published happened ≡ departed happened ++ after.waiting
  in_order before [] after run = append-nil before.waiting ∙ ap (λ (l : CellQueueState A). l.waiting) (sym run)
  in_order before (Publish value ∷ happened) after run =
      sym (append_assoc before.waiting (value ∷ []) (published happened)) ∙ in_order (state_after (Publish value) before) happened after run.1
  in_order before (HandOut value ∷ happened) after run = ap (λ (l : List A). l ++ published happened) run.0
      ∙ ap (λ (l : List A). value ∷ l) (in_order (state_after (HandOut value) before) happened after run.1)
  in_order before (Quiet ∷ happened) after run = in_order (state_after Quiet before) happened after run.1
  in_order before (SeesEmpty ∷ happened) after run = in_order (state_after SeesEmpty before) happened after run.1
  in_order before (SeesWaiting ∷ happened) after run = in_order (state_after SeesWaiting before) happened after run.1
  in_order before (SeesFull ∷ happened) after run = in_order (state_after SeesFull before) happened after run.1
  in_order before (SeesRoom ∷ happened) after run = in_order (state_after SeesRoom before) happened after run.1
  in_order before (SeesEnd ∷ happened) after run = in_order (state_after SeesEnd before) happened after run.1
