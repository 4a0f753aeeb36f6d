-- The words say which values wait, so what was played in two parts was played.
use Rattle.std.proofs.Common.{◌≡◌, ℕ, suc, ◌<◌, ◌++◌, List, [], ◌∷◌, length, get_or, refl, ap, sym, subst, ◌∙◌, arith, append_assoc}
use Rattle.std.proofs.Common.{Option, Some, None}
use Rattle.std.proofs.lemmas.Grind.{same_number_lists}
use Rattle.iox_words.specs.declared.word_list.Words.{Ghosts}
use Rattle.iox_steps.specs.Accesses.{KeepsOutside}
use Rattle.iox_cell_queues.specs.declared.site.CellSite.{CellSite}
use Rattle.iox_cell_queues.specs.declared.event.CellEvent.{CellEvent}
use Rattle.iox_cell_queues.specs.Cells.{size}
use Rattle.iox_cell_queues.specs.CellFits.{item, AreWhole, Ring}
use Rattle.iox_cell_queues.specs.CellEventLists.{CellQueueState, state_after, Follows}
use Rattle.iox_cell_queues.specs.CellRunLemmas.{in_order}
use Rattle.iox_cell_queues.specs.declared.queue.CellSide.{CellSide}
use Rattle.iox_cell_queues.specs.declared.queue.CellSide.TheVariants.{Pusher, Popper}
use Rattle.iox_cell_queues.specs.declared.queue.CellParty.{CellParty}
use Rattle.iox_cell_queues.specs.CellQueues.{CellMachineState}
use Rattle.iox_cell_queues.specs.CellMachines.{SidesShow, PartiesShow, IsInterleaving}

-- the value of an option, or this one
abbrev value_or : {A : Type 0} → A → Option A → A
value_or other (Some value) = value
value_or other None = other

module _ {A : Type 0} (words : A → List ℕ) (of_words : List ℕ → Option A) where
  -- whole values with the same words are the same
  same_values : (width : ℕ) (a b : List A) → length a ≡ length b → AreWhole words of_words width a → AreWhole words of_words width b
      → ((k i : ℕ) → k < length a → i < width → get_or (item words a k) i 0 ≡ get_or (item words b k) i 0) → a ≡ b
  same_values width [] [] lengths whole whole' same = refl
  same_values width [] (v ∷ b) lengths whole whole' same = absurd (omega (arith, lengths))
  same_values width (u ∷ a) [] lengths whole whole' same = absurd (omega (arith, lengths))
  same_values width (u ∷ a) (v ∷ b) lengths whole whole' same =
      let wide = whole.0.0 in
      let as_wide : length (words u) ≡ length (words v) = whole.0.0 ∙ sym whole'.0.0 in
      let one : words u ≡ words v = same_number_lists (words u) (words v) as_wide (λ i below. same 0 i (omega arith) (omega (arith, below, wide))) in
      let given : Some u ≡ Some v = sym whole.0.1 ∙ ap of_words one ∙ whole'.0.1 in
      let first : u ≡ v = ap (value_or u) given in
      let others : a ≡ b = same_values width a b (omega (arith, lengths)) whole.1 whole'.1 (λ k i below inside. same (suc k) i (omega (arith, below)) inside) in
      ap (λ x. x ∷ a) first ∙ ap (λ l. v ∷ l) others

  rings_same : (site : CellSite) (word : ℕ → ℕ) (a b : List A) → Ring words of_words site word a → Ring words of_words site word b → a ≡ b
  rings_same site word a b ring ring' =
      let counts = ring.counts in
      let counts' = ring'.counts in
      let lengths : length a ≡ length b = omega (arith, counts, counts') in
      same_values site.width a b lengths ring.whole ring'.whole (λ k i below inside. sym (ring.items k below i inside) ∙ ring'.items k (omega (arith, below, lengths)) i inside)

  sides_show_one : (site : CellSite) (list : List ℕ) {width : ℕ} (a b : CellSide A width) (state state' : CellQueueState A)
      → SidesShow words of_words site list a b state → SidesShow words of_words site list a b state' → state ≡ state'
  sides_show_one site list (Pusher pushes) (Popper pops) state state' shown shown' =
      let write : state.write ≡ state'.write = sym shown.0 ∙ shown'.0 in
      let waiting : state.waiting ≡ state'.waiting = rings_same site _ state.waiting state'.waiting shown.1.ring shown'.1.ring in
      ap (λ w. record { write = w; waiting = state.waiting }) write ∙ ap (λ l. record { write = state'.write; waiting = l }) waiting
  sides_show_one site list (Pusher pushes) (Pusher other) state state' shown shown' = absurd shown
  sides_show_one site list (Popper pops) b state state' shown shown' = absurd shown

-- a run continues by another
run_on : {A : Type 0} → (site : CellSite) (before : CellQueueState A) (happened more : List (CellEvent A)) (mid after : CellQueueState A)
    → Follows site before happened mid → Follows site mid more after → Follows site before (happened ++ more) after
run_on site before [] more mid after run next = subst (λ l. Follows site l more after) run next
run_on site before (event ∷ happened) more mid after run next = (run.0, run_on site (state_after event before) happened more mid after run.1 next)

module _ {A : Type 0} {width : ℕ} (W : Ghosts A) where
  -- two states that are shown, at two sites, are one
  pub parties_show_one : (site site' : CellSite) (list : List ℕ) (parties : List (CellParty A width)) (state state' : CellQueueState A)
      → PartiesShow W site list parties state → PartiesShow W site' list parties state' → (site ≡ site') × (state ≡ state')
  parties_show_one site site' list (a ∷ b ∷ []) state state' shown shown' =
      let same : site ≡ site' = sym shown.0 ∙ shown'.0 in
      let here = subst (λ p. SidesShow W.words W.of_words p list a.side b.side state') (sym same) shown'.2 in
      (same, sides_show_one W.words W.of_words site list a.side b.side state state' shown.2 here)
  parties_show_one site site' list [] state state' shown shown' = absurd shown
  parties_show_one site site' list (a ∷ []) state state' shown shown' = absurd shown
  parties_show_one site site' list (a ∷ b ∷ c ∷ others) state state' shown shown' = absurd shown

  -- what was played first, and then what was played next
  pub plays_on : (old mid new : CellMachineState A width) → IsInterleaving W old mid → IsInterleaving W mid new → IsInterleaving W old new
  plays_on old mid new first next =
      let one = parties_show_one first.site next.site mid.words mid.parties first.after next.before first.leads_to next.shown in
      let site : next.site ≡ first.site = sym one.0 in
      let state : next.before ≡ first.after = sym one.1 in
      let goes_on = subst (λ l. Follows first.site l next.happened next.after) state (subst (λ p. Follows p next.before next.happened next.after) site next.run) in
      let kept = subst (λ (p : CellSite). KeepsOutside p.base (size p) mid.words new.words) site next.outside in
      let run = run_on first.site first.before first.happened next.happened first.after next.after first.run goes_on in
      record {
        site = first.site;
        before = first.before;
        happened = first.happened ++ next.happened;
        after = next.after;
        shown = first.shown;
        run = run;
        leads_to = subst (λ p. PartiesShow W p new.words new.parties next.after) site next.leads_to;
        events = next.events ∙ ap (λ l. l ++ next.happened) first.events ∙ append_assoc old.events first.happened next.happened;
        order = in_order first.site first.before _ _ run;
        outside = (kept.0 ∙ first.outside.0, λ at out. kept.1 at out ∙ first.outside.1 at out);
      }
