-- The laws of the accesses of a queue's parties.
use Rattle.std.specs.Prelude.{◌≡◌, ℕ, zero, suc, ◌<◌, ◌++◌, List, [], ◌∷◌, length, slice_index, slice_index_or, slice_set, false, Option}
use Rattle.std.specs.Option.{option_to_list}
use Rattle.std.proofs.Common.{sym, ◌∙◌, subst, arith, refl}
use Rattle.iox_words.specs.declared.word_list.Words.{Ghosts}
use Rattle.iox_steps.specs.declared.access.Progress.{Progress}
use Rattle.iox_steps.specs.Accesses.{IsWithin, seen_by, words_after}
use Rattle.iox_steps.specs.MachineStates.{MachineState, IsParty, seen_in, after_access}
use Rattle.iox_cell_queues.specs.declared.site.CellSite.{CellSite}
use Rattle.iox_cell_queues.specs.declared.event.CellEvent.{CellEvent}
use Rattle.iox_cell_queues.specs.declared.event.CellReply.{CellReply}
use Rattle.iox_cell_queues.specs.CellEventLists.{told}
use Rattle.iox_cell_queues.specs.CellPlayLemmas.{pushing_within_list, popping_within_list, pushing_plays, popping_plays}
use Rattle.iox_cell_queues.specs.declared.queue.CellSide.{CellSide}
use Rattle.iox_cell_queues.specs.declared.queue.CellSide.TheVariants.{Pusher, Popper}
use Rattle.iox_cell_queues.specs.declared.queue.CellParty.{CellParty}
use Rattle.iox_cell_queues.specs.CellPartySides.{side_access, side_after, side_event, rests}
use Rattle.iox_cell_queues.specs.CellParties.{cell_asks, cell_happens, CellLeads}
use Rattle.iox_cell_queues.specs.CellQueues.{BothAfterCalls, PartiesAfterCalls, CellInvariant}

module _ {A : Type 0} {width : ℕ} (words : A → List ℕ) (of_words : List ℕ → Option A) where
  -- the next access of the first side names a word that exists
  first_within : (site : CellSite) (list : List ℕ) (a b : CellSide A width) (events : List (CellEvent A))
      → BothAfterCalls words of_words site list a b events → IsWithin 0 (length list) (side_access words site a)
  first_within site list (Pusher pushes) (Popper pops) events played = pushing_within_list words of_words site list pushes pops events played
  first_within site list (Pusher pushes) (Pusher other) events played = absurd played
  first_within site list (Popper pops) b events played = absurd played

  -- the next access of the second side names a word that exists
  second_within : (site : CellSite) (list : List ℕ) (a b : CellSide A width) (events : List (CellEvent A))
      → BothAfterCalls words of_words site list a b events → IsWithin 0 (length list) (side_access words site b)
  second_within site list (Pusher pushes) (Popper pops) events played = popping_within_list words of_words site list pushes pops events played
  second_within site list (Pusher pushes) (Pusher other) events played = absurd played
  second_within site list (Popper pops) b events played = absurd played

  -- an access of the first side keeps `BothAfterCalls`
  first_plays : (site : CellSite) (list : List ℕ) (a b : CellSide A width) (events : List (CellEvent A))
      → BothAfterCalls words of_words site list a b events
      → let access = side_access words site a in let seen = seen_by access (λ at. slice_index list at) in
      BothAfterCalls words of_words site (words_after access list)
      (side_after of_words site a seen) b (events ++ option_to_list (told (side_event of_words site a seen)))
  first_plays site list (Pusher pushes) (Popper pops) events played = pushing_plays words of_words site list pushes pops events played
  first_plays site list (Pusher pushes) (Pusher other) events played = absurd played
  first_plays site list (Popper pops) b events played = absurd played

  -- an access of the second side keeps `BothAfterCalls`
  second_plays : (site : CellSite) (list : List ℕ) (a b : CellSide A width) (events : List (CellEvent A))
      → BothAfterCalls words of_words site list a b events
      → let access = side_access words site b in let seen = seen_by access (λ at. slice_index list at) in
      BothAfterCalls words of_words site (words_after access list) a (side_after of_words site b seen)
      (events ++ option_to_list (told (side_event of_words site b seen)))
  second_plays site list (Pusher pushes) (Popper pops) events played = popping_plays words of_words site list pushes pops events played
  second_plays site list (Pusher pushes) (Pusher other) events played = absurd played
  second_plays site list (Popper pops) b events played = absurd played

  -- `BothAfterCalls` holds as well of an equal site and equal sides
  pub same_sides : (site site' : CellSite) (list : List ℕ) (a a' b b' : CellSide A width) (events : List (CellEvent A)) → site' ≡ site
      → a' ≡ a → b' ≡ b → BothAfterCalls words of_words site list a b events → BothAfterCalls words of_words site' list a' b' events
  same_sides site site' list a a' b b' events at first second played = rw (at, first, second) played

module _ {A : Type 0} {width : ℕ} (W : Ghosts A) where
  -- the next access of the party of this number names a word that exists
  within : (list : List ℕ) (parties : List (CellParty A width)) (events : List (CellEvent A)) (number : ℕ) (party : CellParty A width)
      → PartiesAfterCalls W list parties events → number < length parties
      → party ≡ slice_index_or parties number party
      → IsWithin 0 (length list) (cell_asks W party)
  within list (a ∷ b ∷ []) events zero party played below is =
      subst (λ (p : CellParty A width). IsWithin 0 (length list) (cell_asks W p)) (sym is)
      (first_within W.words W.of_words a.site list a.side b.side events played.1)
  within list (a ∷ b ∷ []) events (suc zero) party played below is = subst (λ (p : CellParty A width). IsWithin 0 (length list) (cell_asks W p)) (sym is)
      (subst (λ site. IsWithin 0 (length list) (side_access W.words site b.side)) (sym played.0)
      (second_within W.words W.of_words a.site list a.side b.side events played.1))
  within list (a ∷ b ∷ []) events (suc (suc number)) party played below is = absurd (omega arith)
  within list [] events number party played below is = absurd played
  within list (a ∷ []) events number party played below is = absurd played
  within list (a ∷ b ∷ c ∷ others) events number party played below is = absurd played

  -- the access of each party names a word that exists
  pub cell_stays_in : (machine : MachineState (CellParty A width) (CellEvent A)) (number : ℕ) (party : CellParty A width) → CellInvariant W machine
      → IsParty machine number party → IsWithin 0 (length machine.words) (cell_asks W party)
  cell_stays_in machine number party holds is = within machine.words machine.parties machine.events number party holds.1 is.0 is.1

  -- an access of this party, which leaves it as `after`, leads to parties as they are after any
  -- calls
  abbrev StepKeeps : List ℕ → List (CellEvent A) → CellParty A width → List (CellParty A width) → CellParty A width → Type 0
  StepKeeps list events after parties party =
      let seen = seen_by (cell_asks W party) (λ at. slice_index list at) in
      after.site ≡ party.site → after.side ≡ side_after W.of_words party.site party.side seen
      → PartiesAfterCalls W (words_after (cell_asks W party) list) parties (events ++ option_to_list (cell_happens W party seen))

  -- an access of the first party keeps `PartiesAfterCalls`
  first_keeps : (list : List ℕ) (a b : CellParty A width) (events : List (CellEvent A)) (after : CellParty A width)
      → PartiesAfterCalls W list (a ∷ b ∷ []) events → StepKeeps list events after (after ∷ b ∷ []) a
  first_keeps list a b events after played same goes = (
    played.0 ∙ sym same,
    same_sides W.words W.of_words _ _ _ _ _ _ _ _ same goes refl (first_plays W.words W.of_words a.site list a.side b.side events played.1),
  )

  -- an access of the second party keeps `PartiesAfterCalls`
  second_keeps : (list : List ℕ) (a b : CellParty A width) (events : List (CellEvent A)) (after : CellParty A width)
      → PartiesAfterCalls W list (a ∷ b ∷ []) events → StepKeeps list events after (a ∷ after ∷ []) b
  second_keeps list a b events after played same goes = (
    same ∙ played.0,
    same_sides W.words W.of_words _ _ _ _ _ _ _ _ (sym played.0) refl goes
        (second_plays W.words W.of_words b.site list a.side b.side events (same_sides W.words W.of_words _ _ _ _ _ _ _ _ played.0 refl refl played.1)),
  )

  -- an access of the party of this number keeps `PartiesAfterCalls`
  keeps : (list : List ℕ) (parties : List (CellParty A width)) (events : List (CellEvent A)) (number : ℕ) (party after : CellParty A width)
      → PartiesAfterCalls W list parties events → number < length parties
      → party ≡ slice_index_or parties number party
      → StepKeeps list events after (slice_set parties number after) party
  keeps list (a ∷ b ∷ []) events zero party after played below is =
      subst (StepKeeps list events after (after ∷ b ∷ [])) (sym is) (first_keeps list a b events after played)
  keeps list (a ∷ b ∷ []) events (suc zero) party after played below is =
      subst (StepKeeps list events after (a ∷ after ∷ [])) (sym is) (second_keeps list a b events after played)
  keeps list (a ∷ b ∷ []) events (suc (suc number)) party after played below is = absurd (omega arith)
  keeps list [] events number party after played below is = absurd played
  keeps list (a ∷ []) events number party after played below is = absurd played
  keeps list (a ∷ b ∷ c ∷ others) events number party after played below is = absurd played

  -- each access of a party whose call is under way keeps the invariant
  pub cell_keeps : (machine : MachineState (CellParty A width) (CellEvent A)) (number : ℕ) (party after : CellParty A width) (answer : Progress (CellReply A))
      → CellInvariant W machine → IsParty machine number party → rests party.side ≡ false
      → CellLeads W party (seen_in machine (cell_asks W party)) answer after
      → CellInvariant W (after_access machine number (cell_asks W party) after (cell_happens W party (seen_in machine (cell_asks W party))))
  cell_keeps machine number party after answer holds is awake leads =
      (holds.0, keeps machine.words machine.parties machine.events number party after holds.1 is.0 is.1 leads.0 leads.1)
