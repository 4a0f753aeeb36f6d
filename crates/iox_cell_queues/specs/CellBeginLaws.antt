-- The law of the begins of a queue's parties.
use Rattle.std.specs.Prelude.{◌≡◌, ℕ, zero, suc, ◌<◌, List, [], ◌∷◌, length, slice_index_or, slice_set, Ok, Option}
use Rattle.std.proofs.Common.{sym, ◌∙◌, subst, arith}
use Rattle.iox_words.specs.declared.word_list.Words.{Ghosts}
use Rattle.iox_steps.specs.declared.push.FullLook.TheVariants as full_look
use Rattle.iox_steps.specs.declared.pop.EmptyLook.TheVariants as empty_look
use Rattle.iox_steps.specs.MachineStates.{MachineState, IsParty, with_party}
use Rattle.iox_cell_queues.specs.declared.site.CellSite.{CellSite}
use Rattle.iox_cell_queues.specs.declared.push.CellPush.TheVariants as push
use Rattle.iox_cell_queues.specs.declared.pop.CellPop.TheVariants as pop
use Rattle.iox_cell_queues.specs.declared.event.CellEvent.{CellEvent}
use Rattle.iox_cell_queues.specs.declared.side.CellPushing.TheVariants as pushing
use Rattle.iox_cell_queues.specs.declared.side.CellPopping.TheVariants as popping
use Rattle.iox_cell_queues.specs.CellPlayLemmas.{pushing_begun, popping_begun}
use Rattle.iox_cell_queues.specs.declared.queue.CellSide.{CellSide}
use Rattle.iox_cell_queues.specs.declared.queue.CellSide.TheVariants.{Pusher, Popper}
use Rattle.iox_cell_queues.specs.declared.queue.CellCall.{CellCall}
use Rattle.iox_cell_queues.specs.declared.queue.CellCall.TheVariants.{Push, IsFull, Pop, IsEmpty}
use Rattle.iox_cell_queues.specs.declared.queue.CellParty.{CellParty}
use Rattle.iox_cell_queues.specs.CellParties.{IsBegun, CellBegins}
use Rattle.iox_cell_queues.specs.CellQueues.{BothAfterCalls, PartiesAfterCalls, CellInvariant}

module _ {A : Type 0} {width : ℕ} (count : ℕ) (words : A → List ℕ) (of_words : List ℕ → Option A) where
  -- a begin of the first side keeps `BothAfterCalls`
  first_begins : (site : CellSite) (list : List ℕ) (a b after : CellSide A width) (call : CellCall A) (events : List (CellEvent A))
      → count ≡ site.width → BothAfterCalls words of_words site list a b events → IsBegun count words of_words a call after
      → BothAfterCalls words of_words site list after b events
  first_begins site list (Pusher pushes) (Popper pops) after (Push value) events wide played begun =
      subst (λ side. BothAfterCalls words of_words site list side (Popper pops) events) (sym begun.1)
      (pushing_begun words of_words site list pushes (pushing.Pushes (push.LoadsWrite value)) pops events played (λ waiting. rw (← wide) begun.2))
  first_begins site list (Pusher pushes) (Popper pops) after IsFull events wide played begun =
      subst (λ side. BothAfterCalls words of_words site list side (Popper pops) events) (sym begun.1)
      (pushing_begun words of_words site list pushes (pushing.Looks full_look.LoadsWrite) pops events played (λ waiting. tt))
  first_begins site list (Pusher pushes) (Popper pops) after Pop events wide played begun = absurd begun
  first_begins site list (Pusher pushes) (Popper pops) after IsEmpty events wide played begun = absurd begun
  first_begins site list (Pusher pushes) (Pusher other) after call events wide played begun = absurd played
  first_begins site list (Popper pops) b after call events wide played begun = absurd played

  -- a begin of the second side keeps `BothAfterCalls`
  second_begins : (site : CellSite) (list : List ℕ) (a b after : CellSide A width) (call : CellCall A) (events : List (CellEvent A))
      → BothAfterCalls words of_words site list a b events → IsBegun count words of_words b call after → BothAfterCalls words of_words site list a after events
  second_begins site list (Pusher pushes) (Popper pops) after Pop events played begun =
      subst (λ side. BothAfterCalls words of_words site list (Pusher pushes) side events) (sym begun.1)
      (popping_begun words of_words site list pushes pops (popping.Pops pop.LoadsRead) events played (λ waiting. tt))
  second_begins site list (Pusher pushes) (Popper pops) after IsEmpty events played begun =
      subst (λ side. BothAfterCalls words of_words site list (Pusher pushes) side events) (sym begun.1)
      (popping_begun words of_words site list pushes pops (popping.Looks empty_look.LoadsRead) events played (λ waiting. tt))
  second_begins site list (Pusher pushes) (Popper pops) after (Push value) events played begun = absurd begun
  second_begins site list (Pusher pushes) (Popper pops) after IsFull events played begun = absurd begun
  second_begins site list (Pusher pushes) (Pusher other) after call events played begun = absurd played
  second_begins site list (Popper pops) b after call events played begun = absurd played

module _ {A : Type 0} {width : ℕ} (W : Ghosts A) where
  -- a begin of this party, which leaves it as `after`, leads to parties as they are after any calls
  abbrev Starts : List ℕ → List (CellEvent A) → CellCall A → CellParty A width → List (CellParty A width) → CellParty A width → Type 0
  Starts list events call after parties party = after.site ≡ party.site → IsBegun W.WORDS W.words W.of_words party.side call after.side
      → PartiesAfterCalls W list parties events

  -- a begin of the party of this number keeps `PartiesAfterCalls`
  starts : W.WORDS ≡ width → (list : List ℕ) (parties : List (CellParty A width)) (events : List (CellEvent A)) (number : ℕ) (call : CellCall A)
      (party after : CellParty A width)
      → PartiesAfterCalls W list parties events → number < length parties
      → party ≡ slice_index_or parties number party
      → Starts list events call after (slice_set parties number after) party
  starts whole list (a ∷ b ∷ []) events zero call party after played below is =
      subst (Starts list events call after (after ∷ b ∷ [])) (sym is)
      (λ same begun. (
        played.0 ∙ sym same,
        subst (λ site. BothAfterCalls W.words W.of_words site list after.side b.side events) (sym same)
            (first_begins W.WORDS W.words W.of_words a.site list a.side b.side after.side call events (whole ∙ sym a.wide) played.1 begun),
      ))
  starts whole list (a ∷ b ∷ []) events (suc zero) call party after played below is =
      subst (Starts list events call after (a ∷ after ∷ [])) (sym is)
      (λ same begun. (same ∙ played.0, second_begins W.WORDS W.words W.of_words a.site list a.side b.side after.side call events played.1 begun))
  starts whole list (a ∷ b ∷ []) events (suc (suc number)) call party after played below is = absurd (omega arith)
  starts whole list [] events number call party after played below is = absurd played
  starts whole list (a ∷ []) events number call party after played below is = absurd played
  starts whole list (a ∷ b ∷ c ∷ others) events number call party after played below is = absurd played

  -- each begin of a call keeps the invariant
  pub cell_starts : (machine : MachineState (CellParty A width) (CellEvent A)) (number : ℕ) (call : CellCall A) (party after : CellParty A width)
      → CellInvariant W machine → IsParty machine number party → CellBegins W party call (Ok after)
      → CellInvariant W (with_party machine number after)
  cell_starts machine number call party after holds is begun =
      (holds.0, starts holds.0 machine.words machine.parties machine.events number call party after holds.1 is.0 is.1 begun.0 begun.1)
