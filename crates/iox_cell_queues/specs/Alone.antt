-- A call whose accesses come one after another to its end, with no other party's access between
-- them.
use Rattle.std.specs.Prelude.{◌≡◌, ℕ, zero, suc, ◌≤◌, List, slice_index}
use Rattle.iox_words.specs.declared.word_list.Words.{Ghosts}
use Rattle.iox_steps.specs.declared.push.FullLook.TheVariants as full_look
use Rattle.iox_steps.specs.declared.pop.EmptyLook.TheVariants as empty_look
use Rattle.iox_steps.specs.Accesses.{IsWithin, seen_by, words_after}
use Rattle.iox_steps.specs.Answers.{OnProgress}
use Rattle.iox_cell_queues.specs.declared.site.CellSite.{CellSite}
use Rattle.iox_cell_queues.specs.declared.push.CellPush.TheVariants as push
use Rattle.iox_cell_queues.specs.declared.pop.CellPop.TheVariants as pop
use Rattle.iox_cell_queues.specs.declared.event.CellReply.{CellReply}
use Rattle.iox_cell_queues.specs.declared.side.CellPushing.TheVariants as pushing
use Rattle.iox_cell_queues.specs.declared.side.CellPopping.TheVariants as popping
use Rattle.iox_cell_queues.specs.Cells.{size}
use Rattle.iox_cell_queues.specs.declared.queue.CellSide.{CellSide}
use Rattle.iox_cell_queues.specs.declared.queue.CellSide.TheVariants.{Pusher, Popper}
use Rattle.iox_cell_queues.specs.CellPartySides.{side_access, side_after, side_progress}

-- `W` has the words of the values
module _ {A : Type 0} {width : ℕ} (W : Ghosts A) where
  -- the call makes this many accesses, all within the queue, and ends with this reply and these
  -- words
  abbrev pub EndsAfter : ℕ → CellSite → List ℕ → CellSide A width → CellReply A → List ℕ → Type 0
  EndsAfter zero site list side reply after = ⊥
  EndsAfter (suc more) site list side reply after =
      let access = side_access W.words site side in
      let seen = seen_by access (λ at. slice_index list at) in
      let left = words_after access list in
      IsWithin site.base (size site) access
      × OnProgress (side_progress W.of_words site side seen)
      (EndsAfter more site left (side_after W.of_words site side seen) reply after)
      (λ answer. (more ≡ zero) × (reply ≡ answer) × (after ≡ left))

  -- the call ends after at most `most` accesses
  pub record EndsWithin (most : ℕ) (site : CellSite) (list : List ℕ)
      (side : CellSide A width) : Type 0 where
    pub accesses : ℕ
    pub reply : CellReply A
    pub after : List ℕ
    pub few : accesses ≤ most
    pub ends : EndsAfter accesses site list side reply after

  -- the call can end only with this reply and these words
  abbrev pub IsEndOf : CellSite → List ℕ → CellSide A width → CellReply A → List ℕ → Type 0
  IsEndOf site list side result new = (accesses : ℕ) → (reply : CellReply A) → (after : List ℕ)
      → EndsAfter accesses site list side reply after → (result ≡ reply) × (new ≡ after)

-- the parties that began a call, in cells of `width` words
module _ {A : Type 0} {width : ℕ} where
  -- the pushing party once it began to push this value
  abbrev pub pusher : A → CellSide A width
  pusher value = Pusher (pushing.Pushes (push.LoadsWrite value))

module _ (A : Type 0) (width : ℕ) where
  -- the pushing party once it began a look at fullness
  abbrev pub full_looker : CellSide A width
  full_looker = Pusher (pushing.Looks full_look.LoadsWrite)

  -- the popping party once it began a pop
  abbrev pub popper : CellSide A width
  popper = Popper (popping.Pops pop.LoadsRead)

  -- the popping party once it began a look at emptiness
  abbrev pub empty_looker : CellSide A width
  empty_looker = Popper (popping.Looks empty_look.LoadsRead)
