-- How far a call that is played alone has come.
use Rattle.std.proofs.Common.{◌≡◌, ℕ, zero, suc, ◌+◌, ◌≤◌, List, length, get_or, sym, arith}
use Rattle.iox_words.specs.declared.word_list.Words.{Ghosts}
use Rattle.iox_steps.specs.declared.access.Access.{Access}
use Rattle.iox_steps.specs.declared.access.Progress.{Progress}
use Rattle.iox_steps.specs.declared.access.Progress.TheVariants.{Going, Done}
use Rattle.iox_steps.specs.Accesses.{IsWithin, seen_by, words_after}
use Rattle.iox_steps.proofs.AccessLemmas.{within_wider}
use Rattle.iox_cell_queues.specs.declared.site.CellSite.{CellSite}
use Rattle.iox_cell_queues.specs.declared.event.CellReply.{CellReply}
use Rattle.iox_cell_queues.specs.Cells.{size}
use Rattle.iox_cell_queues.specs.declared.queue.CellSide.{CellSide}
use Rattle.iox_cell_queues.specs.CellPartySides.{side_access, side_after, side_progress}
use Rattle.iox_cell_queues.specs.Alone.{EndsAfter}

module _ {A : Type 0} {width : ℕ} (W : Ghosts A) (site : CellSite) (total : ℕ) where
  -- after so many accesses of a call of `total`, it ends after the rest
  abbrev pub IsLeft : ℕ → List ℕ → CellSide A width → CellReply A → List ℕ → Type 0
  IsLeft made list side reply after = (more : ℕ) × ((total ≡ made + more) × EndsAfter W more site list side reply after)

  pub none_made : (list : List ℕ) (side : CellSide A width) (reply : CellReply A) (after : List ℕ) → EndsAfter W total site list side reply after → IsLeft 0 list side reply after
  none_made list side reply after ends = (total, (omega arith, ends))

  within_by : (more : ℕ) (list : List ℕ) (side : CellSide A width) (reply : CellReply A) (after : List ℕ) → EndsAfter W more site list side reply after → IsWithin site.base (size site) (side_access W.words site side)
  within_by zero list side reply after ends = absurd ends
  within_by (suc more) list side reply after ends = ends.0

  pub is_within : (made : ℕ) (list : List ℕ) (side : CellSide A width) (reply : CellReply A) (after : List ℕ) (at : CellSite) (access : Access) → site.base + size site ≤ length list → at ≡ site → access ≡ side_access W.words at side
      → IsLeft made list side reply after → IsWithin 0 (length list) access
  is_within made list side reply after at access room same asked left =
      rw (asked, same) (within_wider (side_access W.words site side) site.base (size site) 0 (length list) (omega arith) (omega arith) (within_by left.0 list side reply after left.1.1))

  made_all : (made more : ℕ) (list : List ℕ) (side : CellSide A width) (reply : CellReply A) (after : List ℕ) → total ≡ made + more → total ≤ made → EndsAfter W more site list side reply after → ⊥
  made_all made zero list side reply after counts few ends = ends
  made_all made (suc more) list side reply after counts few ends = omega arith

  pub all_made : (made : ℕ) (list : List ℕ) (side : CellSide A width) (reply : CellReply A) (after : List ℕ) → total ≤ made → IsLeft made list side reply after → ⊥
  all_made made list side reply after few left = made_all made left.0 list side reply after left.1.0 few left.1.1

  -- one access
  module _ (made : ℕ) (list list' : List ℕ) (side side' : CellSide A width) (reply : CellReply A) (after : List ℕ) (at : CellSite) (access : Access) (seen : ℕ) (answer : Progress (CellReply A))
      (same : at ≡ site) (asked : access ≡ side_access W.words at side) (found : seen ≡ seen_by access (λ at. get_or list at 0)) (become : list' ≡ words_after access list)
      (led : side' ≡ side_after W.of_words at side seen) (said : answer ≡ side_progress W.of_words at side seen) where
    goes_by : (more : ℕ) → side_progress W.of_words site side (seen_by (side_access W.words site side) (λ at. get_or list at 0)) ≡ Going → total ≡ made + more → EndsAfter W more site list side reply after
        → IsLeft (made + 1) (words_after (side_access W.words site side) list) (side_after W.of_words site side (seen_by (side_access W.words site side) (λ at. get_or list at 0))) reply after
    goes_by zero going counts ends = absurd ends
    goes_by (suc more) going counts ends = (more, (omega arith, rw going at ends.1))

    pub one_more_made : answer ≡ Going → IsLeft made list side reply after → IsLeft (made + 1) list' side' reply after
    one_more_made going left =
        let goes : side_progress W.of_words site side (seen_by (side_access W.words site side) (λ at. get_or list at 0)) ≡ Going = rw (said, found, asked, same) at going in
        rw (become, led, found, asked, same) (goes_by left.0 goes left.1.0 left.1.1)

    ends_by : (more : ℕ) (reply' : CellReply A) → side_progress W.of_words site side (seen_by (side_access W.words site side) (λ at. get_or list at 0)) ≡ Done reply' → EndsAfter W more site list side reply after
        → (reply' ≡ reply) × (words_after (side_access W.words site side) list ≡ after)
    ends_by zero reply' done ends = absurd ends
    ends_by (suc more) reply' done ends = let is = rw done at ends.1 in (sym is.1, sym is.2)

    pub last_made : (reply' : CellReply A) → answer ≡ Done reply' → IsLeft made list side reply after → (reply' ≡ reply) × (list' ≡ after)
    last_made reply' done left =
        let ends : side_progress W.of_words site side (seen_by (side_access W.words site side) (λ at. get_or list at 0)) ≡ Done reply' = rw (said, found, asked, same) at done in
        rw (become, asked, same) (ends_by left.0 reply' ends left.1.1)
