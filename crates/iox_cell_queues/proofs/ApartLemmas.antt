-- What changes in a stretch elsewhere leaves a queue as it is.
use Rattle.std.proofs.Common.{◌≡◌, ℕ, ◌+◌, ◌<◌, ◌≤◌, ◌⊎◌, inl, inr, length, get_or, sym, ap, subst, arith}
use Rattle.iox_words.specs.declared.word_list.Words.{Ghosts}
use Rattle.iox_steps.specs.Accesses.{AreApart, IsPlace}
use Rattle.iox_cell_queues.specs.Cells.{size}
use Rattle.iox_cell_queues.specs.CellFits.{Ring, Fits}
use Rattle.iox_cell_queues.specs.CellEventLists.{CellQueueState}
use Rattle.iox_cell_queues.specs.declared.side.CellPushing.TheVariants as pushing
use Rattle.iox_cell_queues.specs.declared.side.CellPopping.TheVariants as popping
use Rattle.iox_cell_queues.specs.CellFrames.{fits_frame}
use Rattle.iox_cell_queues.specs.Lists.{values, state_at}
use Rattle.iox_cell_queues.specs.Apart.{StretchLeavesQueues}
use Rattle.iox_cell_queues.proofs.ValueLemmas.{waiting_is_values}
use Rattle.iox_cell_queues.proofs.PushChains.{queue}

-- a place of a queue is outside a stretch that stands apart
outside_of : (base extent base' size' at : ℕ) → AreApart base extent base' size' → IsPlace base' size' at
    → (at < base) ⊎ (base + extent ≤ at)
outside_of base extent base' size' at (inl before) site = inr (omega (arith, site.0))
outside_of base extent base' size' at (inr behind) site = inl (omega (arith, site.1))

pub stretch_leaves_queues : {A : Type 0} → (W : Ghosts A) → StretchLeavesQueues W
stretch_leaves_queues {A} W base extent site list after apart keeps held =
    let same : (at : ℕ) → IsPlace site.base (size site) at → get_or after at 0 ≡ get_or list at 0 =
    λ at here. keeps.1 at (outside_of base extent site.base (size site) at apart here) in
    let rests : Fits W.words W.of_words site (λ at. get_or list at 0) {width = 0} (values W site list) pushing.AtRest popping.AtRest =
    record { position = held.1; ring = held.2; push = tt; pop = tt } in
    let fits = fits_frame W.words W.of_words site (λ at. get_or list at 0) (λ at. get_or after at 0) same (values W site list) pushing.AtRest popping.AtRest rests in
    let room : site.base + size site ≤ length after = rw keeps.0 held.0 in
    let stays = same site.base (omega arith, omega arith) in
    let leaves = waiting_is_values W site after room (state_at W site list) stays fits.ring in (
      (room, fits.position, subst (λ (l : CellQueueState A). Ring W.words W.of_words site (λ at. get_or after at 0) l.waiting) leaves fits.ring),
      ap (λ (l : CellQueueState A). queue site l.write l.waiting) (sym leaves),
    )
