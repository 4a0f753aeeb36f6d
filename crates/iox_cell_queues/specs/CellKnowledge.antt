-- What one party found still holds after the accesses of the other.
use Rattle.std.proofs.Common.{◌≡◌, ℕ, ◌+◌, ◌<◌, ◌≤◌, List, length, get_or, ap, sym, ◌∙◌, arith, Option}
use Rattle.iox_steps.specs.declared.push.FullLook.TheVariants as full_look
use Rattle.iox_steps.specs.declared.pop.EmptyLook.TheVariants as empty_look
use Rattle.iox_cell_queues.specs.declared.site.CellSite.{CellSite}
use Rattle.iox_cell_queues.specs.declared.push.CellPush.TheVariants as push
use Rattle.iox_cell_queues.specs.declared.pop.CellPop.TheVariants as pop
use Rattle.iox_cell_queues.specs.declared.side.CellPushing.{CellPushing}
use Rattle.iox_cell_queues.specs.declared.side.CellPushing.TheVariants as pushing
use Rattle.iox_cell_queues.specs.declared.side.CellPopping.{CellPopping}
use Rattle.iox_cell_queues.specs.declared.side.CellPopping.TheVariants as popping
use Rattle.iox_cell_queues.specs.Cells.{cell_at}
use Rattle.iox_cell_queues.specs.CellFits.{write_of, read_of, item, Publishes, PushingKnows, PoppingKnows}

module _ {A : Type 0} (words : A → List ℕ) (of_words : List ℕ → Option A) (site : CellSite) (word word' : ℕ → ℕ) (waiting waiting' : List A) where
  -- while the read position is unchanged, a pop's loaded words are still those of the first value;
  -- more may wait
  module _ (same : read_of site word' ≡ read_of site word) (more : length waiting ≤ length waiting')
      (first : 0 < length waiting → item words waiting' 0 ≡ item words waiting 0) where
    -- what holds of the popping party still holds
    pub pop_knows_more : {width : ℕ} → (pops : CellPopping width) → PoppingKnows words of_words site word waiting pops
        → PoppingKnows words of_words site word' waiting' pops
    pop_knows_more popping.AtRest knows = tt
    pop_knows_more (popping.Pops pop.LoadsRead) knows = tt
    pop_knows_more (popping.Pops (pop.LoadsWrite read)) knows = knows ∙ sym same
    pop_knows_more (popping.Pops (pop.LoadsWord read cell got loaded)) knows = (
      knows.0 ∙ sym same,
      omega (arith, knows.1),
      knows.2,
      knows.3,
      knows.4,
      λ i below. knows.5 i below
          ∙ ap (λ (l : List ℕ). get_or l i 0) (sym (first knows.1)),
    )
    pop_knows_more (popping.Pops (pop.StoresRead read got)) knows = (knows.0 ∙ sym same, omega (arith, knows.1), knows.2 ∙ sym (first knows.1))
    pop_knows_more (popping.Looks empty_look.LoadsRead) knows = tt
    pop_knows_more (popping.Looks (empty_look.LoadsWrite read)) knows = knows ∙ sym same

  -- while the write position and the cells are unchanged, a push's free cell is still free; fewer
  -- may wait
  module _ (same : write_of site word' ≡ write_of site word) (less : length waiting' ≤ length waiting)
      (cells_same : 0 < site.capacity → (position i : ℕ) → i < site.width → word' (cell_at site position + i) ≡ word (cell_at site position + i)) where
    -- what holds of a push that is to publish still holds
    publishes_less : (value : A) (next stored : ℕ) → stored ≤ site.width → Publishes words of_words site word waiting value next stored
        → Publishes words of_words site word' waiting' value next stored
    publishes_less value next stored few knows =
        let free = knows.free in
        record {
          is_next = knows.is_next ∙ ap (λ n. n + 1) (sym same);
          in_range = knows.in_range;
          free = omega arith;
          whole = knows.whole;
          holds = λ i below. rw same (cells_same (omega arith) (write_of site word) i (omega arith) ∙ knows.holds i below);
        }

    -- what holds of the pushing party still holds
    pub push_knows_less : (pushes : CellPushing A) → PushingKnows words of_words site word waiting pushes
        → PushingKnows words of_words site word' waiting' pushes
    push_knows_less pushing.AtRest knows = tt
    push_knows_less (pushing.Pushes (push.LoadsWrite value)) knows = knows
    push_knows_less (pushing.Pushes (push.LoadsRead value write)) knows = (knows.0, knows.1 ∙ sym same)
    push_knows_less (pushing.Pushes (push.StoresWord value cell next stored)) knows =
        (publishes_less value next stored (omega (arith, knows.2)) knows.0, knows.1 ∙ ap (cell_at site) (sym same), knows.2)
    push_knows_less (pushing.Pushes (push.StoresWrite value next)) knows = publishes_less value next site.width (omega arith) knows
    push_knows_less (pushing.Looks full_look.LoadsWrite) knows = tt
    push_knows_less (pushing.Looks (full_look.LoadsRead write)) knows = knows ∙ sym same
