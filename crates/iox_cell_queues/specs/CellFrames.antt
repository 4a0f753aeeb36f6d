-- Words that agree at the queue's places fit the same; and the words of an empty queue.
use Rattle.std.proofs.Common.{◌≡◌, ℕ, ◌+◌, ◌^◌, ◌<◌, List, [], length, refl, ap, sym, ◌∙◌, arith, Option}
use Rattle.iox_steps.specs.Accesses.{IsPlace}
use Rattle.iox_cell_queues.specs.declared.site.CellSite.{CellSite}
use Rattle.iox_cell_queues.specs.declared.side.CellPushing.{CellPushing}
use Rattle.iox_cell_queues.specs.declared.side.CellPushing.TheVariants as pushing
use Rattle.iox_cell_queues.specs.declared.side.CellPopping.{CellPopping}
use Rattle.iox_cell_queues.specs.declared.side.CellPopping.TheVariants as popping
use Rattle.iox_cell_queues.specs.Cells.{size, cell_at}
use Rattle.iox_cell_queues.specs.CellFits.{write_of, read_of, Fits}
use Rattle.iox_cell_queues.specs.CellPlaces.{word_site}
use Rattle.iox_cell_queues.specs.CellKnowledge.{push_knows_less, pop_knows_more}

module _ {A : Type 0} (words : A → List ℕ) (of_words : List ℕ → Option A) (site : CellSite) where
  module _ (word word' : ℕ → ℕ) (same : (at : ℕ) → IsPlace site.base (size site) at → word' at ≡ word at) where
    -- the write position is the same in both
    write_same : write_of site word' ≡ write_of site word
    write_same = same site.base (omega arith, omega arith)

    -- the read position is the same in both
    read_same : read_of site word' ≡ read_of site word
    read_same = same (site.base + 1) (omega arith, omega arith)

    -- each word of a cell is the same in both
    cells_same : 0 < site.capacity → (position i : ℕ) → i < site.width → word' (cell_at site position + i) ≡ word (cell_at site position + i)
    cells_same some position i inside =
        let stands = word_site site position i some inside in
        same _ (omega (arith, stands.0), omega (arith, stands.1))

    -- words that agree at the queue's places fit the same queue
    pub fits_frame : {width : ℕ} → (waiting : List A) (pushes : CellPushing A) (pops : CellPopping width)
        → Fits words of_words site word waiting pushes pops → Fits words of_words site word' waiting pushes pops
    fits_frame waiting pushes pops fits =
        let ring = fits.ring in
        let bounded = ring.bounded in
        record {
          position = rw write_same fits.position;
          ring = record {
            counts = write_same ∙ ring.counts ∙ ap (λ r. r + length waiting) (sym read_same);
            bounded = bounded;
            whole = ring.whole;
            items = λ k below j within. rw read_same (cells_same (omega arith) (read_of site word + k) j within ∙ ring.items k below j within);
          };
          push = push_knows_less words of_words site word word' waiting waiting write_same (omega arith) cells_same pushes fits.push;
          pop = pop_knows_more words of_words site word word' waiting waiting read_same (omega arith) (λ _. refl) pops fits.pop;
        }

  -- nothing waits where the positions are equal
  pub fits_empty : {width : ℕ} → (word : ℕ → ℕ) → write_of site word ≡ read_of site word → write_of site word < 2 ^ 64
      → Fits words of_words site word {width = width} [] pushing.AtRest popping.AtRest
  fits_empty word empty position = record {
    position = position;
    ring = record { counts = omega arith; bounded = omega arith; whole = tt; items = λ k below. absurd (omega arith) };
    push = tt;
    pop = tt;
  }
