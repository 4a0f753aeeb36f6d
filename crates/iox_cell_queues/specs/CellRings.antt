-- The values in the cells after each kind of store of a queue.
use Rattle.std.proofs.Common.{◌≡◌, ℕ, suc, ◌+◌, ◌<◌, List, [], ◌∷◌, ◌++◌, length, map, ap, sym, ◌∙◌, inl, inr, arith, Option}
use Rattle.std.proofs.lemmas.List.{get_or_append_left, get_or_push, length_push, length-map, map-append}
use Rattle.std.proofs.lemmas.Bool.{cases_lt}
use Rattle.iox_steps.specs.Accesses.{put}
use Rattle.iox_steps.proofs.Places.{put-same, put-other}
use Rattle.iox_cell_queues.specs.declared.site.CellSite.{CellSite}
use Rattle.iox_cell_queues.specs.Cells.{cell_at}
use Rattle.iox_cell_queues.specs.CellFits.{write_of, read_of, HasWords, item, IsWhole, AreWhole, Ring}
use Rattle.iox_cell_queues.specs.CellPlaces.{words_apart}

module _ {A : Type 0} (words : A → List ℕ) (of_words : List ℕ → Option A) where
  -- the words of the values that waited already
  pub item-push_old : (waiting : List A) (value : A) (k : ℕ) → k < length waiting → item words (waiting ++ value ∷ []) k ≡ item words waiting k
  item-push_old waiting value k old = rw map-append (get_or_append_left (map words waiting) (words value ∷ []) [] k (rw length-map old))

  -- the words of the value that joins them
  item-push_new : (waiting : List A) (value : A) (k : ℕ) → k ≡ length waiting → item words (waiting ++ value ∷ []) k ≡ words value
  item-push_new waiting value k new = rw map-append (get_or_push (map words waiting) (words value) [] k (length-map waiting words ∙ sym new))

  -- the values are whole once one more whole value joins them
  AreWhole-push : (width : ℕ) (waiting : List A) (value : A) → AreWhole words of_words width waiting → IsWhole words of_words width value
      → AreWhole words of_words width (waiting ++ value ∷ [])
  AreWhole-push width [] value all one = (one, tt)
  AreWhole-push width (first ∷ others) value all one = (all.0, AreWhole-push width others value all.1 one)

  module _ (site : CellSite) (word : ℕ → ℕ) where
    -- a store into a word of the free cell
    pub ring_store : (waiting : List A) (i value : ℕ) → Ring words of_words site word waiting → length waiting < site.capacity → i < site.width
        → Ring words of_words site (put word (cell_at site (write_of site word) + i) value) waiting
    ring_store waiting i value ring free inside =
        let at = cell_at site (write_of site word) + i in
        let write_same = put-other word at value site.base (omega arith) in
        let read_same = put-other word at value (site.base + 1) (omega arith) in
        record {
          counts = write_same ∙ ring.counts ∙ ap (λ r. r + length waiting) (sym read_same);
          bounded = ring.bounded;
          whole = ring.whole;
          items = λ k below j within.
              let counts = ring.counts in
              let apart = words_apart site (read_of site word + k) (write_of site word) j i (omega arith) (omega arith) within inside in
              rw read_same (put-other word at value (cell_at site (read_of site word + k) + j) apart ∙ ring.items k below j within);
        }

    -- the write position is increased, and the value in the free cell waits
    pub ring_publish : (waiting : List A) (value : A) (next : ℕ) → Ring words of_words site word waiting → length waiting < site.capacity
        → IsWhole words of_words site.width value
        → HasWords word (cell_at site (write_of site word)) (words value) site.width → next ≡ write_of site word + 1
        → Ring words of_words site (put word site.base next) (waiting ++ value ∷ [])
    ring_publish waiting value next ring free whole holds is_next =
        let counts = ring.counts in
        let more = length_push waiting value in
        let write_new = put-same word site.base next in
        let read_same = put-other word site.base next (site.base + 1) (omega arith) in
        record {
          counts = omega arith;
          bounded = omega arith;
          whole = AreWhole-push site.width waiting value ring.whole whole;
          items = λ k below j within.
              let elsewhere = put-other word site.base next (cell_at site (read_of site word + k) + j) (omega arith) in
              rw read_same (elsewhere ∙ elim (cases_lt k (length waiting)) [
                | inl old ↦ rw (item-push_old waiting value k old) (ring.items k old j within)
                | inr new ↦ (
                    let at : read_of site word + k ≡ write_of site word = omega arith in
                    rw (at, item-push_new waiting value k (omega arith)) (holds j within)
                    )
              ]);
        }

    -- the read position is increased, and the first value is taken
    pub ring_take : (first : A) (others : List A) (next : ℕ) → Ring words of_words site word (first ∷ others) → next ≡ read_of site word + 1
        → Ring words of_words site (put word (site.base + 1) next) others
    ring_take first others next ring is_next =
        let bounded = ring.bounded in
        let counts = ring.counts in
        let read_new = put-same word (site.base + 1) next in
        let write_same = put-other word (site.base + 1) next site.base (omega arith) in
        record {
          counts = omega arith;
          bounded = omega arith;
          whole = ring.whole.1;
          items = λ k below j within.
              let elsewhere = put-other word (site.base + 1) next (cell_at site (next + k) + j) (omega arith) in
              let at : next + k ≡ read_of site word + suc k = omega arith in
              rw read_new (elsewhere ∙ rw at (ring.items (suc k) (omega arith) j within));
        }
