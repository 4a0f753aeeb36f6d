-- The list in the cells, under the three stores that a queue knows and under stores elsewhere.
use Rattle.std.proofs.Common.{◌≡◌, ℕ, suc, ◌+◌, ◌<◌, max, List, [], ◌∷◌, ◌++◌, length, ap, sym, ◌∙◌, inl, inr, arith}
use Rattle.std.proofs.lemmas.List.{get_or_append_left, get_or_push, length_push}
use Rattle.std.proofs.lemmas.Bool.{cases_lt}
use Rattle.iox_steps.specs.declared.site.Site.{Site}
use Rattle.iox_steps.specs.Accesses.{put, IsPlace}
use Rattle.iox_steps.specs.Sites.{cells, size, cell_at}
use Rattle.iox_steps.specs.Fits.{write_of, read_of, Ring}
use Rattle.iox_steps.proofs.Places.{put-same, put-other, mod_apart, cell_place}

-- nothing but the words of the queue counts
pub ring_frame : (site : Site) (word word' : ℕ → ℕ) (waiting : List ℕ) → ((at : ℕ) → IsPlace site.base (size site) at → word' at ≡ word at)
    → Ring site word waiting → Ring site word' waiting
ring_frame site word word' waiting same ring =
    let write_same = same site.base (omega arith, omega arith) in
    let read_same = same (site.base + 1) (omega arith, omega arith) in
    record {
      counts = write_same ∙ ring.counts ∙ ap (λ r. r + length waiting) (sym read_same);
      bounded = ring.bounded;
      items = λ k below.
          let bounded = ring.bounded in
          let in_cell = cell_place site (read_of site word + k) (omega arith) in
          rw read_same (same (cell_at site (read_of site word + k)) (omega (arith, in_cell.0), omega (arith, in_cell.1)) ∙ ring.items k below);
    }

module _ (site : Site) (word : ℕ → ℕ) where
  -- a store into the free cell
  pub ring_store : (waiting : List ℕ) (value : ℕ) → Ring site word waiting → length waiting < cells site
      → Ring site (put word (cell_at site (write_of site word)) value) waiting
  ring_store waiting value ring free =
      let cell = cell_at site (write_of site word) in
      let write_same = put-other word cell value site.base (omega arith) in
      let read_same = put-other word cell value (site.base + 1) (omega arith) in
      record {
        counts = write_same ∙ ring.counts ∙ ap (λ r. r + length waiting) (sym read_same);
        bounded = ring.bounded;
        items = λ k below.
            let counts = ring.counts in
            let apart = mod_apart (max 1 (cells site)) (read_of site word + k) (write_of site word) (omega arith) (omega arith) in
            rw read_same (put-other word cell value (cell_at site (read_of site word + k)) (omega arith) ∙ ring.items k below);
      }

  -- the write position continues, and the value in the free cell waits
  pub ring_publish : (waiting : List ℕ) (value next : ℕ) → Ring site word waiting → length waiting < cells site
      → word (cell_at site (write_of site word)) ≡ value → next ≡ write_of site word + 1
      → Ring site (put word site.base next) (waiting ++ value ∷ [])
  ring_publish waiting value next ring free stands is_next =
      let counts = ring.counts in
      let more = length_push waiting value in
      let write_new = put-same word site.base next in
      let read_same = put-other word site.base next (site.base + 1) (omega arith) in
      record {
        counts = omega arith;
        bounded = omega arith;
        items = λ k below.
            let elsewhere = put-other word site.base next (cell_at site (read_of site word + k)) (omega arith) in
            rw read_same (elsewhere ∙ elim (cases_lt k (length waiting)) [
              | inl old ↦ ring.items k old ∙ sym (get_or_append_left waiting (value ∷ []) 0 k old)
              | inr new ↦ (
                  let at : read_of site word + k ≡ write_of site word = omega arith in
                  rw at (stands ∙ sym (get_or_push waiting value 0 k (omega arith)))
                  )
            ]);
      }

  -- the read position continues, and the first is taken
  pub ring_take : (first : ℕ) (others : List ℕ) (next : ℕ) → Ring site word (first ∷ others) → next ≡ read_of site word + 1
      → Ring site (put word (site.base + 1) next) others
  ring_take first others next ring is_next =
      let bounded = ring.bounded in
      let counts = ring.counts in
      let read_new = put-same word (site.base + 1) next in
      let write_same = put-other word (site.base + 1) next site.base (omega arith) in
      record {
        counts = omega arith;
        bounded = omega arith;
        items = λ k below.
            let elsewhere = put-other word (site.base + 1) next (cell_at site (next + k)) (omega arith) in
            let at : next + k ≡ read_of site word + suc k = omega arith in
            rw read_new (elsewhere ∙ rw at (ring.items (suc k) (omega arith)));
      }
