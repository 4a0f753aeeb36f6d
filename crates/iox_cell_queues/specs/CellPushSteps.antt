-- Each access of the pushing party is one event, and the words fit after it.
use Rattle.std.proofs.Common.{◌≡◌, ℕ, ◌+◌, ◌<◌, ◌≤◌, List, [], ◌∷◌, ◌++◌, length, get_or, refl, ap, sym, ◌∙◌, inl, inr, arith, eqb, Option, nat_le}
use Rattle.std.proofs.lemmas.List.{length_push}
use Rattle.std.proofs.lemmas.Bool.{cases_Bool, cases_lt, leb-true, leb-false, eqb-true, eqb-false}
use Rattle.iox_steps.specs.declared.push.FullLook.TheVariants as full_look
use Rattle.iox_steps.specs.Accesses.{put, IsPlace}
use Rattle.iox_steps.specs.Sites.{last_position}
use Rattle.iox_steps.proofs.Places.{put-same, put-other}
use Rattle.iox_cell_queues.specs.declared.site.CellSite.{CellSite}
use Rattle.iox_cell_queues.specs.declared.push.CellPush.TheVariants as push
use Rattle.iox_cell_queues.specs.declared.side.CellPushing.{CellPushing}
use Rattle.iox_cell_queues.specs.declared.side.CellPushing.TheVariants as pushing
use Rattle.iox_cell_queues.specs.declared.side.CellPopping.{CellPopping}
use Rattle.iox_cell_queues.specs.Cells.{size, cell_at, is_full}
use Rattle.iox_cell_queues.specs.CellPrograms.{store_from}
use Rattle.iox_cell_queues.specs.CellFits.{write_of, read_of, Publishes, PushKnows, PushingKnows, Fits}
use Rattle.iox_cell_queues.specs.CellLaws.{PushingKeeps}
use Rattle.iox_cell_queues.specs.CellPlaces.{word_site}
use Rattle.iox_cell_queues.specs.CellRings.{item-push_old, ring_store, ring_publish}
use Rattle.iox_cell_queues.specs.CellKnowledge.{pop_knows_more}

module _ {A : Type 0} (words : A → List ℕ) (of_words : List ℕ → Option A) (site : CellSite) where
  -- what holds of a push once so many words are stored
  stores_on : (word : ℕ → ℕ) (waiting : List A) (value : A) (cell next stored : ℕ) → cell ≡ cell_at site (write_of site word) → stored ≤ site.width
      → Publishes words of_words site word waiting value next stored
      → PushKnows words of_words site word waiting (store_from site value cell next stored)
  stores_on word waiting value cell next stored at few knows = elim (cases_Bool (nat_le site.width stored)) [
    | inl all ↦ (
        let is : stored ≡ site.width = omega (arith, leb-true _ _ all) in
        let all_stored = rw is at knows in
        rw all all_stored
        )
    | inr some ↦ (let less : stored < site.width = omega (arith, leb-false _ _ some) in rw some (knows, at, less))
  ]

  -- the write position is a word of the queue
  at_write : IsPlace site.base (size site) site.base
  at_write = (omega arith, omega arith)

  -- the read position is a word of the queue
  at_read : IsPlace site.base (size site) (site.base + 1)
  at_read = (omega arith, omega arith)

  module _ {width : ℕ} (word : ℕ → ℕ) (waiting : List A) (pops : CellPopping width) where
    -- the words fit where only the pushing party changed
    pushes_on : {pushes pushes' : CellPushing A} → Fits words of_words site word waiting pushes pops
        → PushingKnows words of_words site word waiting pushes' → Fits words of_words site word waiting pushes' pops
    pushes_on fits knows = record { position = fits.position; ring = fits.ring; push = knows; pop = fits.pop }

    -- the load of the read position by a push
    loads_read : (value : A) (write : ℕ) → let pushes : CellPushing A = pushing.Pushes (push.LoadsRead value write) in
        Fits words of_words site word waiting pushes pops → PushingKeeps words of_words site word waiting pushes pops
    loads_read value write fits =
        let at = fits.push.1 in
        let whole = fits.push.0 in
        let counts = fits.ring.counts in
        let bounded = fits.ring.bounded in
        let position = fits.position in
        elim (cases_Bool (eqb write last_position)) [
          | inl last ↦ rw last (at_read, sym at ∙ eqb-true _ _ last, refl, pushes_on fits tt, inr refl)
          | inr on ↦ (
              let other = eqb-false _ _ on in
              elim (cases_Bool (is_full site (read_of site word) write)) [
                | inl full ↦ rw (on, full) (at_read, omega (arith, leb-true _ _ full), refl, pushes_on fits tt, inl refl)
                | inr room ↦ (
                    let free : length waiting < site.capacity = omega (arith, leb-false _ _ room) in
                    let knows : Publishes words of_words site word waiting value (write + 1) 0 = record {
                      is_next = ap (λ n. n + 1) at;
                      in_range = omega arith;
                      free = free;
                      whole = whole;
                      holds = λ i below. absurd (omega arith);
                    } in
                    rw (on, room) (
                      at_read,
                      free,
                      refl,
                      pushes_on fits
                          (stores_on word waiting value (cell_at site write) (write + 1) 0 (ap (cell_at site) at) (omega arith) knows),
                      tt,
                    )
                    )
              ]
              )
        ]

    -- the store of a word of the value
    stores_word : (value : A) (cell next stored : ℕ) → let pushes : CellPushing A = pushing.Pushes (push.StoresWord value cell next stored) in
        Fits words of_words site word waiting pushes pops → PushingKeeps words of_words site word waiting pushes pops
    stores_word value cell next stored fits =
        let knows = fits.push.0 in
        let at = fits.push.1 in
        let less = fits.push.2 in
        let free = knows.free in
        let here = cell_at site (write_of site word) + stored in
        let there = get_or (words value) stored 0 in
        let stands = word_site site (write_of site word) stored (omega arith) less in
        let word' = put word here there in
        let write_same = put-other word here there site.base (omega arith) in
        let read_same = put-other word here there (site.base + 1) (omega arith) in
        let more : Publishes words of_words site word' waiting value next (stored + 1) = record {
          is_next = knows.is_next ∙ ap (λ n. n + 1) (sym write_same);
          in_range = knows.in_range;
          free = free;
          whole = knows.whole;
          holds = λ i below. rw write_same (elim (cases_lt i stored) [
            | inl old ↦ put-other word here there (cell_at site (write_of site word) + i) (omega arith) ∙ knows.holds i old
            | inr new ↦ (let is : i ≡ stored = omega arith in rw is (put-same word here there))
          ]);
        } in
        rw at (
          (omega (arith, stands.0), omega (arith, stands.1)),
          tt,
          write_same,
          record {
            position = rw write_same fits.position;
            ring = ring_store words of_words site word waiting stored there fits.ring free less;
            push = stores_on word' waiting value (cell_at site (write_of site word)) next (stored + 1) (ap (cell_at site) (sym write_same))
                (omega arith) more;
            pop = pop_knows_more words of_words site word word' waiting waiting read_same (omega arith) (λ _. refl) pops fits.pop;
          },
          tt,
        )

    -- the store of the write position, by which the value is published
    stores_write : (value : A) (next : ℕ) → let pushes : CellPushing A = pushing.Pushes (push.StoresWrite value next) in
        Fits words of_words site word waiting pushes pops → PushingKeeps words of_words site word waiting pushes pops
    stores_write value next fits =
        let knows = fits.push in
        let write_new = put-same word site.base next in
        let read_same = put-other word site.base next (site.base + 1) (omega arith) in (
          at_write,
          (knows.free, omega (arith, knows.is_next, knows.in_range)),
          write_new ∙ knows.is_next,
          record {
            position = rw write_new knows.in_range;
            ring = ring_publish words of_words site word waiting value next fits.ring knows.free knows.whole knows.holds knows.is_next;
            push = tt;
            pop = pop_knows_more words of_words site word (put word site.base next) waiting (waiting ++ value ∷ []) read_same
                (omega (arith, length_push waiting value)) (λ some. item-push_old words of_words waiting value 0 some) pops fits.pop;
          },
          refl,
        )

    -- the load of the read position by a look at fullness
    looks_at_read : (write : ℕ) → let pushes : CellPushing A = pushing.Looks (full_look.LoadsRead write) in
        Fits words of_words site word waiting pushes pops → PushingKeeps words of_words site word waiting pushes pops
    looks_at_read write fits =
        let at = fits.push in
        let counts = fits.ring.counts in
        let bounded = fits.ring.bounded in
        elim (cases_Bool (is_full site (read_of site word) write)) [
          | inl full ↦ rw full (at_read, omega (arith, leb-true _ _ full), refl, pushes_on fits tt, refl)
          | inr room ↦ rw room (at_read, omega (arith, leb-false _ _ room), refl, pushes_on fits tt, refl)
        ]

    -- each access of the pushing party keeps its queue
    pub pushing_step : (pushes : CellPushing A) → Fits words of_words site word waiting pushes pops
        → PushingKeeps words of_words site word waiting pushes pops
    pushing_step pushing.AtRest fits = (tt, tt, refl, fits, tt)
    pushing_step (pushing.Pushes (push.LoadsWrite value)) fits = (at_write, tt, refl, pushes_on fits (fits.push, refl), tt)
    pushing_step (pushing.Pushes (push.LoadsRead value write)) fits = loads_read value write fits
    pushing_step (pushing.Pushes (push.StoresWord value cell next stored)) fits = stores_word value cell next stored fits
    pushing_step (pushing.Pushes (push.StoresWrite value next)) fits = stores_write value next fits
    pushing_step (pushing.Looks full_look.LoadsWrite) fits = (at_write, tt, refl, pushes_on fits refl, tt)
    pushing_step (pushing.Looks (full_look.LoadsRead write)) fits = looks_at_read write fits
