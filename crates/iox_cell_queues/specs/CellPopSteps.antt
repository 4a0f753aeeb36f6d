-- Each access of the popping party is one event, and the words fit after it.
use Rattle.std.proofs.Common.{◌≡◌, ℕ, ◌+◌, ◌<◌, ◌≤◌, List, [], ◌∷◌, length, get_or, set, replicate, refl, sym, ◌∙◌, inl, inr, arith, Option, Some, nat_le}
use Rattle.std.proofs.Common.{length-set, get_or-set_same, get_or-set_other}
use Rattle.std.proofs.lemmas.List.{nil_from_length, length-replicate}
use Rattle.std.proofs.lemmas.Bool.{cases_Bool, cases_lt, leb-true, leb-false, ne_eqb, lt-leb}
use Rattle.std.proofs.lemmas.Grind.{same_number_lists}
use Rattle.iox_steps.specs.declared.pop.EmptyLook.TheVariants as empty_look
use Rattle.iox_steps.specs.Accesses.{put, IsPlace}
use Rattle.iox_steps.specs.Sites.{position_after}
use Rattle.iox_steps.proofs.Places.{put-other}
use Rattle.iox_cell_queues.specs.declared.site.CellSite.{CellSite}
use Rattle.iox_cell_queues.specs.declared.pop.CellPop.TheVariants as pop
use Rattle.iox_cell_queues.specs.declared.side.CellPushing.{CellPushing}
use Rattle.iox_cell_queues.specs.declared.side.CellPopping.{CellPopping}
use Rattle.iox_cell_queues.specs.declared.side.CellPopping.TheVariants as popping
use Rattle.iox_cell_queues.specs.Cells.{size, cell_at, is_empty}
use Rattle.iox_cell_queues.specs.CellPrograms.{load_from}
use Rattle.iox_cell_queues.specs.CellFits.{write_of, read_of, item, Ring, PopKnows, PoppingKnows, Fits}
use Rattle.iox_cell_queues.specs.CellLaws.{PoppingKeeps}
use Rattle.iox_cell_queues.specs.CellPlaces.{word_site}
use Rattle.iox_cell_queues.specs.CellRings.{ring_take}
use Rattle.iox_cell_queues.specs.CellKnowledge.{push_knows_less}

-- whether the queue is empty, as a look at the write position finds it
pub empty_is : (site : CellSite) (word : ℕ → ℕ) (read count : ℕ) → read ≡ read_of site word → write_of site word ≡ read_of site word + count
    → count ≤ site.capacity → is_empty site read (write_of site word) ≡ nat_le count 0
empty_is site word read count is counts bounded = elim (cases_Bool (nat_le (write_of site word) read)) [
  | inl empty ↦ (let none : count ≡ 0 = omega (arith, leb-true _ _ empty) in rw (empty, none) refl)
  | inr more ↦ (
      let some : 0 < count = omega (arith, leb-false _ _ more) in
      rw (more, ne_eqb site.capacity 0 (omega arith), lt-leb count 0 some) refl
      )
]

module _ {A : Type 0} (words : A → List ℕ) (of_words : List ℕ → Option A) (site : CellSite) where
  -- the write position is a word of the queue
  at_write : IsPlace site.base (size site) site.base
  at_write = (omega arith, omega arith)

  -- the read position is a word of the queue
  at_read : IsPlace site.base (size site) (site.base + 1)
  at_read = (omega arith, omega arith)

  -- the words of the oldest value are as many as a cell has
  oldest_is_wide : (word : ℕ → ℕ) (waiting : List A) → Ring words of_words site word waiting → 0 < length waiting → length (item words waiting 0) ≡ site.width
  oldest_is_wide word [] ring some = absurd (omega arith)
  oldest_is_wide word (first ∷ others) ring some = ring.whole.0.0

  -- what holds of a pop once so many words are loaded
  loads_on : (width : ℕ) → (word : ℕ → ℕ) (waiting : List A) (read cell : ℕ) (got : List ℕ) (loaded : ℕ) → Ring words of_words site word waiting
      → read ≡ read_of site word → 0 < length waiting → cell ≡ cell_at site read
      → loaded ≤ site.width → length got ≡ site.width → ((i : ℕ) → i < loaded → get_or got i 0 ≡ get_or (item words waiting 0) i 0)
      → PopKnows words of_words site word {width = width} waiting (load_from site read cell got loaded)
  loads_on width word waiting read cell got loaded ring is some at few wide first = elim (cases_Bool (nat_le site.width loaded)) [
    | inl all ↦ (
        let same : got ≡ item words waiting 0 = same_number_lists got (item words waiting 0) (wide ∙ sym (oldest_is_wide word waiting ring some))
        (λ i below. first i (omega (arith, leb-true _ _ all))) in
        rw all (is, some, same)
        )
    | inr more ↦ (let less : loaded < site.width = omega (arith, leb-false _ _ more) in rw more (is, some, at, less, wide, first))
  ]

  module _ {width : ℕ} (word : ℕ → ℕ) (waiting : List A) (pushes : CellPushing A) where
    -- the words fit where only the popping party changed
    pops_on : {pops pops' : CellPopping width} → Fits words of_words site word waiting pushes pops → PoppingKnows words of_words site word waiting pops'
        → Fits words of_words site word waiting pushes pops'
    pops_on fits knows = record { position = fits.position; ring = fits.ring; push = fits.push; pop = knows }

    -- the load of the write position by a pop
    loads_write : (read : ℕ) → let pops : CellPopping width = popping.Pops (pop.LoadsWrite read) in
        Fits words of_words site word waiting pushes pops → PoppingKeeps words of_words site word waiting pushes pops
    loads_write read fits =
        let counts = fits.ring.counts in
        let is = fits.pop in
        let here = empty_is site word read (length waiting) is counts fits.ring.bounded in
        elim (cases_Bool (nat_le (length waiting) 0)) [
          | inl empty ↦ rw (here, empty) (at_write, nil_from_length waiting (omega (arith, leb-true _ _ empty)), refl, pops_on fits tt, refl)
          | inr more ↦ (
              let some : 0 < length waiting = omega (arith, leb-false _ _ more) in
              rw (here, more) (
                at_write,
                some,
                refl,
                pops_on fits
                    (loads_on width word waiting read (cell_at site read) (replicate site.width 0) 0 fits.ring is some refl (omega arith)
                    (length-replicate site.width 0) (λ i below. absurd (omega arith))),
                tt,
              )
              )
        ]

    -- the load of the write position by a look at emptiness
    looks_at_write : (read : ℕ) → let pops : CellPopping width = popping.Looks (empty_look.LoadsWrite read) in
        Fits words of_words site word waiting pushes pops → PoppingKeeps words of_words site word waiting pushes pops
    looks_at_write read fits =
        let counts = fits.ring.counts in
        let is = fits.pop in
        let here = empty_is site word read (length waiting) is counts fits.ring.bounded in
        elim (cases_Bool (nat_le (length waiting) 0)) [
          | inl empty ↦ rw (here, empty) (at_write, nil_from_length waiting (omega (arith, leb-true _ _ empty)), refl, pops_on fits tt, refl)
          | inr more ↦ rw (here, more) (at_write, omega (arith, leb-false _ _ more), refl, pops_on fits tt, refl)
        ]

    -- the load of a word of the oldest value
    loads_word : (read cell : ℕ) (got : List ℕ) (loaded : ℕ) → let pops : CellPopping width = popping.Pops (pop.LoadsWord read cell got loaded) in
        Fits words of_words site word waiting pushes pops → PoppingKeeps words of_words site word waiting pushes pops
    loads_word read cell got loaded fits =
        let is = fits.pop.0 in
        let some = fits.pop.1 in
        let at = fits.pop.2 in
        let less = fits.pop.3 in
        let wide = fits.pop.4 in
        let bounded = fits.ring.bounded in
        let stands = word_site site read loaded (omega arith) less in
        let here : read_of site word + 0 ≡ read = omega arith in
        let seen : word (cell + loaded) ≡ get_or (item words waiting 0) loaded 0 = rw at (rw here at (fits.ring.items 0 some loaded less)) in (
          (omega (arith, stands.0), omega (arith, stands.1)),
          tt,
          refl,
          pops_on fits (loads_on width word waiting read cell (set got loaded (word (cell + loaded))) (loaded + 1) fits.ring is some at (omega arith)
              (length-set got loaded _ ∙ wide) (λ i below. elim (cases_lt i loaded) [
                | inl old ↦ get_or-set_other got loaded i (word (cell + loaded)) 0 (omega arith) ∙ fits.pop.5 i old
                | inr new ↦ (let last : i ≡ loaded = omega arith in rw last (get_or-set_same got loaded (word (cell + loaded)) 0 (omega arith) ∙ seen))
              ])),
          tt,
        )

  -- the store of the read position, by which the oldest value is taken
  stores_read : {width : ℕ} → (word : ℕ → ℕ) (waiting : List A) (pushes : CellPushing A) (read : ℕ) (got : List ℕ)
      → let pops : CellPopping width = popping.Pops (pop.StoresRead read got) in
      Fits words of_words site word waiting pushes pops → PoppingKeeps words of_words site word waiting pushes pops
  stores_read word [] pushes read got fits = let some = fits.pop.1 in absurd (omega arith)
  stores_read word (first ∷ others) pushes read got fits =
      let counts = fits.ring.counts in
      let position = fits.position in
      let is = fits.pop.0 in
      let given : of_words got ≡ Some first = rw fits.pop.2 fits.ring.whole.0.1 in
      let moved : position_after read ≡ read_of site word + 1 = omega arith in
      let write_same = put-other word (site.base + 1) (position_after read) site.base (omega arith) in
      rw given (
        at_read,
        refl,
        write_same,
        record {
          position = rw write_same position;
          ring = ring_take words of_words site word first others (position_after read) fits.ring moved;
          push = push_knows_less words of_words site word (put word (site.base + 1) (position_after read)) (first ∷ others) others write_same (omega arith)
              (λ _ position i inside. put-other word (site.base + 1) (position_after read) (cell_at site position + i) (omega arith)) pushes fits.push;
          pop = tt;
        },
        refl,
      )

  -- each access of the popping party keeps its queue
  pub popping_step : {width : ℕ} → (word : ℕ → ℕ) (waiting : List A) (pushes : CellPushing A) (pops : CellPopping width)
      → Fits words of_words site word waiting pushes pops → PoppingKeeps words of_words site word waiting pushes pops
  popping_step word waiting pushes popping.AtRest fits = (tt, tt, refl, fits, tt)
  popping_step word waiting pushes (popping.Pops pop.LoadsRead) fits = (at_read, tt, refl, pops_on word waiting pushes fits refl, tt)
  popping_step word waiting pushes (popping.Pops (pop.LoadsWrite read)) fits = loads_write word waiting pushes read fits
  popping_step word waiting pushes (popping.Pops (pop.LoadsWord read cell got loaded)) fits = loads_word word waiting pushes read cell got loaded fits
  popping_step word waiting pushes (popping.Pops (pop.StoresRead read got)) fits = stores_read word waiting pushes read got fits
  popping_step word waiting pushes (popping.Looks empty_look.LoadsRead) fits = (at_read, tt, refl, pops_on word waiting pushes fits refl, tt)
  popping_step word waiting pushes (popping.Looks (empty_look.LoadsWrite read)) fits = looks_at_write word waiting pushes read fits
