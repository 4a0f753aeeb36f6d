-- A pop, and a look at emptiness, that are played alone.
use Rattle.std.proofs.Common.{◌≡◌, ℕ, zero, suc, ◌+◌, ◌≤◌, List, [], ◌∷◌, length, get_or, replicate, refl, arith, Bool, true, false, Some, None, nat_le}
use Rattle.std.proofs.lemmas.Bool.{le-leb, lt-leb}
use Rattle.iox_words.specs.declared.word_list.Words.{Ghosts}
use Rattle.iox_steps.specs.declared.pop.EmptyLook.TheVariants as empty_look
use Rattle.iox_cell_queues.specs.declared.site.CellSite.{CellSite}
use Rattle.iox_cell_queues.specs.declared.pop.CellPop.{CellPop}
use Rattle.iox_cell_queues.specs.declared.pop.CellPop.TheVariants as pop
use Rattle.iox_cell_queues.specs.declared.event.CellReply.TheVariants.{Popped, Empty}
use Rattle.iox_cell_queues.specs.declared.side.CellPopping.TheVariants as popping
use Rattle.iox_cell_queues.specs.Cells.{size, cell_at, is_empty}
use Rattle.iox_cell_queues.specs.CellPrograms.{load_from}
use Rattle.iox_cell_queues.specs.CellPopSteps.{empty_is}
use Rattle.iox_cell_queues.specs.declared.queue.CellSide.{CellSide}
use Rattle.iox_cell_queues.specs.declared.queue.CellSide.TheVariants.{Popper}
use Rattle.iox_cell_queues.proofs.AloneLemmas.{ShowsAlone, ShowsAtRest, step_alone, Ended, goes_on, ends_here}
use Rattle.iox_cell_queues.proofs.PushChains.{state}

-- nothing is in the list
abbrev pub is_nil : {A : Type 0} → List A → Bool
is_nil [] = true
is_nil (first ∷ others) = false

module _ {A : Type 0} (width : ℕ) (W : Ghosts A) (site : CellSite) where
  -- inside a pop
  abbrev at : CellPop width → CellSide A width
  at site = Popper (popping.Pops site)

  -- the words from this one on, and then the read position
  loads : (left : ℕ) (list : List ℕ) → site.base + size site ≤ length list → (read cell : ℕ) (got : List ℕ) (loaded write : ℕ) (first : A) (others : List A) → loaded + left ≡ site.width
      → ShowsAlone width W site list (at (load_from site read cell got loaded)) (state write (first ∷ others))
      → Ended width W site list (at (load_from site read cell got loaded)) (suc left) (Popped (Some first)) (state write others)
  loads zero list room read cell got loaded write first others count shows =
      let all = le-leb site.width loaded (omega arith) in
      let here : ShowsAlone width W site list (at (pop.StoresRead read got)) (state write (first ∷ others)) = rw all at shows in
      let gives : W.of_words got ≡ Some first = rw here.1.pop.2 here.1.ring.whole.0.1 in
      let did = step_alone width W site list (at (pop.StoresRead read got)) (state write (first ∷ others)) room here in
      rw all (ends_here width W site list (at (pop.StoresRead read got)) (state write (first ∷ others)) room here _ _ (rw gives refl) (rw gives at did.shows))
  loads (suc left) list room read cell got loaded write first others count shows =
      let more = lt-leb site.width loaded (omega arith) in
      let here : ShowsAlone width W site list (at (pop.LoadsWord read cell got loaded)) (state write (first ∷ others)) = rw more at shows in
      let did = step_alone width W site list (at (pop.LoadsWord read cell got loaded)) (state write (first ∷ others)) room here in
      rw more (goes_on width W site list (at (pop.LoadsWord read cell got loaded)) (state write (first ∷ others)) room here (suc left) _ _ refl
      (loads left _ did.room read cell _ (loaded + 1) write first others (omega arith) did.shows))

  module _ (list : List ℕ) (room : site.base + size site ≤ length list) (write : ℕ) where
    -- the read position
    abbrev read : ℕ
    read = get_or list (site.base + 1) 0

    -- the write position shows whether something waits
    shown : (waiting : List A) → ShowsAtRest width W site list (state write waiting) → is_empty site read (get_or list site.base 0) ≡ nat_le (length waiting) 0
    shown waiting shows = empty_is site (λ at. get_or list at 0) read (length waiting) refl shows.1.ring.counts shows.1.ring.bounded

    pub pop_ends_empty : ShowsAtRest width W site list (state write []) → Ended width W site list (at pop.LoadsRead) 2 (Popped None) (state write [])
    pop_ends_empty shows =
        let first : ShowsAlone width W site list (at pop.LoadsRead) (state write []) = (shows.0, record { position = shows.1.position; ring = shows.1.ring; push = tt; pop = tt }) in
        let second : ShowsAlone width W site list (at (pop.LoadsWrite read)) (state write []) = (shows.0, record { position = shows.1.position; ring = shows.1.ring; push = tt; pop = refl }) in
        goes_on width W site list (at pop.LoadsRead) (state write []) room first _ _ _ refl
        (ends_here width W site list (at (pop.LoadsWrite read)) (state write []) room second _ _ (rw (shown [] shows) refl) shows)

    pub pop_ends : (oldest : A) (others : List A) → ShowsAtRest width W site list (state write (oldest ∷ others)) → Ended width W site list (at pop.LoadsRead) (3 + site.width) (Popped (Some oldest)) (state write others)
    pop_ends oldest others shows =
        let before = state write (oldest ∷ others) in
        let count : 3 + site.width ≡ suc (suc (suc site.width)) = omega arith in
        let some : nat_le (length (oldest ∷ others)) 0 ≡ false = lt-leb _ _ (omega arith) in
        let first : ShowsAlone width W site list (at pop.LoadsRead) before = (shows.0, record { position = shows.1.position; ring = shows.1.ring; push = tt; pop = tt }) in
        let second : ShowsAlone width W site list (at (pop.LoadsWrite read)) before = (shows.0, record { position = shows.1.position; ring = shows.1.ring; push = tt; pop = refl }) in
        let did = step_alone width W site list (at (pop.LoadsWrite read)) before room second in
        let third : ShowsAlone width W site list (at (load_from site read (cell_at site read) (replicate site.width 0) 0)) before = rw (shown (oldest ∷ others) shows, some) at did.shows in
        rw count (goes_on width W site list (at pop.LoadsRead) before room first _ _ _ refl
        (goes_on width W site list (at (pop.LoadsWrite read)) before room second _ _ _ (rw (shown (oldest ∷ others) shows, some) refl)
        (rw (shown (oldest ∷ others) shows, some) (loads site.width list room read (cell_at site read) (replicate site.width 0) 0 write oldest others (omega arith) third))))

    -- a look at emptiness
    nothing : (waiting : List A) → nat_le (length waiting) 0 ≡ is_nil waiting
    nothing [] = refl
    nothing (first ∷ others) = lt-leb _ _ (omega arith)

    pub empty_look_ends : (waiting : List A) → ShowsAtRest width W site list (state write waiting) → Ended width W site list (Popper (popping.Looks empty_look.LoadsRead)) 2 (Empty (is_nil waiting)) (state write waiting)
    empty_look_ends waiting shows =
        let before = state write waiting in
        let first : ShowsAlone width W site list (Popper (popping.Looks empty_look.LoadsRead)) before = (shows.0, record { position = shows.1.position; ring = shows.1.ring; push = tt; pop = tt }) in
        let second : ShowsAlone width W site list (Popper (popping.Looks (empty_look.LoadsWrite read))) before = (shows.0, record { position = shows.1.position; ring = shows.1.ring; push = tt; pop = refl }) in
        goes_on width W site list (Popper (popping.Looks empty_look.LoadsRead)) before room first _ _ _ refl
        (ends_here width W site list (Popper (popping.Looks (empty_look.LoadsWrite read))) before room second _ _ (rw (shown waiting shows, nothing waiting) refl) shows)
