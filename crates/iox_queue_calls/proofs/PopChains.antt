-- A pop, and looks at fullness and at emptiness, that are played alone.
use Rattle.std.proofs.Common.{◌≡◌, ℕ, ◌+◌, ◌≤◌, List, [], ◌∷◌, length, get_or, refl, sym, arith, Bool, true, false, Some, None, eq-eqb, nat_le}
use Rattle.std.proofs.lemmas.Bool.{le-leb, lt-leb}
use Rattle.iox_steps.specs.declared.site.QueueKind.{QueueKind}
use Rattle.iox_steps.specs.declared.site.QueueKind.TheVariants.{Index, Overflowing}
use Rattle.iox_steps.specs.declared.site.Site.{Site}
use Rattle.iox_steps.specs.declared.side.QueueReply.TheVariants.{Full, Popped, Empty}
use Rattle.iox_steps.specs.declared.pop.Pop.TheVariants as pop
use Rattle.iox_steps.specs.declared.pop.EmptyLook.TheVariants as empty_look
use Rattle.iox_steps.specs.declared.push.FullLook.TheVariants as full_look
use Rattle.iox_steps.specs.declared.side.Pushing.TheVariants as pushing
use Rattle.iox_steps.specs.declared.side.Popping.TheVariants as popping
use Rattle.iox_steps.specs.Sites.{size, cell_at, is_empty}
use Rattle.iox_steps.specs.Accesses.{seen_by}
use Rattle.iox_steps.specs.Pops.{take_access, is_taken}
use Rattle.iox_steps.specs.Fits.{IsSeen}
use Rattle.iox_queue_steps.specs.declared.queue.Side.TheVariants.{Pusher, Popper}
use Rattle.iox_queue_calls.proofs.AloneLemmas.{ShowsAlone, ShowsAtRest, step_alone, Ended, goes_on, ends_here}
use Rattle.iox_queue_calls.proofs.PushChains.{state, full_is}

-- what was seen just now is the read position
seen_now : (site : Site) (word : ℕ → ℕ) (kind : QueueKind) → IsSeen site word kind (word (site.base + 1))
seen_now site word Index = refl
seen_now site word Overflowing = omega arith

-- nothing is in the list
abbrev pub is_nil : List ℕ → Bool
is_nil [] = true
is_nil (first ∷ others) = false

module _ (site : Site) (words : List ℕ) (room : site.base + size site ≤ length words) (write : ℕ) (hand : List ℕ) where
  -- the read position
  abbrev read : ℕ
  read = get_or words (site.base + 1) 0

  loads_read : (waiting : List ℕ) → ShowsAtRest site words (state write waiting hand)
      → ShowsAlone site words (Popper (popping.Pops pop.LoadsRead)) (state write waiting hand)
  loads_read waiting shows = (shows.0, record { some = shows.1.some; position = shows.1.position; ring = shows.1.ring; push = shows.1.push; pop = tt })

  loads_write : (waiting : List ℕ) → ShowsAtRest site words (state write waiting hand)
      → ShowsAlone site words (Popper (popping.Pops (pop.LoadsWrite read))) (state write waiting hand)
  loads_write waiting shows = (
    shows.0,
    record {
      some = shows.1.some;
      position = shows.1.position;
      ring = shows.1.ring;
      push = shows.1.push;
      pop =
          (seen_now site (λ place. get_or words place 0) site.kind, λ late. absurd (omega arith));
    },
  )

  -- the write position shows whether something waits
  none_is : ShowsAtRest site words (state write [] hand) → is_empty site read (get_or words site.base 0) ≡ true
  none_is shows = let counts = shows.1.ring.counts in le-leb _ _ (omega arith)

  some_is : (first : ℕ) (others : List ℕ) → ShowsAtRest site words (state write (first ∷ others) hand) → is_empty site read (get_or words site.base 0) ≡ false
  some_is first others shows = let counts = shows.1.ring.counts in lt-leb _ _ (omega arith)

  -- the exchange finds what was loaded
  hits : (kind : QueueKind) → is_taken kind read (seen_by (take_access kind (site.base + 1) read) (λ place. get_or words place 0)) ≡ true
  hits Index = refl
  hits Overflowing = eq-eqb read read refl

  pub pop_ends_empty : ShowsAtRest site words (state write [] hand) → Ended site words (Popper (popping.Pops pop.LoadsRead)) 2 (Popped None) (state write [] hand)
  pop_ends_empty shows =
      let before = state write [] hand in
      let loads_first = Popper (popping.Pops pop.LoadsRead) in
      let loads_second = Popper (popping.Pops (pop.LoadsWrite read)) in
      goes_on site words loads_first before room (loads_read [] shows) _ _ _ refl
      (ends_here site words loads_second before room (loads_write [] shows) _ _ (rw (none_is shows) refl) shows)

  pub pop_ends : (first : ℕ) (others : List ℕ) → ShowsAtRest site words (state write (first ∷ others) hand)
      → Ended site words (Popper (popping.Pops pop.LoadsRead)) 4 (Popped (Some first)) (state write others hand)
  pop_ends first others shows =
      let before = state write (first ∷ others) hand in
      let loads_first = Popper (popping.Pops pop.LoadsRead) in
      let loads_second = Popper (popping.Pops (pop.LoadsWrite read)) in
      let loads_cell = Popper (popping.Pops (pop.LoadsCell read (cell_at site read))) in
      let value = get_or words (cell_at site read) 0 in
      let takes = Popper (popping.Pops (pop.Takes read value)) in
      let more = some_is first others shows in
      let loaded = step_alone site words loads_second before room (loads_write (first ∷ others) shows) in
      let at_cell : ShowsAlone site words loads_cell before = rw more at loaded.shows in
      let at_take : ShowsAlone site words takes before = (step_alone site words loads_cell before room at_cell).shows in
      let taken = step_alone site words takes before room at_take in
      let is_first : value ≡ first = at_take.1.pop.2 refl in
      goes_on site words loads_first before room (loads_read (first ∷ others) shows) _ _ _ refl (
      goes_on site words loads_second before room (loads_write (first ∷ others) shows) _ _ _ (rw more refl) (rw more (
      goes_on site words loads_cell before room at_cell _ _ _ refl (
      ends_here site words takes before room at_take _ _ (rw (hits, is_first) refl) (rw hits at taken.shows)))))

  -- a look at emptiness
  looks_read : (waiting : List ℕ) → ShowsAtRest site words (state write waiting hand)
      → ShowsAlone site words (Popper (popping.Looks empty_look.LoadsRead)) (state write waiting hand)
  looks_read waiting shows = (shows.0, record { some = shows.1.some; position = shows.1.position; ring = shows.1.ring; push = shows.1.push; pop = tt })

  looks_write : (waiting : List ℕ) → ShowsAtRest site words (state write waiting hand)
      → ShowsAlone site words (Popper (popping.Looks (empty_look.LoadsWrite read))) (state write waiting hand)
  looks_write waiting shows = (
    shows.0,
    record {
      some = shows.1.some;
      position = shows.1.position;
      ring = shows.1.ring;
      push = shows.1.push;
      pop =
          (seen_now site (λ place. get_or words place 0) site.kind, λ late. absurd (omega arith));
    },
  )

  pub empty_look_ends : (waiting : List ℕ) → ShowsAtRest site words (state write waiting hand)
      → Ended site words (Popper (popping.Looks empty_look.LoadsRead)) 2 (Empty (is_nil waiting)) (state write waiting hand)
  empty_look_ends [] shows =
      let before = state write [] hand in
      goes_on site words (Popper (popping.Looks empty_look.LoadsRead)) before room (looks_read [] shows) _ _ _ refl
      (ends_here site words (Popper (popping.Looks (empty_look.LoadsWrite read))) before room (looks_write [] shows) _ _ (rw (none_is shows) refl) shows)
  empty_look_ends (first ∷ others) shows =
      let before = state write (first ∷ others) hand in
      goes_on site words (Popper (popping.Looks empty_look.LoadsRead)) before room (looks_read _ shows) _ _ _ refl
      (ends_here site words (Popper (popping.Looks (empty_look.LoadsWrite read))) before room (looks_write _ shows) _ _
      (rw (some_is first others shows) refl) shows)

  -- a look at fullness
  pub full_look_ends : (waiting : List ℕ) → ShowsAtRest site words (state write waiting hand)
      → Ended site words (Pusher (pushing.Looks full_look.LoadsWrite)) 2 (Full (nat_le site.capacity (length waiting))) (state write waiting hand)
  full_look_ends waiting shows =
      let before = state write waiting hand in
      let looks_first : ShowsAlone site words (Pusher (pushing.Looks full_look.LoadsWrite)) before =
      (shows.0, record { some = shows.1.some; position = shows.1.position; ring = shows.1.ring; push = shows.1.push; pop = shows.1.pop }) in
      let looks_second : ShowsAlone site words (Pusher (pushing.Looks (full_look.LoadsRead write))) before =
      (shows.0, record { some = shows.1.some; position = shows.1.position; ring = shows.1.ring; push = (shows.1.push, sym shows.0); pop = shows.1.pop }) in
      goes_on site words (Pusher (pushing.Looks full_look.LoadsWrite)) before room looks_first _ _ _ refl (rw shows.0
      (ends_here site words (Pusher (pushing.Looks (full_look.LoadsRead write))) before room looks_second _ _
      (rw (full_is site words room 0 write waiting hand shows) refl) shows))
