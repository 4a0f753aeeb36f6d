-- Each access of the party that pushes keeps what the words say, and is one event.
use Rattle.std.proofs.Common.{◌≡◌, ℕ, ◌+◌, ◌^◌, ◌<◌, ◌≤◌, List, [], ◌∷◌, ◌++◌, length, refl, ap, sym, ◌∙◌, inl, inr, arith}
use Rattle.std.proofs.Common.{eqb, true, false, Bool, Option, Some, None}
use Rattle.std.proofs.lemmas.List.{get_or_append_left, length_push}
use Rattle.std.proofs.lemmas.Bool.{cases_Bool, leb-true, leb-false, eqb-true, eqb-false}
use Rattle.iox_steps.specs.declared.site.QueueKind.{QueueKind}
use Rattle.iox_steps.specs.declared.site.QueueKind.TheVariants.{Index, Overflowing}
use Rattle.iox_steps.specs.declared.site.Site.{Site}
use Rattle.iox_steps.specs.declared.push.Push.TheVariants as push
use Rattle.iox_steps.specs.declared.push.FullLook.TheVariants as full_look
use Rattle.iox_steps.specs.declared.side.Pushing.{Pushing}
use Rattle.iox_steps.specs.declared.side.Pushing.TheVariants as pushing
use Rattle.iox_steps.specs.declared.side.Popping.{Popping}
use Rattle.iox_steps.specs.Accesses.{put, word_after, IsPlace}
use Rattle.iox_steps.specs.Sites.{cells, cell_at, last_position, position_after, is_full}
use Rattle.iox_steps.specs.Pushes.{is_refused}
use Rattle.iox_steps.specs.Events.{rest, front, IsTrueOf, waiting_after, hand_after}
use Rattle.iox_steps.specs.Fits.{write_of, read_of, Ring, RoomKnows, PushingKnows, PoppingKnows, Fits}
use Rattle.iox_steps.specs.Laws.{Turn, pushing_turn}
use Rattle.iox_steps.proofs.Places.{put-same, put-other, cases_kind, cell_place, cells-overflowing}
use Rattle.iox_steps.proofs.Rings.{ring_store, ring_publish, ring_take}
use Rattle.iox_steps.proofs.Knowledge.{free_cell, popping_knows_more, popping_knows_evicted}

-- a turn's event is true, and the words after it fit
abbrev pub StepsTo : Site → (ℕ → ℕ) → List ℕ → List ℕ → Turn → Type 0
StepsTo site word waiting hand turn = IsTrueOf site (write_of site word) waiting hand turn.event
    × Fits site (word_after turn.access word) (waiting_after turn.event waiting) (hand_after turn.event waiting hand) turn.pushes turn.pops

-- at the last position every push is refused
pub refused_at_end : (kind : QueueKind) (full : Bool) → is_refused kind true full ≡ true
refused_at_end Index full = refl
refused_at_end Overflowing full = refl

-- a queue with room refuses none
pub welcome : (kind : QueueKind) → is_refused kind false false ≡ false
welcome Index = refl
welcome Overflowing = refl

-- a full one refuses unless a push may overflow
pub refused_when_full : (kind : QueueKind) → kind ≡ Index → is_refused kind false true ≡ true
refused_when_full kind is = ap (λ k. is_refused k false true) is

pub overflows : (kind : QueueKind) → kind ≡ Overflowing → is_refused kind false true ≡ false
overflows kind is = ap (λ k. is_refused k false true) is

-- the read position continues, by whoever moves it
module _ (site : Site) (word : ℕ → ℕ) (first : ℕ) (others : List ℕ) (ring : Ring site word (first ∷ others)) (position : write_of site word < 2 ^ 64) where
  pub moved_on : position_after (read_of site word) ≡ read_of site word + 1
  moved_on = let counts = ring.counts in omega arith

  pub taken : Ring site (put word (site.base + 1) (position_after (read_of site word))) others
  taken = ring_take site word first others _ ring moved_on

  pub write_kept : write_of site (put word (site.base + 1) (position_after (read_of site word))) ≡ write_of site word
  write_kept = put-other word (site.base + 1) _ site.base (omega arith)

  pub read_moved : read_of site (put word (site.base + 1) (position_after (read_of site word))) ≡ read_of site word + 1
  read_moved = put-same word (site.base + 1) _ ∙ moved_on

  pub cells_kept : (at : ℕ) → IsPlace (site.base + 2) (cells site) at → put word (site.base + 1) (position_after (read_of site word)) at ≡ word at
  cells_kept at place = let low = place.0 in put-other word (site.base + 1) _ at (omega arith)

  -- the first stands in the cell of the read position
  pub first_stands : word (cell_at site (read_of site word)) ≡ first
  first_stands = let here : read_of site word + 0 ≡ read_of site word = omega arith in rw here at (ring.items 0 (omega arith))

module _ (site : Site) (word : ℕ → ℕ) where
  -- the party that pushes is elsewhere, and has something else in hand
  pushes_on : {waiting hand hand' : List ℕ} {pushes pushes' : Pushing} {pops : Popping} → Fits site word waiting hand pushes pops
      → PushingKnows site word waiting hand' pushes' → Fits site word waiting hand' pushes' pops
  pushes_on fits knows = record { some = fits.some; position = fits.position; ring = fits.ring; push = knows; pop = fits.pop }

  -- the exchange that evicts
  evicts : (waiting hand : List ℕ) (read : ℕ) (pops : Popping) → site.kind ≡ Overflowing → 0 < site.capacity → Ring site word waiting
      → write_of site word < 2 ^ 64
      → hand ≡ [] → read + (site.capacity + 1) ≡ write_of site word → read_of site word ≡ read → PoppingKnows site word waiting pops
      → ((hand ≡ []) × (length waiting ≡ site.capacity + 1))
      × Fits site (put word (site.base + 1) (position_after (read_of site word))) (rest waiting) (front waiting)
      (pushing.Pushes (push.TakesOld (cell_at site (read_of site word)))) pops
  evicts [] hand read pops kind some ring position none full at knows = let counts = ring.counts in absurd (omega arith)
  evicts (first ∷ others) hand read pops kind some ring position none full at knows =
      let counts = ring.counts in
      let place = cell_place site (read_of site word) (omega (arith, cells-overflowing site kind)) in (
        (none, omega arith),
        record {
          some = λ _. some;
          position = rw (write_kept site word first others ring position) position;
          ring = taken site word first others ring position;
          push = (
            ap (λ v. v ∷ []) (sym (cells_kept site word first others ring position (cell_at site (read_of site word)) place
                ∙ first_stands site word first others ring position)),
            kind,
            omega arith,
            place,
          );
          pop =
              popping_knows_evicted site word (put word (site.base + 1) (position_after (read_of site word))) (first ∷ others) others kind
              (read_moved site word first others ring position) (omega arith) pops knows;
        },
      )

  -- a look at the read position shows whether as many wait as may
  full_shows : (waiting : List ℕ) (write : ℕ) → Ring site word waiting → length waiting ≤ site.capacity → write ≡ write_of site word
      → is_full site (read_of site word) write ≡ true → length waiting ≡ site.capacity
  full_shows waiting write ring bounded at full = let counts = ring.counts in omega (arith, leb-true _ _ full)

  room_shows : (waiting : List ℕ) (write : ℕ) → Ring site word waiting → write ≡ write_of site word → is_full site (read_of site word) write ≡ false
      → length waiting < site.capacity
  room_shows waiting write ring at room = let counts = ring.counts in omega (arith, leb-false _ _ room)

  -- a store of the next write position publishes the value that was stored
  publishes : {waiting hand : List ℕ} {value next : ℕ} (full : Option ℕ) {pushes' : Pushing} {pops : Popping}
      → Fits site word waiting hand (pushing.Pushes (push.StoresWrite value next full)) pops
      → PushingKnows site (put word site.base next) (waiting ++ value ∷ []) hand pushes' → Fits site (put word site.base next)
      (waiting ++ value ∷ []) hand pushes' pops
  publishes {waiting} {hand} {value} {next} full {pushes'} {pops} fits knows =
      let write_new = put-same word site.base next in
      let read_same = put-other word site.base next (site.base + 1) (omega arith) in
      let free = free_cell site word waiting full fits.push.0.1 fits.push.2 in
      record {
        some = fits.some;
        position = rw write_new fits.push.1.1;
        ring = ring_publish site word waiting value next fits.ring free fits.push.3 fits.push.1.0;
        push = knows;
        pop =
            popping_knows_more site word (put word site.base next) waiting (waiting ++ value ∷ []) read_same
            (omega (arith, length_push waiting value)) (λ some. get_or_append_left waiting (value ∷ []) 0 0 some) pops fits.pop;
      }

  pub pushing_step : (waiting hand : List ℕ) (pushes : Pushing) (pops : Popping)
      → Fits site word waiting hand pushes pops → StepsTo site word waiting hand (pushing_turn site word pushes pops)
  pushing_step waiting hand pushing.AtRest pops fits = (tt, fits)
  pushing_step waiting hand (pushing.Pushes (push.LoadsWrite value)) pops fits = (tt, pushes_on fits (fits.push, refl))
  pushing_step waiting hand (pushing.Pushes (push.LoadsRead value write)) pops fits =
      let bounded = fits.push.0.1 in
      let at = fits.push.1 in
      let position = fits.position in
      elim (cases_Bool (eqb write last_position)) [
        | inl last ↦ rw (last, refused_at_end) (sym at ∙ eqb-true _ _ last, pushes_on fits fits.push.0)
        | inr more ↦ (
            let other = eqb-false _ _ more in
            let next : (write + 1 ≡ write_of site word + 1) × (write + 1 < 2 ^ 64) = (omega arith, omega arith) in
            let here = ap (cell_at site) at in
            elim (cases_Bool (is_full site (read_of site word) write)) [
              | inl full ↦ (
                  let length_is = full_shows waiting write fits.ring bounded at full in
                  let counts = fits.ring.counts in
                  elim (cases_kind site.kind) [
                    | inl kind ↦ rw (more, full, refused_when_full site.kind kind) (length_is, pushes_on fits fits.push.0)
                    | inr kind ↦ rw (more, full, overflows site.kind kind)
                        (length_is, pushes_on fits (fits.push.0, next, (kind, omega arith, omega arith), here))
                  ]
                  )
              | inr room ↦ (
                  let free = room_shows waiting write fits.ring at room in
                  rw (more, room, welcome) (free, pushes_on fits (fits.push.0, next, free, here))
                  )
            ]
            )
      ]
  pushing_step waiting hand (pushing.Pushes (push.StoresCell value cell next full)) pops fits =
      let at = fits.push.3 in
      let free = free_cell site word waiting full fits.push.0.1 fits.push.2 in
      let here = cell_at site (write_of site word) in
      let write_same = put-other word here value site.base (omega arith) in
      let read_same = put-other word here value (site.base + 1) (omega arith) in
      rw at (
        tt,
        record {
          some = fits.some;
          position = rw write_same fits.position;
          ring = ring_store site word waiting value fits.ring free;
          push = rw write_same (fits.push.0, fits.push.1, stays full fits.push.2, put-same word here value);
          pop = popping_knows_more site word (put word here value) waiting waiting read_same (omega arith) (λ _. refl) pops fits.pop;
        },
      )
    where
      stays : (full : Option ℕ) → RoomKnows site word waiting full → RoomKnows site (put word (cell_at site (write_of site word)) value) waiting full
      stays None knows = knows
      stays (Some read) knows =
          let write_same = put-other word (cell_at site (write_of site word)) value site.base (omega arith) in
          let read_same = put-other word (cell_at site (write_of site word)) value (site.base + 1) (omega arith) in
          (knows.0, omega (arith, knows.1), omega (arith, knows.2))
  pushing_step waiting hand (pushing.Pushes (push.StoresWrite value next None)) pops fits =
      let free = fits.push.2 in (
        (free_cell site word waiting None fits.push.0.1 free, omega (arith, fits.push.1.0, fits.push.1.1)),
        publishes None fits (fits.push.0.0, omega (arith, free, length_push waiting value)),
      )
  pushing_step waiting hand (pushing.Pushes (push.StoresWrite value next (Some read))) pops fits =
      let full = fits.push.2 in
      let is_next = fits.push.1.0 in
      let write_new = put-same word site.base next in
      let read_same = put-other word site.base next (site.base + 1) (omega arith) in (
        (free_cell site word waiting (Some read) fits.push.0.1 full, omega (arith, fits.push.1.0, fits.push.1.1)),
        publishes (Some read) fits (fits.push.0.0, full.0, omega (arith, full.1), omega (arith, full.2)),
      )
  pushing_step waiting hand (pushing.Pushes (push.Evicts read)) pops fits =
      let position = fits.position in
      elim (cases_Bool (eqb (read_of site word) read)) [
        | inl hit ↦ (
            let at = eqb-true _ _ hit in
            rw (hit, ← at) (evicts waiting hand read pops fits.push.1 (fits.some fits.push.1) fits.ring fits.position fits.push.0 fits.push.2 at fits.pop))
        | inr missed ↦ (
            let other = eqb-false _ _ missed in
            let counts = fits.ring.counts in
            let full = fits.push.2 in
            let before = fits.push.3 in
            rw missed (tt, pushes_on fits (fits.push.0, omega arith))
            )
      ]
  pushing_step waiting hand (pushing.Pushes (push.TakesOld cell)) pops fits = (fits.push.0, pushes_on fits (refl, fits.push.2))
  pushing_step waiting hand (pushing.Looks full_look.LoadsWrite) pops fits = (tt, pushes_on fits (fits.push, refl))
  pushing_step waiting hand (pushing.Looks (full_look.LoadsRead write)) pops fits =
      let bounded = fits.push.0.1 in
      let at = fits.push.1 in
      elim (cases_Bool (is_full site (read_of site word) write)) [
        | inl full ↦ rw full (full_shows waiting write fits.ring bounded at full, pushes_on fits fits.push.0)
        | inr room ↦ rw room (room_shows waiting write fits.ring at room, pushes_on fits fits.push.0)
      ]
