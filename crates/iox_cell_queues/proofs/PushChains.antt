-- A push, and a look at fullness, that are played alone.
use Rattle.std.proofs.Common.{◌≡◌, ℕ, zero, suc, ◌+◌, ◌-◌, ◌≤◌, ◌^◌, ◌++◌, List, [], ◌∷◌, length, get_or, refl, sym, ap, arith, inl, inr, Bool, eqb, true, false, nat_le}
use Rattle.std.proofs.lemmas.Bool.{cases_Bool, false≢true, le-ltb, lt-ltb, le-leb, lt-leb, leb-true, leb-false, eqb-true, eqb-false}
use Rattle.iox_words.specs.declared.word_list.Words.{Ghosts}
use Rattle.iox_queues.specs.BoundedQueues.{BoundedQueueOf, is_spent, is_full}
use Rattle.iox_steps.specs.declared.push.FullLook.TheVariants as full_look
use Rattle.iox_steps.specs.Sites.{last_position}
use Rattle.iox_cell_queues.specs.declared.site.CellSite.{CellSite}
use Rattle.iox_cell_queues.specs.declared.push.CellPush.{CellPush}
use Rattle.iox_cell_queues.specs.declared.push.CellPush.TheVariants as push
use Rattle.iox_cell_queues.specs.declared.event.CellReply.{CellReply}
use Rattle.iox_cell_queues.specs.declared.event.CellReply.TheVariants.{Pushed, Full}
use Rattle.iox_cell_queues.specs.declared.side.CellPushing.TheVariants as pushing
use Rattle.iox_cell_queues.specs.Cells.{size, cell_at}
use Rattle.iox_cell_queues.specs.Cells as cells
use Rattle.iox_cell_queues.specs.CellPrograms.{store_from}
use Rattle.iox_cell_queues.specs.CellFits.{IsWhole}
use Rattle.iox_cell_queues.specs.CellEventLists.{CellQueueState}
use Rattle.iox_cell_queues.specs.declared.queue.CellSide.{CellSide}
use Rattle.iox_cell_queues.specs.declared.queue.CellSide.TheVariants.{Pusher}
use Rattle.iox_cell_queues.specs.Calls.{Pushes, push_accesses}
use Rattle.iox_cell_queues.proofs.AloneLemmas.{ShowsAlone, ShowsAtRest, step_alone, Ended, goes_on, ends_here}

abbrev pub state : {A : Type 0} → ℕ → List A → CellQueueState A
state write waiting = record { write = write; waiting = waiting }

abbrev pub queue : {A : Type 0} → CellSite → ℕ → List A → BoundedQueueOf A
queue site write waiting = record { capacity = site.capacity; waiting = waiting; pushed = write }

-- how a push ends
pub record PushEnds {A : Type 0} (width : ℕ) (W : Ghosts A) (site : CellSite) (list : List ℕ) (value : A) (write : ℕ) (waiting : List A) : Type 0 where
  pub room : Bool
  pub write' : ℕ
  pub waiting' : List A
  pub ended : Ended width W site list (Pusher (pushing.Pushes (push.LoadsWrite value))) (push_accesses site.width (queue site write waiting)) (Pushed room) (state write' waiting')
  pub pushes : Pushes (queue site write waiting) value room (queue site write' waiting')

module _ {A : Type 0} (width : ℕ) (W : Ghosts A) (site : CellSite) where
  -- inside a push
  abbrev at : CellPush A → CellSide A width
  at site = Pusher (pushing.Pushes site)

  -- the words from this one on, and then the write position
  stores : (left : ℕ) (list : List ℕ) → site.base + size site ≤ length list → (value : A) (cell next stored write : ℕ) (waiting : List A) → stored + left ≡ site.width
      → ShowsAlone width W site list (at (store_from site value cell next stored)) (state write waiting)
      → Ended width W site list (at (store_from site value cell next stored)) (suc left) (Pushed true) (state (write + 1) (waiting ++ value ∷ []))
  stores zero list room value cell next stored write waiting count shows =
      let all = le-leb site.width stored (omega arith) in
      let here : ShowsAlone width W site list (at (push.StoresWrite value next)) (state write waiting) = rw all at shows in
      let did = step_alone width W site list (at (push.StoresWrite value next)) (state write waiting) room here in
      rw all (ends_here width W site list (at (push.StoresWrite value next)) (state write waiting) room here _ _ refl did.shows)
  stores (suc left) list room value cell next stored write waiting count shows =
      let more = lt-leb site.width stored (omega arith) in
      let here : ShowsAlone width W site list (at (push.StoresWord value cell next stored)) (state write waiting) = rw more at shows in
      let did = step_alone width W site list (at (push.StoresWord value cell next stored)) (state write waiting) room here in
      rw more (goes_on width W site list (at (push.StoresWord value cell next stored)) (state write waiting) room here (suc left) _ _ refl
      (stores left _ did.room value cell next (stored + 1) write waiting (omega arith) did.shows))

  module _ (list : List ℕ) (room : site.base + size site ≤ length list) (write : ℕ) (waiting : List A) (shows : ShowsAtRest width W site list (state write waiting)) where
    -- what the read position shows is whether as many wait as may
    pub full_is : cells.is_full site (get_or list (site.base + 1) 0) write ≡ nat_le site.capacity (length waiting)
    full_is =
        let counts = shows.1.ring.counts in
        let here = shows.0 in
        ap (nat_le site.capacity) (omega arith)

    -- the last position is reached, and as many wait as may, in the words of the plain queue
    spent : eqb write last_position ≡ true → is_spent (queue site write waiting) ≡ true
    spent last = rw (le-ltb write (2 ^ 64 - 1) (omega (arith, eqb-true _ _ last))) refl

    not_spent : eqb write last_position ≡ false → is_spent (queue site write waiting) ≡ false
    not_spent on = rw (lt-ltb write (2 ^ 64 - 1) (omega (arith, shows.1.position, shows.0, eqb-false _ _ on))) refl

    full : nat_le site.capacity (length waiting) ≡ true → is_full (queue site write waiting) ≡ true
    full many = rw (le-ltb (length waiting) site.capacity (leb-true _ _ many)) refl

    not_full : nat_le site.capacity (length waiting) ≡ false → is_full (queue site write waiting) ≡ false
    not_full few = rw (lt-ltb (length waiting) site.capacity (leb-false _ _ few)) refl

    -- a look at fullness
    pub full_look_ends : Ended width W site list (Pusher (pushing.Looks full_look.LoadsWrite)) 2 (Full (nat_le site.capacity (length waiting))) (state write waiting)
    full_look_ends =
        let before = state write waiting in
        let first : ShowsAlone width W site list (Pusher (pushing.Looks full_look.LoadsWrite)) before = (shows.0, record { position = shows.1.position; ring = shows.1.ring; push = tt; pop = tt }) in
        let second : ShowsAlone width W site list (Pusher (pushing.Looks (full_look.LoadsRead write))) before = (shows.0, record { position = shows.1.position; ring = shows.1.ring; push = sym shows.0; pop = tt }) in
        goes_on width W site list (Pusher (pushing.Looks full_look.LoadsWrite)) before room first _ _ _ refl (rw shows.0
        (ends_here width W site list (Pusher (pushing.Looks (full_look.LoadsRead write))) before room second _ _ (rw full_is refl) shows))

    module _ (value : A) (whole : IsWhole W.words W.of_words site.width value) where
      loads_write : ShowsAlone width W site list (at (push.LoadsWrite value)) (state write waiting)
      loads_write = (shows.0, record { position = shows.1.position; ring = shows.1.ring; push = whole; pop = tt })

      loads_read : ShowsAlone width W site list (at (push.LoadsRead value write)) (state write waiting)
      loads_read = (shows.0, record { position = shows.1.position; ring = shows.1.ring; push = (whole, sym shows.0); pop = tt })

      -- the first load, and then this
      after_load : (more : ℕ) (reply : CellReply A) (state' : CellQueueState A) → Ended width W site list (at (push.LoadsRead value write)) more reply state' → Ended width W site list (at (push.LoadsWrite value)) (suc more) reply state'
      after_load more reply state' rest = goes_on width W site list (at (push.LoadsWrite value)) (state write waiting) room loads_write more reply state' refl (rw shows.0 rest)

      -- both loads, and nothing is pushed
      ends_at_end : eqb write last_position ≡ true → Ended width W site list (at (push.LoadsWrite value)) 2 (Pushed false) (state write waiting)
      ends_at_end last = after_load 1 _ _ (ends_here width W site list (at (push.LoadsRead value write)) (state write waiting) room loads_read _ _ (rw last refl) shows)

      ends_when_full : eqb write last_position ≡ false → nat_le site.capacity (length waiting) ≡ true → Ended width W site list (at (push.LoadsWrite value)) 2 (Pushed false) (state write waiting)
      ends_when_full on many = after_load 1 _ _ (ends_here width W site list (at (push.LoadsRead value write)) (state write waiting) room loads_read _ _ (rw (full_is, on, many) refl) shows)

      -- both loads, each word, and the write position
      ends_pushed : eqb write last_position ≡ false → nat_le site.capacity (length waiting) ≡ false → Ended width W site list (at (push.LoadsWrite value)) (3 + site.width) (Pushed true) (state (write + 1) (waiting ++ value ∷ []))
      ends_pushed on few =
          let count : 3 + site.width ≡ suc (suc (suc site.width)) = omega arith in
          let before = state write waiting in
          let did = step_alone width W site list (at (push.LoadsRead value write)) before room loads_read in
          let next : ShowsAlone width W site list (at (store_from site value (cell_at site write) (write + 1) 0)) before = rw (full_is, on, few) at did.shows in
          rw count (after_load _ _ _ (goes_on width W site list (at (push.LoadsRead value write)) before room loads_read _ _ _ (rw (full_is, on, few) refl)
          (rw (full_is, on, few) (stores site.width list room value (cell_at site write) (write + 1) 0 write waiting (omega arith) next))))

      -- what a push comes to
      pub push_ends : PushEnds width W site list value write waiting
      push_ends = elim (cases_Bool (eqb write last_position)) [
        | inl last ↦ record {
          room = false;
          write' = write;
          waiting' = waiting;
          ended = rw (spent last) (ends_at_end last);
          pushes = ((λ is. absurd (false≢true is), λ has. absurd (omega (arith, has.1, eqb-true _ _ last))), tt, refl);
        }
        | inr on ↦ elim (cases_Bool (nat_le site.capacity (length waiting))) [
          | inl many ↦ record {
            room = false;
            write' = write;
            waiting' = waiting;
            ended = rw (not_spent on, full many) (ends_when_full on many);
            pushes = ((λ is. absurd (false≢true is), λ has. absurd (omega (arith, has.0, leb-true _ _ many))), tt, refl);
          }
          | inr few ↦ record {
            room = true;
            write' = write + 1;
            waiting' = waiting ++ value ∷ [];
            ended = rw (not_spent on, not_full few) (ends_pushed on few);
            pushes = ((λ is. (omega (arith, leb-false _ _ few), omega (arith, shows.1.position, shows.0, eqb-false _ _ on)), λ has. refl), refl, tt);
          }
        ]
      ]
