-- A push that is played alone, from its end to its beginning.
use Rattle.std.proofs.Common.{◌≡◌, ℕ, suc, ◌+◌, ◌-◌, ◌≤◌, ◌^◌, ◌++◌, List, [], ◌∷◌, length, get_or, refl, sym, ap, arith, inl, inr, eqb, true, false, Option, Some, None, eq-eqb, nat_le}
use Rattle.std.proofs.lemmas.Bool.{cases_Bool, false≢true, le-ltb, lt-ltb, leb-true, leb-false, eqb-true, eqb-false}
use Rattle.std.proofs.lemmas.List.{length_push}
use Rattle.iox_queues.specs.BoundedQueues.{BoundedQueue, is_spent, is_full}
use Rattle.iox_steps.specs.declared.site.QueueKind.{QueueKind}
use Rattle.iox_steps.specs.declared.site.QueueKind.TheVariants.{Index, Overflowing}
use Rattle.iox_steps.specs.declared.site.Site.{Site}
use Rattle.iox_steps.specs.declared.side.QueueReply.{QueueReply}
use Rattle.iox_steps.specs.declared.side.QueueReply.TheVariants.{Pushed, HandedBack}
use Rattle.iox_steps.specs.declared.push.Push.TheVariants as push
use Rattle.iox_steps.specs.declared.push.PushReply.TheVariants as reply
use Rattle.iox_steps.specs.declared.side.Pushing.TheVariants as pushing
use Rattle.iox_steps.specs.Sites.{size, last_position, cell_at}
use Rattle.iox_steps.specs.Sites as sites
use Rattle.iox_steps.specs.Pushes.{is_refused, full_at}
use Rattle.iox_steps.specs.Replies.{push_reply}
use Rattle.iox_steps.specs.EventLists.{QueueState}
use Rattle.iox_steps.proofs.PushSteps.{refused_at_end, welcome, refused_when_full, overflows}
use Rattle.iox_queue_steps.specs.declared.queue.Side.TheVariants.{Pusher}
use Rattle.iox_queue_calls.specs.Calls.{Pushes, push_accesses}
use Rattle.iox_queue_calls.proofs.AloneLemmas.{ShowsAlone, ShowsAtRest, step_alone, Ended, goes_on, ends_here}

abbrev pub state : ℕ → List ℕ → List ℕ → QueueState
state write waiting hand = record { write = write; waiting = waiting; hand = hand }

module _ (site : Site) (words : List ℕ) (room : site.base + size site ≤ length words) where
  -- the value that was pushed out comes back
  gets_back : (cell old write : ℕ) (waiting : List ℕ) → ShowsAlone site words (Pusher (pushing.Pushes (push.TakesOld cell))) (state write waiting (old ∷ []))
      → Ended site words (Pusher (pushing.Pushes (push.TakesOld cell))) 1 (HandedBack (Some old)) (state write waiting [])
  gets_back cell old write waiting shows =
      let side = Pusher (pushing.Pushes (push.TakesOld cell)) in
      let before = state write waiting (old ∷ []) in
      let is : old ≡ get_or words cell 0 = ap (λ l. get_or l 0 0) shows.1.push.0 in
      let kind = shows.1.push.1 in
      ends_here site words side before room shows _ _ (rw (kind, is) refl) (step_alone site words side before room shows).shows

  -- the value joins those that wait, where there is room
  publishes : (value next write : ℕ) (waiting hand : List ℕ)
      → ShowsAlone site words (Pusher (pushing.Pushes (push.StoresWrite value next None))) (state write waiting hand)
      → Ended site words (Pusher (pushing.Pushes (push.StoresWrite value next None))) 1 (push_reply site.kind reply.Pushed)
      (state (write + 1) (waiting ++ value ∷ []) hand)
  publishes value next write waiting hand shows =
      let side = Pusher (pushing.Pushes (push.StoresWrite value next None)) in
      let before = state write waiting hand in
      ends_here site words side before room shows _ _ refl (step_alone site words side before room shows).shows

-- the oldest goes
evicts : (site : Site) (words : List ℕ) (room : site.base + size site ≤ length words) (read first write : ℕ) (others hand : List ℕ)
    → ShowsAlone site words (Pusher (pushing.Pushes (push.Evicts read))) (state write (first ∷ others) hand) → get_or words (site.base + 1) 0 ≡ read
    → Ended site words (Pusher (pushing.Pushes (push.Evicts read))) 2 (HandedBack (Some first)) (state write others [])
evicts site words room read first write others hand shows at =
    let side = Pusher (pushing.Pushes (push.Evicts read)) in
    let before = state write (first ∷ others) hand in
    let did = step_alone site words side before room shows in
    let hit : eqb (get_or words (site.base + 1) 0) read ≡ true = eq-eqb _ _ at in
    let taken = rw hit at did.shows in
    goes_on site words side before room shows 1 _ _ (rw hit refl) (rw hit (gets_back site _ (rw hit at did.room) (cell_at site read) first write others taken))

-- a value joins a full queue, and the oldest goes
publishes_full : (site : Site) (words : List ℕ) (room : site.base + size site ≤ length words) (value next read write first : ℕ) (others hand : List ℕ)
    → ShowsAlone site words (Pusher (pushing.Pushes (push.StoresWrite value next (Some read)))) (state write (first ∷ others) hand)
    → length (first ∷ others) ≡ site.capacity
    → Ended site words (Pusher (pushing.Pushes (push.StoresWrite value next (Some read)))) 3 (HandedBack (Some first))
    (state (write + 1) (others ++ value ∷ []) [])
publishes_full site words room value next read write first others hand shows many =
    let side = Pusher (pushing.Pushes (push.StoresWrite value next (Some read))) in
    let before = state write (first ∷ others) hand in
    let did = step_alone site words side before room shows in
    let knows = did.shows.1.push in
    let full = knows.2 in
    let counts = did.shows.1.ring.counts in
    let more = length_push (first ∷ others) value in
    goes_on site words side before room shows 2 _ _ refl (evicts site _ did.room read first (write + 1) (others ++ value ∷ []) hand did.shows (omega arith))

abbrev pub queue : Site → ℕ → List ℕ → BoundedQueue
queue site write waiting = record { capacity = site.capacity; waiting = waiting; pushed = write }

-- how a push ends
pub record PushEnds (kind : QueueKind) (site : Site) (words : List ℕ) (value write : ℕ) (waiting : List ℕ) : Type 0 where
  pub reply : QueueReply
  pub write' : ℕ
  pub waiting' : List ℕ
  pub hand' : List ℕ
  pub ended : Ended site words (Pusher (pushing.Pushes (push.LoadsWrite value))) (push_accesses kind (queue site write waiting)) reply
      (state write' waiting' hand')
  pub pushes : Pushes kind (queue site write waiting) value reply (queue site write' waiting')

module _ (site : Site) (words : List ℕ) (room : site.base + size site ≤ length words) (value write : ℕ) (waiting hand : List ℕ)
    (shows : ShowsAtRest site words (state write waiting hand)) where
  loads_write : ShowsAlone site words (Pusher (pushing.Pushes (push.LoadsWrite value))) (state write waiting hand)
  loads_write = (shows.0, record { some = shows.1.some; position = shows.1.position; ring = shows.1.ring; push = shows.1.push; pop = shows.1.pop })

  loads_read : ShowsAlone site words (Pusher (pushing.Pushes (push.LoadsRead value write))) (state write waiting hand)
  loads_read = (
    shows.0,
    record { some = shows.1.some; position = shows.1.position; ring = shows.1.ring; push = (shows.1.push, sym shows.0); pop = shows.1.pop },
  )

  -- the first load, and then this
  after_load : (more : ℕ) (reply : QueueReply) (state' : QueueState) → Ended site words (Pusher (pushing.Pushes (push.LoadsRead value write))) more reply state'
      → Ended site words (Pusher (pushing.Pushes (push.LoadsWrite value))) (suc more) reply state'
  after_load more reply state' rest = goes_on site words (Pusher (pushing.Pushes (push.LoadsWrite value)))
      (state write waiting hand) room loads_write more reply state' refl (rw shows.0 rest)

  -- what the read position shows is whether as many wait as may
  pub full_is : sites.is_full site (get_or words (site.base + 1) 0) write ≡ nat_le site.capacity (length waiting)
  full_is =
      let counts = shows.1.ring.counts in
      let at = shows.0 in
      ap (nat_le site.capacity) (omega arith)

  -- both loads, and nothing is pushed
  refused : is_refused site.kind (eqb write last_position) (nat_le site.capacity (length waiting)) ≡ true
      → Ended site words (Pusher (pushing.Pushes (push.LoadsWrite value))) 2 (push_reply site.kind (reply.Refused value)) (state write waiting hand)
  refused is = after_load 1 _ _
      (ends_here site words (Pusher (pushing.Pushes (push.LoadsRead value write))) (state write waiting hand) room loads_read _ _ (rw (full_is, is) refl) shows)

  -- both loads and the store of the cell, and then this
  stores : (full : Option ℕ) (more : ℕ) (reply : QueueReply) (state' : QueueState)
      → is_refused site.kind (eqb write last_position) (nat_le site.capacity (length waiting)) ≡ false
      → full_at (nat_le site.capacity (length waiting)) (get_or words (site.base + 1) 0) ≡ full → eqb write last_position ≡ false
      → ((words' : List ℕ) → site.base + size site ≤ length words' → ShowsAlone site words'
      (Pusher (pushing.Pushes (push.StoresWrite value (write + 1) full))) (state write waiting hand)
      → Ended site words' (Pusher (pushing.Pushes (push.StoresWrite value (write + 1) full))) more reply state')
      → Ended site words (Pusher (pushing.Pushes (push.LoadsWrite value))) (suc (suc (suc more))) reply state'
  stores full more reply state' welcomed is_full_at on rest =
      let before = state write waiting hand in
      let side = Pusher (pushing.Pushes (push.LoadsRead value write)) in
      let stores_cell = Pusher (pushing.Pushes (push.StoresCell value (cell_at site write) (write + 1) full)) in
      let did = step_alone site words side before room loads_read in
      let here : ShowsAlone site words stores_cell before = elim (cases_Bool (nat_le site.capacity (length waiting))) [
        | inl many ↦ rw (full_is, welcomed, is_full_at, on, many) at did.shows
        | inr few ↦ rw (full_is, welcomed, is_full_at, on, few) at did.shows
      ] in
      let stored = step_alone site words stores_cell before room here in
      after_load _ _ _ (goes_on site words side before room loads_read _ _ _ (rw (full_is, welcomed) refl) (rw (full_is, welcomed, is_full_at)
      (goes_on site words stores_cell before room here _ _ _ refl (rest _ stored.room stored.shows))))

  -- the last position is reached, and as many wait as may, in the words of the plain queue
  spent : eqb write last_position ≡ true → is_spent (queue site write waiting) ≡ true
  spent last = rw (le-ltb write (2 ^ 64 - 1) (omega (arith, eqb-true _ _ last))) refl

  not_spent : eqb write last_position ≡ false → is_spent (queue site write waiting) ≡ false
  not_spent on = rw (lt-ltb write (2 ^ 64 - 1) (omega (arith, shows.1.position, shows.0, eqb-false _ _ on))) refl

  full : nat_le site.capacity (length waiting) ≡ true → is_full (queue site write waiting) ≡ true
  full many = rw (le-ltb (length waiting) site.capacity (leb-true _ _ many)) refl

  not_full : nat_le site.capacity (length waiting) ≡ false → is_full (queue site write waiting) ≡ false
  not_full few = rw (lt-ltb (length waiting) site.capacity (leb-false _ _ few)) refl

  -- a push of a full queue that overflows
  overflowing_ends : site.kind ≡ Overflowing → eqb write last_position ≡ false → nat_le site.capacity (length waiting) ≡ true → (waits : List ℕ)
      → waits ≡ waiting → PushEnds Overflowing site words value write waiting
  overflowing_ends kind on many [] is = absurd (omega (arith, shows.1.some kind, leb-true _ _ many, ap (λ (l : List ℕ). length l) is))
  overflowing_ends kind on many (first ∷ others) is =
      let few = shows.1.push.1 in
      let as_long = ap (λ (l : List ℕ). length l) is in
      let long : length (first ∷ others) ≡ site.capacity = omega (arith, leb-true _ _ many) in
      record {
        reply = HandedBack (Some first);
        write' = write + 1;
        waiting' = others ++ value ∷ [];
        hand' = [];
        ended = rw (not_spent on, full many)
            (stores (Some (get_or words (site.base + 1) 0)) 3 _ _ (rw (on, many) (overflows site.kind kind)) (rw many refl) on
            (λ words' room' shows'. publishes_full site words' room' value (write + 1) _ write first others hand (rw (← is) at shows') long));
        pushes = rw (not_spent on, full many, ← is) (refl, refl);
      }

  -- what a push of a queue of either kind comes to
  pub push_ends : (kind : QueueKind) → site.kind ≡ kind → PushEnds kind site words value write waiting
  push_ends Index kind = elim (cases_Bool (eqb write last_position)) [
    | inl last ↦ record {
      reply = Pushed false;
      write' = write;
      waiting' = waiting;
      hand' = hand;
      ended = rw (spent last) (rw (ap (λ k. push_reply k (reply.Refused value)) kind) at (refused (rw last (refused_at_end site.kind _))));
      pushes = ((λ is. absurd (false≢true is), λ has. absurd (omega (arith, has.1, eqb-true _ _ last))), tt, refl);
    }
    | inr on ↦ elim (cases_Bool (nat_le site.capacity (length waiting))) [
      | inl many ↦ record {
        reply = Pushed false;
        write' = write;
        waiting' = waiting;
        hand' = hand;
        ended = rw (not_spent on, full many)
            (rw (ap (λ k. push_reply k (reply.Refused value)) kind) at (refused (rw (on, many) (refused_when_full site.kind kind))));
        pushes = ((λ is. absurd (false≢true is), λ has. absurd (omega (arith, has.0, leb-true _ _ many))), tt, refl);
      }
      | inr few ↦ record {
        reply = Pushed true;
        write' = write + 1;
        waiting' = waiting ++ value ∷ [];
        hand' = hand;
        ended = rw (not_spent on, not_full few)
            (stores None 1 _ _ (rw (on, few) (welcome site.kind)) (rw few refl) on
            (λ words' room' shows'. rw (ap (λ k. push_reply k reply.Pushed) kind) at
            (publishes site words' room' value (write + 1) write waiting hand shows')));
        pushes = ((λ is. (omega (arith, leb-false _ _ few), omega (arith, shows.1.position, shows.0, eqb-false _ _ on)), λ has. refl), refl, tt);
      }
    ]
  ]
  push_ends Overflowing kind = elim (cases_Bool (eqb write last_position)) [
    | inl last ↦ record {
      reply = HandedBack (Some value);
      write' = write;
      waiting' = waiting;
      hand' = hand;
      ended = rw (spent last) (rw (ap (λ k. push_reply k (reply.Refused value)) kind) at (refused (rw last (refused_at_end site.kind _))));
      pushes = (rw (spent last) refl, rw (spent last) refl);
    }
    | inr on ↦ elim (cases_Bool (nat_le site.capacity (length waiting))) [
      | inl many ↦ overflowing_ends kind on many waiting refl
      | inr few ↦ record {
        reply = HandedBack None;
        write' = write + 1;
        waiting' = waiting ++ value ∷ [];
        hand' = hand;
        ended = rw (not_spent on, not_full few)
            (stores None 1 _ _ (rw (on, few) (welcome site.kind)) (rw few refl) on
            (λ words' room' shows'. rw (ap (λ k. push_reply k reply.Pushed) kind) at
            (publishes site words' room' value (write + 1) write waiting hand shows')));
        pushes = (rw (not_spent on, not_full few) refl, rw (not_spent on, not_full few) refl);
      }
    ]
  ]
