-- What whole calls answer and leave, for those who know that they end.
use Rattle.std.proofs.Common.{◌≡◌, ◌↔◌, ℕ, ◌+◌, ◌<◌, ◌≤◌, List, [], ◌∷◌, length, drop, get_or, refl, sym, ap, arith, subst, inl, inr, nat_le, Bool, IsTrue, true, Option, None, ◌∙◌}
use Rattle.std.proofs.Math.Nat.{mul-le-mul_right}
use Rattle.std.proofs.lemmas.Bool.{cases_Bool, cases_lt, leb-true, le-leb, lt-ltb, le-ltb, false≢true}
use Rattle.iox_words.specs.declared.word_list.Words.{Ghosts}
use Rattle.iox_words.specs.WordLists.{AreWords}
use Rattle.iox_queues.specs.BoundedQueues.{first, is_spent}
use Rattle.iox_cell_queues.specs.declared.site.CellSite.{CellSite}
use Rattle.iox_cell_queues.specs.declared.event.CellReply.{CellReply}
use Rattle.iox_cell_queues.specs.declared.event.CellReply.TheVariants.{Pushed, Full, Popped, Empty}
use Rattle.iox_cell_queues.specs.Cells.{size}
use Rattle.iox_steps.specs.Accesses.{KeepsOutside}
use Rattle.iox_cell_queues.specs.CellFits.{IsWhole}
use Rattle.iox_cell_queues.specs.CellEventLists.{CellQueueState}
use Rattle.iox_cell_queues.specs.declared.queue.CellSide.{CellSide}
use Rattle.iox_cell_queues.specs.Lists.{values, queue_at, state_at, HoldsQueue}
use Rattle.iox_cell_queues.specs.Alone.{EndsAfter, EndsWithin, IsEndOf, pusher, popper, full_looker, empty_looker}
use Rattle.iox_cell_queues.specs.Replies.{IsOfPush, IsOfFullLook, IsOfPop, IsOfEmptyLook}
use Rattle.iox_cell_queues.specs.Calls.{Pushes, Pops, LooksFull, LooksEmpty, push_accesses, pop_accesses}
use Rattle.iox_cell_queues.proofs.ValueLemmas.{waiting_is_values}
use Rattle.iox_cell_queues.proofs.AloneLemmas.{Ended, ShowsAtRest}
use Rattle.iox_cell_queues.proofs.PushChains.{state, queue, PushEnds, push_ends, full_look_ends}
use Rattle.iox_cell_queues.proofs.PopChains.{is_nil, pop_ends, pop_ends_empty, empty_look_ends}

-- what a reply says, of whichever call it is
abbrev said : {A : Type 0} → CellReply A → Bool
said (Pushed room) = room
said (Full full) = full
said (Popped out) = true
said (Empty empty) = empty

abbrev given : {A : Type 0} → CellReply A → Option A
given (Popped out) = out
given (Pushed room) = None
given (Full full) = None
given (Empty empty) = None

module _ {A : Type 0} (width : ℕ) (W : Ghosts A) (site : CellSite) (list : List ℕ) where
  -- a call that was played to its end
  pub record CallAlone (side : CellSide A width) (accesses : ℕ) (reply : CellReply A) (state' : CellQueueState A) (result : CellReply A) (new : List ℕ) : Type 0 where
    pub answers : result ≡ reply
    pub ends : EndsAfter W accesses site list side result new
    pub leaves : state' ≡ state_at W site new
    pub holds : HoldsQueue W site new
    pub outside : KeepsOutside site.base (size site) list new

  played : (side : CellSide A width) (accesses : ℕ) (reply : CellReply A) (state' : CellQueueState A) (result : CellReply A) (new : List ℕ) → Ended width W site list side accesses reply state' → IsEndOf W site list side result new
      → CallAlone side accesses reply state' result new
  played side accesses reply state' result new ended is_end =
      let is = is_end accesses reply ended.after ended.ends in
      let leaves = waiting_is_values W site ended.after ended.room state' ended.shows.0 ended.shows.1.ring in
      let rests = subst (λ (l : CellQueueState A). ShowsAtRest width W site ended.after l) leaves ended.shows in
      rw is.1 (record {
        answers = is.0;
        ends = rw is.0 ended.ends;
        leaves = leaves;
        holds = (ended.room, ended.shows.1.position, rests.1.ring);
        outside = ended.outside;
      })

  soon : (most : ℕ) (side : CellSide A width) (accesses : ℕ) (reply : CellReply A) (state' : CellQueueState A) → accesses ≤ most → Ended width W site list side accesses reply state' → EndsWithin W most site list side
  soon most side accesses reply state' few ended = record { accesses = accesses; reply = reply; after = ended.after; few = few; ends = ended.ends }

  module _ (held : HoldsQueue W site list) where
    rests_here : ShowsAtRest width W site list (state_at W site list)
    rests_here = (refl, record { position = held.1; ring = held.2; push = tt; pop = tt })

    -- a call makes at most one access more than the queue has words
    width_fits : 0 < site.capacity → 3 + site.width ≤ size site + 1
    width_fits some = let more = mul-le-mul_right {m = 1} {n = site.capacity} site.width some in omega (arith, more)

    few_pushes : push_accesses site.width (queue_at W site list) ≤ size site + 1
    few_pushes = elim (cases_Bool (is_spent (queue_at W site list))) [
      | inl last ↦ rw last (omega arith)
      | inr on ↦ elim (cases_lt (length (values W site list)) site.capacity) [
        | inl room ↦ rw (on, lt-ltb (length (values W site list)) site.capacity room) (width_fits (omega arith))
        | inr full ↦ rw (on, le-ltb (length (values W site list)) site.capacity (omega arith)) (omega arith)
      ]
    ]

    few_pops : (waiting : List A) → length waiting ≤ site.capacity → pop_accesses site.width waiting ≤ size site + 1
    few_pops [] bounded = omega arith
    few_pops (oldest ∷ others) bounded = width_fits (omega arith)

    module _ (value : A) (whole : IsWhole W.words W.of_words site.width value) where
      push_is : PushEnds width W site list value (get_or list site.base 0) (values W site list)
      push_is = push_ends width W site list held.0 (get_or list site.base 0) (values W site list) rests_here value whole

      pub push_soon : (most : ℕ) → size site + 1 ≤ most → EndsWithin {width = width} W most site list (pusher value)
      push_soon most memory = soon most _ _ _ _ (omega (arith, few_pushes)) push_is.ended

      pub push_says : (reply : CellReply A) (new : List ℕ) → IsEndOf {width = width} W site list (pusher value) reply new → IsOfPush reply
      push_says reply new is_end = rw (played _ _ _ _ reply new push_is.ended is_end).answers tt

      pub record Pushes_it (room : Bool) (new : List ℕ) : Type 0 where
        pub queue : Pushes (queue_at W site list) value room (queue_at W site new)
        pub accesses : EndsAfter {width = width} W (push_accesses site.width (queue_at W site list)) site list (pusher value) (Pushed room) new
        pub holds : HoldsQueue W site new
        pub outside : KeepsOutside site.base (size site) list new

      pub pushed : (reply : CellReply A) (room : Bool) (new : List ℕ) → IsEndOf {width = width} W site list (pusher value) reply new → reply ≡ Pushed room → Pushes_it room new
      pushed reply room new is_end is =
          let did = played _ _ _ _ reply new push_is.ended is_end in
          let same : room ≡ push_is.room = ap said (sym is ∙ did.answers) in
          record {
            queue = rw same (subst (λ (l : CellQueueState A). Pushes (queue_at W site list) value push_is.room (queue site l.write l.waiting)) did.leaves push_is.pushes);
            accesses = rw is at did.ends;
            holds = did.holds;
            outside = did.outside;
          }

    pop_is : (waiting : List A) → ShowsAtRest width W site list (state (get_or list site.base 0) waiting)
        → Ended width W site list (popper A width) (pop_accesses site.width waiting) (Popped (first waiting)) (state (get_or list site.base 0) (drop 1 waiting))
    pop_is [] shows = pop_ends_empty width W site list held.0 _ shows
    pop_is (oldest ∷ others) shows = pop_ends width W site list held.0 _ oldest others shows

    pub pop_soon : (most : ℕ) → size site + 1 ≤ most → EndsWithin W most site list (popper A width)
    pop_soon most memory = soon most _ _ _ _ (omega (arith, few_pops (values W site list) held.2.bounded)) (pop_is (values W site list) rests_here)

    pub pop_says : (reply : CellReply A) (new : List ℕ) → IsEndOf W site list (popper A width) reply new → IsOfPop reply
    pop_says reply new is_end = rw (played _ _ _ _ reply new (pop_is (values W site list) rests_here) is_end).answers tt

    pub record Taken (out : Option A) (new : List ℕ) : Type 0 where
      pub queue : Pops (queue_at W site list) out (queue_at W site new)
      pub accesses : EndsAfter W (pop_accesses site.width (values W site list)) site list (popper A width) (Popped out) new
      pub holds : HoldsQueue W site new
      pub outside : KeepsOutside site.base (size site) list new

    pub popped : (reply : CellReply A) (out : Option A) (new : List ℕ) → IsEndOf W site list (popper A width) reply new → reply ≡ Popped out → Taken out new
    popped reply out new is_end is =
        let did = played _ _ _ _ reply new (pop_is (values W site list) rests_here) is_end in
        record {
          queue = (ap given (sym is ∙ did.answers), ap (λ (l : CellQueueState A). queue site l.write l.waiting) (sym did.leaves));
          accesses = rw is at did.ends;
          holds = did.holds;
          outside = did.outside;
        }

    full_is : Ended width W site list (full_looker A width) 2 (Full (nat_le site.capacity (length (values W site list)))) (state (get_or list site.base 0) (values W site list))
    full_is = full_look_ends width W site list held.0 _ (values W site list) rests_here

    empty_is : Ended width W site list (empty_looker A width) 2 (Empty (is_nil (values W site list))) (state (get_or list site.base 0) (values W site list))
    empty_is = empty_look_ends width W site list held.0 _ (values W site list) rests_here

    pub full_soon : (most : ℕ) → 2 ≤ most → EndsWithin W most site list (full_looker A width)
    full_soon most memory = soon most _ _ _ _ memory full_is

    pub empty_soon : (most : ℕ) → 2 ≤ most → EndsWithin W most site list (empty_looker A width)
    empty_soon most memory = soon most _ _ _ _ memory empty_is

    -- a look that ended with this reply
    pub record Looked (side : CellSide A width) (ReplyIsTrue : Type 0) (reply : CellReply A) (new : List ℕ) : Type 0 where
      pub queue : ReplyIsTrue
      pub accesses : EndsAfter W 2 site list side reply new
      pub unchanged : new ≡ list

    pub full_says : (reply : CellReply A) (new : List ℕ) → IsEndOf W site list (full_looker A width) reply new → IsOfFullLook reply
    full_says reply new is_end = rw (played _ _ _ _ reply new full_is is_end).answers tt

    pub looked_full : (reply : CellReply A) (full : Bool) (new : List ℕ) → IsEndOf W site list (full_looker A width) reply new → reply ≡ Full full
        → Looked (full_looker A width) (LooksFull (queue_at W site list) full) (Full full) new
    looked_full reply full new is_end is =
        let did = played _ _ _ _ reply new full_is is_end in
        let bounded = held.2.bounded in
        let same : full ≡ nat_le site.capacity (length (values W site list)) = ap said (sym is ∙ did.answers) in
        record {
          queue = rw same (λ is. omega (arith, leb-true _ _ is), λ many. le-leb _ _ (omega arith));
          accesses = rw is at did.ends;
          unchanged = did.ends.1.1.2;
        }

    nil : (waiting : List A) → IsTrue (is_nil waiting) ↔ (waiting ≡ [])
    nil [] = (λ is. refl, λ is. refl)
    nil (oldest ∷ others) = (λ is. absurd (false≢true is), λ is. absurd (omega (arith, ap (λ (l : List A). length l) is)))

    pub empty_says : (reply : CellReply A) (new : List ℕ) → IsEndOf W site list (empty_looker A width) reply new → IsOfEmptyLook reply
    empty_says reply new is_end = rw (played _ _ _ _ reply new empty_is is_end).answers tt

    pub looked_empty : (reply : CellReply A) (empty : Bool) (new : List ℕ) → IsEndOf W site list (empty_looker A width) reply new → reply ≡ Empty empty
        → Looked (empty_looker A width) (LooksEmpty (queue_at W site list) empty) (Empty empty) new
    looked_empty reply empty new is_end is =
        let did = played _ _ _ _ reply new empty_is is_end in
        let same : empty ≡ is_nil (values W site list) = ap said (sym is ∙ did.answers) in
        record {
          queue = rw same (nil (values W site list));
          accesses = rw is at did.ends;
          unchanged = did.ends.1.1.2;
        }

-- a value that is known is whole
pub known_is_whole : {A : Type 0} → (W : Ghosts A) (width : ℕ) (value : A) → AreWords W.WORDS W.is_value W.words W.is_words W.of_words → W.is_value value → W.WORDS ≡ width → IsWhole W.words W.of_words width value
known_is_whole W width value laws known same = (laws.counted (W.words value) (laws.meets value known) ∙ same, laws.back value known)
