-- What whole calls answer and leave, for those who know that they end.
use Rattle.std.proofs.Common.{◌≡◌, ◌↔◌, ℕ, ◌+◌, ◌-◌, ◌^◌, ◌<◌, ◌≤◌, List, [], ◌∷◌, length, drop, get_or, refl, sym, ap, arith, subst, inl, inr, nat_le, Bool, IsTrue, true, Option, None, ◌∙◌}
use Rattle.std.proofs.lemmas.Bool.{cases_Bool, leb-true, le-leb, false≢true}
use Rattle.iox_queues.specs.BoundedQueues.{BoundedQueue, first, is_spent, is_full}
use Rattle.iox_steps.specs.declared.site.QueueKind.{QueueKind}
use Rattle.iox_steps.specs.declared.site.QueueKind.TheVariants.{Index, Overflowing}
use Rattle.iox_steps.specs.declared.site.Site.{Site}
use Rattle.iox_steps.specs.declared.side.QueueReply.{QueueReply}
use Rattle.iox_steps.specs.declared.side.QueueReply.TheVariants.{Pushed, HandedBack, Full, Popped, Empty}
use Rattle.iox_steps.specs.declared.push.Push.TheVariants as push
use Rattle.iox_steps.specs.declared.push.FullLook.TheVariants as full_look
use Rattle.iox_steps.specs.declared.pop.Pop.TheVariants as pop
use Rattle.iox_steps.specs.declared.pop.EmptyLook.TheVariants as empty_look
use Rattle.iox_steps.specs.declared.side.Pushing.TheVariants as pushing
use Rattle.iox_steps.specs.declared.side.Popping.TheVariants as popping
use Rattle.iox_steps.specs.Accesses.{KeepsOutside}
use Rattle.iox_steps.specs.Sites.{size}
use Rattle.iox_steps.specs.EventLists.{QueueState}
use Rattle.iox_steps.proofs.Frames.{fits_empty}
use Rattle.iox_queue_steps.specs.declared.queue.Side.{Side}
use Rattle.iox_queue_steps.specs.declared.queue.Side.TheVariants.{Pusher, Popper}
use Rattle.iox_queue_calls.specs.Lists.{values, queue_at, state_at, HoldsQueue}
use Rattle.iox_queue_calls.specs.Alone.{EndsAfter, EndsWithin, IsEndOf}
use Rattle.iox_queue_calls.specs.Replies.{IsOfFullLook, IsOfPop, IsOfEmptyLook}
use Rattle.iox_queue_calls.specs.Calls.{Pushes, Pops, LooksFull, LooksEmpty, push_accesses, pop_accesses}
use Rattle.iox_queue_calls.proofs.ValueLemmas.{waiting_is_values}
use Rattle.iox_queue_calls.proofs.AloneLemmas.{Ended, ShowsAtRest}
use Rattle.iox_queue_calls.proofs.PushChains.{state, queue, PushEnds, push_ends}
use Rattle.iox_queue_calls.proofs.PopChains.{is_nil, pop_ends, pop_ends_empty, empty_look_ends, full_look_ends}

-- what a reply says, of whichever call it is
abbrev said : QueueReply → Bool
said (Pushed room) = room
said (HandedBack out) = true
said (Full full) = full
said (Popped out) = true
said (Empty empty) = empty

abbrev given : QueueReply → Option ℕ
given (Popped out) = out
given (HandedBack out) = out
given (Pushed room) = None
given (Full full) = None
given (Empty empty) = None

-- words with two equal positions hold nothing
pub values-empty : (site : Site) (words : List ℕ) → get_or words site.base 0 ≡ get_or words (site.base + 1) 0 → values site words ≡ []
values-empty site words empty =
    let none : get_or words site.base 0 - get_or words (site.base + 1) 0 ≡ 0 = omega arith in
    rw none refl

pub empty_holds : (site : Site) (words : List ℕ) → (site.kind ≡ Overflowing → 0 < site.capacity) → site.base + size site ≤ length words
    → get_or words site.base 0 ≡ get_or words (site.base + 1) 0
    → get_or words site.base 0 < 2 ^ 64 → HoldsQueue site words
empty_holds site words some room empty position =
    (room, (refl, rw (values-empty site words empty) (fits_empty site (λ place. get_or words place 0) some empty position)))

-- a call that was played to its end
pub record CallAlone (site : Site) (words : List ℕ) (side : Side) (accesses : ℕ) (reply : QueueReply) (state' : QueueState) (result : QueueReply) (new : List ℕ) : Type 0 where
  pub answers : result ≡ reply
  pub ends : EndsAfter accesses site words side result new
  pub leaves : state' ≡ state_at site new
  pub holds : HoldsQueue site new
  pub outside : KeepsOutside site.base (size site) words new

played : (site : Site) (words : List ℕ) (side : Side) (accesses : ℕ) (reply : QueueReply) (state' : QueueState) (result : QueueReply) (new : List ℕ)
    → Ended site words side accesses reply state' → IsEndOf site words side result new
    → CallAlone site words side accesses reply state' result new
played site words side accesses reply state' result new ended is_end =
    let is = is_end accesses reply ended.after ended.ends in
    let leaves = waiting_is_values site ended.after state' ended.shows in
    rw is.1 (record {
      answers = is.0;
      ends = rw is.0 ended.ends;
      leaves = leaves;
      holds = (ended.room, subst (λ (l : QueueState). ShowsAtRest site ended.after l) leaves ended.shows);
      outside = ended.outside;
    })

pub soon : (site : Site) (words : List ℕ) (side : Side) (accesses : ℕ) (reply : QueueReply) (state' : QueueState) → accesses ≤ 6
    → Ended site words side accesses reply state' → EndsWithin 6 site words side
soon site words side accesses reply state' few ended = record { accesses = accesses; reply = reply; after = ended.after; few = few; ends = ended.ends }

few_pushes : (kind : QueueKind) (site_queue : BoundedQueue) → push_accesses kind site_queue ≤ 6
few_pushes Index q = elim (cases_Bool (is_spent q)) [
  | inl last ↦ rw last (omega arith)
  | inr on ↦ elim (cases_Bool (is_full q)) [ inl full ↦ rw (on, full) (omega arith) | inr room ↦ rw (on, room) (omega arith) ]
]
few_pushes Overflowing q = elim (cases_Bool (is_spent q)) [
  | inl last ↦ rw last (omega arith)
  | inr on ↦ elim (cases_Bool (is_full q)) [ inl full ↦ rw (on, full) (omega arith) | inr room ↦ rw (on, room) (omega arith) ]
]

module _ (site : Site) (words : List ℕ) (held : HoldsQueue site words) where
  push_is : (value : ℕ) → PushEnds site.kind site words value (get_or words site.base 0) (values site words)
  push_is value = push_ends site words held.0 value (get_or words site.base 0) (values site words) [] held.1 site.kind refl

  pub push_soon : (value : ℕ) → EndsWithin 6 site words (Pusher (pushing.Pushes (push.LoadsWrite value)))
  push_soon value = soon site words _ _ _ _ (few_pushes site.kind (queue_at site words)) (push_is value).ended

  pub record Pushes_it (value : ℕ) (result : QueueReply) (new : List ℕ) : Type 0 where
    pub queue : Pushes site.kind (queue_at site words) value result (queue_at site new)
    pub accesses : EndsAfter (push_accesses site.kind (queue_at site words)) site words (Pusher (pushing.Pushes (push.LoadsWrite value))) result new
    pub holds : HoldsQueue site new
    pub outside : KeepsOutside site.base (size site) words new

  pub pushed : (value : ℕ) (result : QueueReply) (new : List ℕ) → IsEndOf site words (Pusher (pushing.Pushes (push.LoadsWrite value))) result new
      → Pushes_it value result new
  pushed value result new is_end =
      let is = push_is value in
      let did = played site words _ _ _ _ result new is.ended is_end in
      record {
        queue = rw did.answers
            (subst (λ (l : QueueState). Pushes site.kind (queue_at site words) value is.reply (queue site l.write l.waiting)) did.leaves is.pushes);
        accesses = did.ends;
        holds = did.holds;
        outside = did.outside;
      }

  pop_is : (waiting : List ℕ) → ShowsAtRest site words (state (get_or words site.base 0) waiting [])
      → Ended site words (Popper (popping.Pops pop.LoadsRead)) (pop_accesses waiting) (Popped (first waiting))
      (state (get_or words site.base 0) (drop 1 waiting) [])
  pop_is [] shows = pop_ends_empty site words held.0 _ [] shows
  pop_is (oldest ∷ others) shows = pop_ends site words held.0 _ [] oldest others shows

  few_pops : (waiting : List ℕ) → pop_accesses waiting ≤ 6
  few_pops [] = omega arith
  few_pops (oldest ∷ others) = omega arith

  pub pop_soon : EndsWithin 6 site words (Popper (popping.Pops pop.LoadsRead))
  pop_soon = soon site words _ _ _ _ (few_pops (values site words)) (pop_is (values site words) held.1)

  pub pop_says : (reply : QueueReply) (new : List ℕ) → IsEndOf site words (Popper (popping.Pops pop.LoadsRead)) reply new → IsOfPop reply
  pop_says reply new is_end = rw (played site words _ _ _ _ reply new (pop_is (values site words) held.1) is_end).answers tt

  pub record Taken (out : Option ℕ) (new : List ℕ) : Type 0 where
    pub queue : Pops (queue_at site words) out (queue_at site new)
    pub accesses : EndsAfter (pop_accesses (values site words)) site words (Popper (popping.Pops pop.LoadsRead)) (Popped out) new
    pub holds : HoldsQueue site new
    pub outside : KeepsOutside site.base (size site) words new

  pub popped : (reply : QueueReply) (out : Option ℕ) (new : List ℕ) → IsEndOf site words (Popper (popping.Pops pop.LoadsRead)) reply new
      → reply ≡ Popped out → Taken out new
  popped reply out new is_end is =
      let did = played site words _ _ _ _ reply new (pop_is (values site words) held.1) is_end in
      record {
        queue = (ap given (sym is ∙ did.answers), ap (λ (l : QueueState). queue site l.write l.waiting) (sym did.leaves));
        accesses = rw is at did.ends;
        holds = did.holds;
        outside = did.outside;
      }

  full_is : Ended site words (Pusher (pushing.Looks full_look.LoadsWrite)) 2 (Full (nat_le site.capacity (length (values site words))))
      (state (get_or words site.base 0) (values site words) [])
  full_is = full_look_ends site words held.0 _ [] (values site words) held.1

  empty_is : Ended site words (Popper (popping.Looks empty_look.LoadsRead)) 2 (Empty (is_nil (values site words)))
      (state (get_or words site.base 0) (values site words) [])
  empty_is = empty_look_ends site words held.0 _ [] (values site words) held.1

  pub full_soon : EndsWithin 6 site words (Pusher (pushing.Looks full_look.LoadsWrite))
  full_soon = soon site words _ _ _ _ (omega arith) full_is

  pub empty_soon : EndsWithin 6 site words (Popper (popping.Looks empty_look.LoadsRead))
  empty_soon = soon site words _ _ _ _ (omega arith) empty_is

  -- a look that ended with this reply
  pub record Looked (side : Side) (Answers : Type 0) (reply : QueueReply) (new : List ℕ) : Type 0 where
    pub queue : Answers
    pub accesses : EndsAfter 2 site words side reply new
    pub unchanged : new ≡ words

  pub full_says : (reply : QueueReply) (new : List ℕ) → IsEndOf site words (Pusher (pushing.Looks full_look.LoadsWrite)) reply new → IsOfFullLook reply
  full_says reply new is_end = rw (played site words _ _ _ _ reply new full_is is_end).answers tt

  pub looked_full : (reply : QueueReply) (full : Bool) (new : List ℕ) → IsEndOf site words (Pusher (pushing.Looks full_look.LoadsWrite)) reply new
      → reply ≡ Full full
      → Looked (Pusher (pushing.Looks full_look.LoadsWrite)) (LooksFull (queue_at site words) full) (Full full) new
  looked_full reply full new is_end is =
      let did = played site words _ _ _ _ reply new full_is is_end in
      let bounded = held.1.1.push.1 in
      let same : full ≡ nat_le site.capacity (length (values site words)) = ap said (sym is ∙ did.answers) in
      record {
        queue = rw same (λ is. omega (arith, leb-true _ _ is), λ many. le-leb _ _ (omega arith));
        accesses = rw is at did.ends;
        unchanged = did.ends.1.1.2;
      }

  nil : (waiting : List ℕ) → IsTrue (is_nil waiting) ↔ (waiting ≡ [])
  nil [] = (λ is. refl, λ is. refl)
  nil (oldest ∷ others) = (λ is. absurd (false≢true is), λ is. absurd (omega (arith, ap (λ (l : List ℕ). length l) is)))

  pub empty_says : (reply : QueueReply) (new : List ℕ) → IsEndOf site words (Popper (popping.Looks empty_look.LoadsRead)) reply new → IsOfEmptyLook reply
  empty_says reply new is_end = rw (played site words _ _ _ _ reply new empty_is is_end).answers tt

  pub looked_empty : (reply : QueueReply) (empty : Bool) (new : List ℕ) → IsEndOf site words (Popper (popping.Looks empty_look.LoadsRead)) reply new
      → reply ≡ Empty empty
      → Looked (Popper (popping.Looks empty_look.LoadsRead)) (LooksEmpty (queue_at site words) empty) (Empty empty) new
  looked_empty reply empty new is_end is =
      let did = played site words _ _ _ _ reply new empty_is is_end in
      let same : empty ≡ is_nil (values site words) = ap said (sym is ∙ did.answers) in
      record {
        queue = rw same (nil (values site words));
        accesses = rw is at did.ends;
        unchanged = did.ends.1.1.2;
      }
