-- Which moment each event of a queue is, by its cases.
use Rattle.std.specs.Prelude.{map, take, nat_le, not, ◌++◌}
use Rattle.std.proofs.Common.{if◌then◌else◌, ◌≡◌, ℕ, ◌+◌, ◌<◌, ◌≤◌, Bool, true, false, List, [], ◌∷◌, length, refl, ap, sym, subst, ◌∙◌, inl, inr, Some, arith}
use Rattle.std.proofs.lemmas.Bool.{cases_Bool, lt-ltb, le-leb}
use Rattle.std.proofs.lemmas.List.{length-map}
use Rattle.iox_wire_words.specs.Way.{Way}
use Rattle.iox_wire_words.specs.Messages.{serials_of}
use Rattle.iox_wire_words.specs.States.{State}
use Rattle.iox_wire_words.specs.Maps.{is_empty, first_of, rest_of, same_way}
use Rattle.iox_wire_words.specs.Moments.{room_on}
use Rattle.iox_wire_words.specs.Moments as moments
use Rattle.iox_wire_words.specs.Peers.{is_counted_on, buffer_on, overflows_on}
use Rattle.iox_wire_words.proofs.WeaveLaws.MapLemmas.{same_way-true}
use Rattle.iox_steps.specs.declared.site.QueueKind.TheVariants.{Index, Overflowing}
use Rattle.iox_steps.specs.declared.side.QueueEvent.{QueueEvent}
use Rattle.iox_steps.specs.declared.side.QueueEvent.TheVariants.{Quiet, Publish, HandOut, Evict, Learn, SeesEmpty, SeesWaiting, SeesFull, SeesRoom, SeesEnd}
use Rattle.iox_steps.specs.declared.side.Pushing.TheVariants as pushing
use Rattle.iox_steps.specs.declared.side.Popping.TheVariants as popping
use Rattle.iox_steps.specs.Sites.{cells_of}
use Rattle.iox_steps.specs.EventLists.{QueueState, state_after}
use Rattle.iox_steps.specs.Events.{rest, front, waiting_after, hand_after, IsTrueOf}
use Rattle.iox_steps.specs.Fits.{PushingKnows}
use Rattle.iox_steps.specs.Pushes.{push_event, full_look_event}
use Rattle.iox_steps.specs.Pops.{pop_event, empty_look_event}
use Rattle.iox_wire_words.specs.WordMaps.{WireQueue, MessageQueue, ReturningQueue, IsWay}
use Rattle.iox_wire_words.specs.Programs.{same_queue, WireLayout, site_of, pusher_of, Pushes, Pops, pushing_in}
use Rattle.iox_wire_words.specs.Fits.{WireContents, with_queue}
use Rattle.iox_wire_words.proofs.PieceLemmas.{same_queue-refl, same_queue-true}
use Rattle.iox_wire_words.proofs.Steps.{push_turn, pop_turn}
use Rattle.iox_wire_moments.specs.MomentsOf.{Pools, serial_in, push_moment, full_look_moment, pop_moment, empty_look_moment, give_back_moment, get_back_moment}
use Rattle.iox_wire_moments.specs.Ties.{Suits, Ties}
use Rattle.iox_wire_moments.specs.Laws.{ShowsMoment, EachAccessIsAMoment}
use Rattle.iox_steps.specs.Accesses.{word_after}
use Rattle.iox_steps.specs.Sides.{pushing_access, popping_access}
use Rattle.iox_steps.proofs.AccessLemmas.{after_changes}
use Rattle.iox_wire_moments.proofs.EventCases.{IsPushEvent, IsGiveBackEvent, IsFullLookEvent, IsPopEvent, IsEmptyLookEvent, push_events, give_back_events, full_look_events, pop_events, empty_look_events}

-- ---- lists under a map

map-rest : {A B : Type 0} (f : A → B) (xs : List A) → rest_of (map f xs) ≡ map f (rest_of xs)
map-rest f [] = refl
map-rest f (x ∷ xs) = refl

rests : (xs : List ℕ) → rest_of xs ≡ rest xs
rests [] = refl
rests (x ∷ xs) = refl

map-last : {A B : Type 0} (f : A → B) (xs : List A) (x : A) → map f xs ++ f x ∷ [] ≡ map f (xs ++ x ∷ [])
map-last f [] x = refl
map-last f (y ∷ ys) x = ap (λ zs. f y ∷ zs) (map-last f ys x)

fronts : (held : Pools) (y : Way) (xs : List ℕ) → serials_of (take 1 (map (held y.sender) xs)) ≡ map (serial_in held y) (front xs)
fronts held y [] = refl
fronts held y (x ∷ xs) = refl

some_waits : {A : Type 0} (f : ℕ → A) (xs : List ℕ) → 0 < length xs → not (is_empty (map f xs)) ≡ true
some_waits f [] long = absurd (omega arith)
some_waits f (x ∷ xs) long = refl

-- ---- one queue with another state

-- what is read of each queue stays, where it stays for the one that has another state
kept_at : (read : QueueState → List ℕ) (f : WireQueue → QueueState) (state : QueueState) (q r : WireQueue) → read state ≡ read (f q)
    → read (if same_queue r q then state else f r) ≡ read (f r)
kept_at read f state q r same = elim (cases_Bool (same_queue r q)) [
  | inl here ↦ rw here (same ∙ ap (λ x. read (f x)) (sym (same_queue-true r q here)))
  | inr other ↦ rw other refl
]

tied_at : {A : Type 0} (h : Way → ℕ → A) (read : QueueState → List ℕ) (f : Way → List A) (g : Way → QueueState) (a : List A) (state : QueueState) (y v : Way)
    → a ≡ map (h y) (read state) → f v ≡ map (h v) (read (g v))
    → (if same_way v y then a else f v) ≡ map (h v) (read (if same_way v y then state else g v))
tied_at h read f g a state y v here there = elim (cases_Bool (same_way v y)) [
  | inl same ↦ rw same (here ∙ ap (λ u. map (h u) (read state)) (sym (same_way-true v y same)))
  | inr other ↦ rw other there
]

-- the contents after an event of a queue
abbrev after_event : WireContents → WireQueue → QueueEvent → WireContents
after_event c q event = with_queue c q (state_after event (c.queues q))

-- what is waiting, and what is in hand
abbrev waiting_of : QueueState → List ℕ
waiting_of state = state.waiting

abbrev hand_of : QueueState → List ℕ
hand_of state = state.hand

same_at : {A : Type 0} (f : Way → A) (a : A) (y v : Way) → a ≡ f y → (if same_way v y then a else f v) ≡ f v
same_at f a y v here = elim (cases_Bool (same_way v y)) [
  | inl same ↦ rw same (here ∙ ap f (sym (same_way-true v y same)))
  | inr other ↦ rw other refl
]

module _ (p : WireLayout) (held : Pools) (c : WireContents) (s : State) (suits : Suits p s.fixed) (ties : Ties p held c s) where
  -- nothing changes for the state
  quiet : (q : WireQueue) (m : QueueEvent) → waiting_after m (c.queues q).waiting ≡ (c.queues q).waiting → hand_after m (c.queues q).waiting (c.queues q).hand ≡ (c.queues q).hand
      → Ties p held (after_event c q m) s
  quiet q m same same' = record {
    waiting = λ v way on. ties.waiting v way on
        ∙ ap (map (held v.sender)) (sym (kept_at waiting_of c.queues _ q (MessageQueue v) same));
    in_hand = λ v way on. ties.in_hand v way on
        ∙ ap (map (serial_in held v)) (sym (kept_at hand_of c.queues _ q (MessageQueue v) same'));
    returned = λ v way on. ties.returned v way on
        ∙ ap (map (serial_in held v)) (sym (kept_at waiting_of c.queues _ q (ReturningQueue v) same));
  }

  module _ (y : Way) (way : IsWay p.sizes y) (counts : is_counted_on s.fixed y ≡ true) where
    as_long : length (s.waiting y) ≡ length (c.queues (MessageQueue y)).waiting
    as_long = ap length (ties.waiting y way counts) ∙ length-map (c.queues (MessageQueue y)).waiting (held y.sender)

    room_is : cells_of (p.kind (MessageQueue y)) (p.capacity (MessageQueue y)) ≡ room_on s.fixed y
    room_is = rw (suits.kind y way, suits.buffer y way) (by_case (overflows_on s.fixed y))
      where
        by_case : (b : Bool) → cells_of (if b then Overflowing else Index) (buffer_on s.fixed y) ≡ buffer_on s.fixed y + (if b then 1 else 0)
        by_case true = refl
        by_case false = omega arith

    -- what is seen of lengths
    le-is : (a b : ℕ) → a ≤ b → nat_le a b ≡ true
    le-is a b below = le-leb a b below

    pushed_is : (write : ℕ) (m : QueueEvent) → IsPushEvent m
        → IsTrueOf (site_of p (MessageQueue y)) write (c.queues (MessageQueue y)).waiting (c.queues (MessageQueue y)).hand m
        → ShowsMoment p held (after_event c (MessageQueue y) m) s (push_moment held y m)
    pushed_is write Quiet may so = quiet (MessageQueue y) Quiet refl refl
    pushed_is write (Publish slot) may so = (
      (
          let long : length (s.waiting y) ≡ length (c.queues (MessageQueue y)).waiting = as_long in
          let room : cells_of (p.kind (MessageQueue y)) (p.capacity (MessageQueue y)) ≡ room_on s.fixed y = room_is in
          lt-ltb (length (s.waiting y)) (room_on s.fixed y) (omega (arith, so.0))
          ),
      record {
        waiting = λ v way' on. tied_at (λ u. held u.sender) waiting_of s.waiting (λ u. c.queues (MessageQueue u)) _ _ y v
            (ap (λ ms. ms ++ held y.sender slot ∷ []) (ties.waiting y way counts) ∙ map-last (held y.sender) (c.queues (MessageQueue y)).waiting slot) (ties.waiting v way' on);
        in_hand = λ v way' on. ties.in_hand v way' on ∙ ap (map (serial_in held v)) (sym (kept_at hand_of c.queues _ (MessageQueue y) (MessageQueue v) refl));
        returned = λ v way' on. ties.returned v way' on;
      },
    )
    pushed_is write Evict may so = (
      (
          let long : length (s.waiting y) ≡ length (c.queues (MessageQueue y)).waiting = as_long in
          let room : p.capacity (MessageQueue y) ≡ buffer_on s.fixed y = suits.buffer y way in
          let over : length (c.queues (MessageQueue y)).waiting ≡ p.capacity (MessageQueue y) + 1 = so.1 in
          lt-ltb (buffer_on s.fixed y) (length (s.waiting y)) (omega arith)
          ),
      record {
        waiting = λ v way' on. tied_at (λ u. held u.sender) waiting_of s.waiting (λ u. c.queues (MessageQueue u)) _ _ y v
            (ap rest_of (ties.waiting y way counts) ∙ map-rest (held y.sender) (c.queues (MessageQueue y)).waiting ∙ ap (map (held y.sender)) (rests (c.queues (MessageQueue y)).waiting))
            (ties.waiting v way' on);
        in_hand = λ v way' on. tied_at (serial_in held) hand_of s.in_hand (λ u. c.queues (MessageQueue u)) _ _ y v
            (ap (λ ms. serials_of (take 1 ms)) (ties.waiting y way counts) ∙ fronts held y (c.queues (MessageQueue y)).waiting) (ties.in_hand v way' on);
        returned = λ v way' on. ties.returned v way' on;
      },
    )
    pushed_is write (Learn slot) may so =
        let hand : s.in_hand y ≡ serial_in held y slot ∷ [] = ties.in_hand y way counts ∙ ap (map (serial_in held y)) so in (
          ap (λ ks. first_of (ks ++ s.returned y)) hand,
          record {
            waiting = λ v way' on. ties.waiting v way' on ∙ ap (map (held v.sender)) (sym (kept_at waiting_of c.queues _ (MessageQueue y) (MessageQueue v) refl));
            in_hand = λ v way' on. tied_at (serial_in held) hand_of s.in_hand (λ u. c.queues (MessageQueue u)) _ _ y v refl (ties.in_hand v way' on);
            returned = λ v way' on. same_at s.returned (if is_empty (s.in_hand y) then rest_of (s.returned y) else s.returned y) y v
                (ap (λ ks. if is_empty ks then rest_of (s.returned y) else s.returned y) hand) ∙ ties.returned v way' on;
          },
        )
    pushed_is write SeesFull may so = quiet (MessageQueue y) SeesFull refl refl
    pushed_is write SeesRoom may so = quiet (MessageQueue y) SeesRoom refl refl
    pushed_is write SeesEnd may so = quiet (MessageQueue y) SeesEnd refl refl
    pushed_is write (HandOut slot) may so = absurd may
    pushed_is write SeesEmpty may so = absurd may
    pushed_is write SeesWaiting may so = absurd may

    looked_full_is : (write : ℕ) (m : QueueEvent) → IsFullLookEvent m
        → IsTrueOf (site_of p (MessageQueue y)) write (c.queues (MessageQueue y)).waiting (c.queues (MessageQueue y)).hand m
        → ShowsMoment p held (after_event c (MessageQueue y) m) s (full_look_moment y m)
    looked_full_is write Quiet may so = quiet (MessageQueue y) Quiet refl refl
    looked_full_is write SeesFull may so = (
      (
          let long : length (s.waiting y) ≡ length (c.queues (MessageQueue y)).waiting = as_long in
          let room : p.capacity (MessageQueue y) ≡ buffer_on s.fixed y = suits.buffer y way in
          let full : length (c.queues (MessageQueue y)).waiting ≡ p.capacity (MessageQueue y) = so in
          le-is (buffer_on s.fixed y) (length (s.waiting y)) (omega arith)
          ),
      quiet (MessageQueue y) SeesFull refl refl,
    )
    looked_full_is write SeesRoom may so = (
      (
          let long : length (s.waiting y) ≡ length (c.queues (MessageQueue y)).waiting = as_long in
          let room : p.capacity (MessageQueue y) ≡ buffer_on s.fixed y = suits.buffer y way in
          let free : length (c.queues (MessageQueue y)).waiting < p.capacity (MessageQueue y) = so in
          lt-ltb (length (s.waiting y)) (buffer_on s.fixed y) (omega arith)
          ),
      quiet (MessageQueue y) SeesRoom refl refl,
    )
    looked_full_is write m may so = absurd may

    taken_is : (slot : ℕ) → (c.queues (MessageQueue y)).waiting ≡ slot ∷ rest (c.queues (MessageQueue y)).waiting
        → ShowsMoment p held (after_event c (MessageQueue y) (HandOut slot)) s (Some (moments.Take y (held y.sender slot)))
    taken_is slot so = (
      ap first_of (ties.waiting y way counts ∙ ap (map (held y.sender)) so),
      record {
        waiting = λ v way' on. tied_at (λ u. held u.sender) waiting_of s.waiting (λ u. c.queues (MessageQueue u)) _ _ y v
            (ap rest_of (ties.waiting y way counts) ∙ map-rest (held y.sender) (c.queues (MessageQueue y)).waiting ∙ ap (map (held y.sender)) (rests (c.queues (MessageQueue y)).waiting))
            (ties.waiting v way' on);
        in_hand = λ v way' on. ties.in_hand v way' on ∙ ap (map (serial_in held v)) (sym (kept_at hand_of c.queues _ (MessageQueue y) (MessageQueue v) refl));
        returned = λ v way' on. ties.returned v way' on;
      },
    )

    none_waits : (c.queues (MessageQueue y)).waiting ≡ [] → is_empty (s.waiting y) ≡ true
    none_waits so = ap is_empty (ties.waiting y way counts ∙ ap (map (held y.sender)) so)

    popped_is : (write : ℕ) (m : QueueEvent) → IsPopEvent m
        → IsTrueOf (site_of p (MessageQueue y)) write (c.queues (MessageQueue y)).waiting (c.queues (MessageQueue y)).hand m
        → ShowsMoment p held (after_event c (MessageQueue y) m) s (pop_moment held y m)
    popped_is write Quiet may so = quiet (MessageQueue y) Quiet refl refl
    popped_is write (HandOut slot) may so = taken_is slot so
    popped_is write SeesEmpty may so = (none_waits so, quiet (MessageQueue y) SeesEmpty refl refl)
    popped_is write SeesWaiting may so = quiet (MessageQueue y) SeesWaiting refl refl
    popped_is write m may so = absurd may

    looked_empty_is : (write : ℕ) (m : QueueEvent) → IsEmptyLookEvent m
        → IsTrueOf (site_of p (MessageQueue y)) write (c.queues (MessageQueue y)).waiting (c.queues (MessageQueue y)).hand m
        → ShowsMoment p held (after_event c (MessageQueue y) m) s (empty_look_moment y m)
    looked_empty_is write Quiet may so = quiet (MessageQueue y) Quiet refl refl
    looked_empty_is write SeesEmpty may so = (none_waits so, quiet (MessageQueue y) SeesEmpty refl refl)
    looked_empty_is write SeesWaiting may so =
        (ap (λ ms. not (is_empty ms)) (ties.waiting y way counts) ∙ some_waits (held y.sender) (c.queues (MessageQueue y)).waiting so, quiet (MessageQueue y) SeesWaiting refl refl)
    looked_empty_is write m may so = absurd may

    given_is : (write : ℕ) (m : QueueEvent) → IsGiveBackEvent m
        → IsTrueOf (site_of p (ReturningQueue y)) write (c.queues (ReturningQueue y)).waiting (c.queues (ReturningQueue y)).hand m
        → ShowsMoment p held (after_event c (ReturningQueue y) m) s (give_back_moment held y m)
    given_is write Quiet may so = quiet (ReturningQueue y) Quiet refl refl
    given_is write (Publish slot) may so = (
      tt,
      record {
        waiting = λ v way' on. ties.waiting v way' on;
        in_hand = λ v way' on. ties.in_hand v way' on;
        returned = λ v way' on. tied_at (serial_in held) waiting_of s.returned (λ u. c.queues (ReturningQueue u))
            (if is_counted_on s.fixed y then s.returned y ++ serial_in held y slot ∷ [] else s.returned y) _ y v
            (rw counts (ap (λ ks. ks ++ serial_in held y slot ∷ []) (ties.returned y way counts) ∙ map-last (serial_in held y) (c.queues (ReturningQueue y)).waiting slot))
            (ties.returned v way' on);
      },
    )
    given_is write SeesFull may so = quiet (ReturningQueue y) SeesFull refl refl
    given_is write SeesRoom may so = quiet (ReturningQueue y) SeesRoom refl refl
    given_is write SeesEnd may so = quiet (ReturningQueue y) SeesEnd refl refl
    given_is write m may so = absurd may

    got_is : (c.queues (MessageQueue y)).hand ≡ [] → (write : ℕ) (m : QueueEvent) → IsPopEvent m
        → IsTrueOf (site_of p (ReturningQueue y)) write (c.queues (ReturningQueue y)).waiting (c.queues (ReturningQueue y)).hand m
        → ShowsMoment p held (after_event c (ReturningQueue y) m) s (get_back_moment held y m)
    got_is idle write Quiet may so = quiet (ReturningQueue y) Quiet refl refl
    got_is idle write (HandOut slot) may so =
        let hand : s.in_hand y ≡ [] = ties.in_hand y way counts ∙ ap (map (serial_in held y)) idle in
        let back : s.returned y ≡ serial_in held y slot ∷ map (serial_in held y) (rest (c.queues (ReturningQueue y)).waiting)
        = ties.returned y way counts ∙ ap (map (serial_in held y)) so in (
          ap (λ ks. first_of (ks ++ s.returned y)) hand ∙ ap first_of back,
          record {
            waiting = λ v way' on. ties.waiting v way' on;
            in_hand = λ v way' on. same_at s.in_hand [] y v (sym hand) ∙ ties.in_hand v way' on;
            returned = λ v way' on. tied_at (serial_in held) waiting_of s.returned (λ u. c.queues (ReturningQueue u))
                (if is_empty (s.in_hand y) then rest_of (s.returned y) else s.returned y) _ y v
                (ap (λ ks. if is_empty ks then rest_of (s.returned y) else s.returned y) hand ∙ ap rest_of back) (ties.returned v way' on);
          },
        )
    got_is idle write SeesEmpty may so =
        (ap is_empty (ties.returned y way counts ∙ ap (map (serial_in held y)) so), quiet (ReturningQueue y) SeesEmpty refl refl)
    got_is idle write SeesWaiting may so = quiet (ReturningQueue y) SeesWaiting refl refl
    got_is idle write m may so = absurd may

-- ---- each access

pub each_access_is_a_moment : EachAccessIsAMoment
each_access_is_a_moment p held word programs c s n (Pushes (MessageQueue y) (pushing.Pushes place)) sized suits fits ties is plays counts =
    pushed_is p held c s suits ties y plays.0 counts _ (push_event (site_of p (MessageQueue y)) place _) (push_events (site_of p (MessageQueue y)) place _)
    (push_turn p word (word_after (pushing_access (site_of p (MessageQueue y)) (pushing.Pushes place)) word) programs c n (Pushes (MessageQueue y) (pushing.Pushes place)) sized fits is (MessageQueue y) (pushing.Pushes place) refl plays (after_changes (pushing_access (site_of p (MessageQueue y)) (pushing.Pushes place)) word)).is_true
each_access_is_a_moment p held word programs c s n (Pushes (MessageQueue y) (pushing.Looks place)) sized suits fits ties is plays counts =
    looked_full_is p held c s suits ties y plays.0 counts _ (full_look_event (site_of p (MessageQueue y)) place _) (full_look_events (site_of p (MessageQueue y)) place _)
    (push_turn p word (word_after (pushing_access (site_of p (MessageQueue y)) (pushing.Looks place)) word) programs c n (Pushes (MessageQueue y) (pushing.Looks place)) sized fits is (MessageQueue y) (pushing.Looks place) refl plays (after_changes (pushing_access (site_of p (MessageQueue y)) (pushing.Looks place)) word)).is_true
each_access_is_a_moment p held word programs c s n (Pushes (MessageQueue y) pushing.AtRest) sized suits fits ties is plays counts =
    quiet p held c s suits ties (MessageQueue y) Quiet refl refl
each_access_is_a_moment p held word programs c s n (Pushes (ReturningQueue y) (pushing.Pushes place)) sized suits fits ties is plays counts =
    let at : pushing_in (ReturningQueue y) (programs (pusher_of p (ReturningQueue y))) ≡ pushing.Pushes place =
    ap (λ k. pushing_in (ReturningQueue y) (programs k)) plays.1 ∙ ap (pushing_in (ReturningQueue y)) is ∙ rw (same_queue-refl (ReturningQueue y)) refl in
    given_is p held c s suits ties y plays.0 counts _ (push_event (site_of p (ReturningQueue y)) place _)
    (give_back_events (site_of p (ReturningQueue y)) word (c.queues (ReturningQueue y)).waiting (c.queues (ReturningQueue y)).hand place _ (suits.returning y plays.0)
    (subst (PushingKnows (site_of p (ReturningQueue y)) word (c.queues (ReturningQueue y)).waiting (c.queues (ReturningQueue y)).hand)
    at (fits.queues (ReturningQueue y) plays.0).1.push))
    (push_turn p word (word_after (pushing_access (site_of p (ReturningQueue y)) (pushing.Pushes place)) word) programs c n (Pushes (ReturningQueue y) (pushing.Pushes place)) sized fits is (ReturningQueue y) (pushing.Pushes place) refl plays (after_changes (pushing_access (site_of p (ReturningQueue y)) (pushing.Pushes place)) word)).is_true
each_access_is_a_moment p held word programs c s n (Pushes (ReturningQueue y) (pushing.Looks place)) sized suits fits ties is plays counts =
    looked_back (full_look_event (site_of p (ReturningQueue y)) place _) (full_look_events (site_of p (ReturningQueue y)) place _)
  where
    looked_back : (m : QueueEvent) → IsFullLookEvent m → Ties p held (after_event c (ReturningQueue y) m) s
    looked_back Quiet may = quiet p held c s suits ties (ReturningQueue y) Quiet refl refl
    looked_back SeesFull may = quiet p held c s suits ties (ReturningQueue y) SeesFull refl refl
    looked_back SeesRoom may = quiet p held c s suits ties (ReturningQueue y) SeesRoom refl refl
    looked_back m may = absurd may
each_access_is_a_moment p held word programs c s n (Pushes (ReturningQueue y) pushing.AtRest) sized suits fits ties is plays counts =
    quiet p held c s suits ties (ReturningQueue y) Quiet refl refl
each_access_is_a_moment p held word programs c s n (Pops (MessageQueue y) (popping.Pops place)) sized suits fits ties is plays counts =
    popped_is p held c s suits ties y plays.0 counts _ (pop_event (site_of p (MessageQueue y)) place _) (pop_events (site_of p (MessageQueue y)) place _)
    (pop_turn p word (word_after (popping_access (site_of p (MessageQueue y)) (popping.Pops place)) word) programs c n (Pops (MessageQueue y) (popping.Pops place)) sized fits is (MessageQueue y) (popping.Pops place) refl plays (after_changes (popping_access (site_of p (MessageQueue y)) (popping.Pops place)) word)).is_true
each_access_is_a_moment p held word programs c s n (Pops (MessageQueue y) (popping.Looks place)) sized suits fits ties is plays counts =
    looked_empty_is p held c s suits ties y plays.0 counts _ (empty_look_event (site_of p (MessageQueue y)) place _) (empty_look_events (site_of p (MessageQueue y)) place _)
    (pop_turn p word (word_after (popping_access (site_of p (MessageQueue y)) (popping.Looks place)) word) programs c n (Pops (MessageQueue y) (popping.Looks place)) sized fits is (MessageQueue y) (popping.Looks place) refl plays (after_changes (popping_access (site_of p (MessageQueue y)) (popping.Looks place)) word)).is_true
each_access_is_a_moment p held word programs c s n (Pops (MessageQueue y) popping.AtRest) sized suits fits ties is plays counts =
    quiet p held c s suits ties (MessageQueue y) Quiet refl refl
each_access_is_a_moment p held word programs c s n (Pops (ReturningQueue y) (popping.Pops place)) sized suits fits ties is plays counts =
    got_is p held c s suits ties y plays.0 counts
    (subst (PushingKnows (site_of p (MessageQueue y)) word (c.queues (MessageQueue y)).waiting (c.queues (MessageQueue y)).hand)
    (ap (λ k. pushing_in (MessageQueue y) (programs k)) plays.1 ∙ ap (pushing_in (MessageQueue y)) is) (fits.queues (MessageQueue y) plays.0).1.push).0
    _ (pop_event (site_of p (ReturningQueue y)) place _) (pop_events (site_of p (ReturningQueue y)) place _)
    (pop_turn p word (word_after (popping_access (site_of p (ReturningQueue y)) (popping.Pops place)) word) programs c n (Pops (ReturningQueue y) (popping.Pops place)) sized fits is (ReturningQueue y) (popping.Pops place) refl plays (after_changes (popping_access (site_of p (ReturningQueue y)) (popping.Pops place)) word)).is_true
each_access_is_a_moment p held word programs c s n (Pops (ReturningQueue y) (popping.Looks place)) sized suits fits ties is plays counts =
    looked_back (empty_look_event (site_of p (ReturningQueue y)) place _) (empty_look_events (site_of p (ReturningQueue y)) place _)
  where
    looked_back : (m : QueueEvent) → IsEmptyLookEvent m → Ties p held (after_event c (ReturningQueue y) m) s
    looked_back Quiet may = quiet p held c s suits ties (ReturningQueue y) Quiet refl refl
    looked_back SeesEmpty may = quiet p held c s suits ties (ReturningQueue y) SeesEmpty refl refl
    looked_back SeesWaiting may = quiet p held c s suits ties (ReturningQueue y) SeesWaiting refl refl
    looked_back m may = absurd may
each_access_is_a_moment p held word programs c s n (Pops (ReturningQueue y) popping.AtRest) sized suits fits ties is plays counts =
    quiet p held c s suits ties (ReturningQueue y) Quiet refl refl
each_access_is_a_moment p held word programs c s n program sized suits fits ties is plays counts = absurd counts
