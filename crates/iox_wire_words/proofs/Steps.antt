-- Each access keeps the words: what its own piece needs is shown only of that, and all else stays.
use Rattle.std.proofs.Common.{◌≡◌, ℕ, ◌+◌, ◌<◌, ◌≤◌, true, false, if◌then◌else◌, ◌==◌, length, refl, ap, sym, subst, ◌∙◌, inl, inr, true≢false, eqb-true, eq-eqb, arith}
use Rattle.std.proofs.lemmas.Bool.{cases_Bool}
use Rattle.std.specs.Prelude.{slice_index}
use Rattle.iox_word_map.specs.Way.{Way}
use Rattle.iox_word_map.specs.Maps.{has_number, put_at, same_way}
use Rattle.iox_laws.proofs.WeaveLaws.MapLemmas.{same_way-refl, same_way-true}
use Rattle.iox_steps.specs.declared.access.Access.{Access}
use Rattle.iox_steps.specs.declared.access.Access.TheVariants.{Load, Store, CompareExchange}
use Rattle.iox_steps.specs.declared.site.Site.{Site}
use Rattle.iox_steps.specs.declared.side.Pushing.{Pushing}
use Rattle.iox_steps.specs.declared.side.Pushing.TheVariants as pushing
use Rattle.iox_steps.specs.declared.side.Popping.{Popping}
use Rattle.iox_steps.specs.declared.side.Popping.TheVariants as popping
use Rattle.iox_steps.specs.Accesses.{IsPlace, IsWithin, seen_by, word_after, words_after}
use Rattle.iox_steps.specs.Sites.{size}
use Rattle.iox_steps.specs.Sides.{pushing_access, pushing_after, pushing_event, popping_access, popping_after, popping_event}
use Rattle.iox_steps.specs.Laws.{KeepsQueue, pushing_turn, popping_turn}
use Rattle.iox_steps.specs.EventLists.{QueueState, write_after}
use Rattle.iox_steps.specs.Fits.{Fits}
use Rattle.iox_steps.proofs.AccessLemmas.{within_wider, changes_outside, after_changes, list_changes, length-words_after}
use Rattle.iox_steps.proofs.Frames.{fits_frame}
use Rattle.iox_steps.proofs.Turns.{pushing_keeps_changed, popping_keeps_changed}
use Rattle.iox_word_map.specs.WordMaps.{WireQueue, IsQueue, Piece, Region, QueueWords, StateWord, IsPiece, IsResponseWay, piece_place, piece_size, total_words}
use Rattle.iox_word_map.proofs.Pieces.{pieces_are_apart, pieces_are_within, piece_size-state}
use Rattle.iox_wire_words.specs.Programs.{WireLayout, site_of, pusher_of, popper_of, Program, Rests, Pushes, Pops, LoadsState, StoresState, ExchangesState, LoadsWord, StoresWord, pushing_in, popping_in, program_access, state_place, word_place}
use Rattle.iox_wire_words.specs.Fits.{WireContents, IsSized, QueueFits, WordsFit, contents_after}
use Rattle.iox_wire_words.specs.Laws.{AccessIsMade, EachAccessKeepsTheWords, EachAccessKeepsTheList}
use Rattle.iox_wire_words.proofs.PieceLemmas.{same_or_other, never_same, same_queue-refl, queue_is, other_queue}

-- a queue whose state and parties are known by other names
same_fits : (site : Site) (word : ℕ → ℕ) (s s' : QueueState) (a a' : Pushing) (b b' : Popping) → s' ≡ s → a' ≡ a → b' ≡ b
    → QueueFits site word s a b → QueueFits site word s' a' b'
same_fits site word s s' a a' b b' e g i fits =
    subst (λ x. QueueFits site word x a' b') (sym e)
    (subst (λ x. QueueFits site word s x b') (sym g)
    (subst (λ x. QueueFits site word s a x) (sym i) fits))

-- a queue whose words are the same
queue_stays : (site : Site) (word word' : ℕ → ℕ) (s : QueueState) (a : Pushing) (b : Popping)
    → ((at : ℕ) → IsPlace site.base (size site) at → word' at ≡ word at) → QueueFits site word s a b → QueueFits site word' s a b
queue_stays site word word' s a b same fits = (
  same site.base (omega arith, omega arith) ∙ fits.0,
  fits_frame site word word' s.waiting s.hand a b same fits.1,
)

-- where the node's new program looks as its old one did, nobody's looks otherwise
cut_kept : {A : Type 0} (f : Program → A) (programs : ℕ → Program) (n k : ℕ) (program program' : Program) → programs n ≡ program
    → f program' ≡ f program → f (put_at programs n program' k) ≡ f (programs k)
cut_kept f programs n k program program' is same = elim (cases_Bool (k == n)) [
  | inl here ↦ (let e : programs k ≡ program = ap programs (eqb-true k n here) ∙ is in rw here (same ∙ sym (ap f e)))
  | inr other ↦ rw other refl
]

put_here : (programs : ℕ → Program) (n k : ℕ) (program : Program) → k ≡ n → put_at programs n program k ≡ program
put_here programs n k program e = rw (eq-eqb k n e) refl

abbrev way_in : Way → Piece → Way
way_in u (StateWord v) = v
way_in u x = u

abbrev port_in : ℕ → Piece → ℕ
port_in p (Region q) = q
port_in p x = p

module _ (p : WireLayout) (word word' : ℕ → ℕ) (programs : ℕ → Program) (c : WireContents) (n : ℕ) (program : Program) (sized : IsSized p)
    (fits : WordsFit p word programs c) (is : programs n ≡ program) where
  -- ---- an access within one piece
  module _ (x : Piece) (there : IsPiece p.sizes x) (access : Access) (within : IsWithin (piece_place p.sizes x) (piece_size p.sizes x) access) where
    in_words : IsWithin 0 (total_words p.sizes) access
    in_words =
        let room : piece_place p.sizes x + piece_size p.sizes x ≤ total_words p.sizes = pieces_are_within p.sizes x there in
        within_wider access (piece_place p.sizes x) (piece_size p.sizes x) 0 (total_words p.sizes) (omega arith) (omega arith) within

    module _ (made : AccessIsMade access word word') where
      same_word : (y : Piece) → IsPiece p.sizes y → (x ≡ y → ⊥) → (at : ℕ) → IsPlace (piece_place p.sizes y) (piece_size p.sizes y) at
          → word' at ≡ word at
      same_word y is_y other at place =
          let low : piece_place p.sizes y ≤ at = place.0 in
          let high : at < piece_place p.sizes y + piece_size p.sizes y = place.1 in
          changes_outside access word word' (piece_place p.sizes x) (piece_size p.sizes x) at made within
          (elim (pieces_are_apart p.sizes x y there is_y other) [ inl before ↦ inr (omega arith) | inr behind ↦ inl (omega arith) ])

      -- what is not in that piece stays; what is in it is shown
      keeps : (program' : Program) (c' : WireContents)
          → ((r : WireQueue) → (x ≡ QueueWords r → ⊥) → (pushing_in r program' ≡ pushing_in r program) × (popping_in r program' ≡ popping_in r program))
          → ((r : WireQueue) → (x ≡ QueueWords r → ⊥) → c'.queues r ≡ c.queues r)
          → ((y : Way) → (x ≡ StateWord y → ⊥) → c'.state y ≡ c.state y)
          → ((port k : ℕ) → (x ≡ Region port → ⊥) → c'.stored port k ≡ c.stored port k)
          → ((r : WireQueue) → x ≡ QueueWords r → IsQueue p.sizes r → QueueFits (site_of p r) word' (c'.queues r)
          (pushing_in r (put_at programs n program' (pusher_of p r))) (popping_in r (put_at programs n program' (popper_of p r))))
          → ((y : Way) → x ≡ StateWord y → word' (state_place p y) ≡ c'.state y)
          → ((port k : ℕ) → x ≡ Region port → k < p.sizes.region port → word' (word_place p port k) ≡ c'.stored port k)
          → WordsFit p word' (put_at programs n program') c'
      keeps program' c' cuts queues states stored own_queue own_state own_word = record {
        queues = λ r is_r. elim (same_or_other x (QueueWords r)) [
          | inl own ↦ own_queue r own is_r
          | inr other ↦ same_fits (site_of p r) word' (c.queues r) (c'.queues r)
              (pushing_in r (programs (pusher_of p r))) (pushing_in r (put_at programs n program' (pusher_of p r)))
              (popping_in r (programs (popper_of p r))) (popping_in r (put_at programs n program' (popper_of p r)))
              (queues r other)
              (cut_kept (pushing_in r) programs n (pusher_of p r) program program' is (cuts r other).0)
              (cut_kept (popping_in r) programs n (popper_of p r) program program' is (cuts r other).1)
              (queue_stays (site_of p r) word word' (c.queues r)
              (pushing_in r (programs (pusher_of p r))) (popping_in r (programs (popper_of p r)))
              (λ at place. same_word (QueueWords r) is_r other at
              (subst (λ k. IsPlace (piece_place p.sizes (QueueWords r)) k at) (sized r is_r) place))
              (fits.queues r is_r))
        ];
        states = λ y way. elim (same_or_other x (StateWord y)) [
          | inl own ↦ own_state y own
          | inr other ↦ (
              let one : piece_size p.sizes (StateWord y) ≡ 1 = piece_size-state p.sizes y way in
              same_word (StateWord y) way other (state_place p y) (omega arith, omega arith) ∙ fits.states y way ∙ sym (states y other)
              )
        ];
        regions = λ port k has below. elim (same_or_other x (Region port)) [
          | inl own ↦ own_word port k own below
          | inr other ↦ same_word (Region port) has other (word_place p port k) (omega arith, omega arith)
              ∙ fits.regions port k has below ∙ sym (stored port k other)
        ];
      }

  -- ---- a program of the party that pushes

  module _ (q : WireQueue) (place : Pushing) (now : program ≡ Pushes q place) (plays : IsQueue p.sizes q × (pusher_of p q ≡ n))
      (made : AccessIsMade (pushing_access (site_of p q) place) word word') where
    pub push_turn : KeepsQueue (site_of p q) word word' (c.queues q).waiting (c.queues q).hand (pushing_turn (site_of p q) word place (popping_in q (programs (popper_of p q))))
    push_turn =
        let at : pushing_in q (programs (pusher_of p q)) ≡ place =
        ap (λ k. pushing_in q (programs k)) plays.1 ∙ ap (pushing_in q) (is ∙ now) ∙ rw (same_queue-refl q) refl in
        pushing_keeps_changed (site_of p q) word (c.queues q).waiting (c.queues q).hand place (popping_in q (programs (popper_of p q)))
        (subst (λ a. Fits (site_of p q) word (c.queues q).waiting (c.queues q).hand a (popping_in q (programs (popper_of p q)))) at (fits.queues q plays.0).1)
        word' made

    push_within : IsWithin (piece_place p.sizes (QueueWords q)) (piece_size p.sizes (QueueWords q)) (pushing_access (site_of p q) place)
    push_within =
        subst (λ k. IsWithin (piece_place p.sizes (QueueWords q)) k (pushing_access (site_of p q) place)) (sized q plays.0) push_turn.within

    push_in_words : IsWithin 0 (total_words p.sizes) (pushing_access (site_of p q) place)
    push_in_words = in_words (QueueWords q) plays.0 (pushing_access (site_of p q) place) push_within

    push_keeps : let seen = seen_by (pushing_access (site_of p q) place) word in
        WordsFit p word' (put_at programs n (Pushes q (pushing_after (site_of p q) place seen))) (contents_after p (Pushes q place) seen c)
    push_keeps =
        let seen : ℕ = seen_by (pushing_access (site_of p q) place) word in
        let after : Pushing = pushing_after (site_of p q) place seen in
        let next : Program = Pushes q after in
        let c' : WireContents = contents_after p (Pushes q place) seen c in
        keeps (QueueWords q) plays.0 (pushing_access (site_of p q) place) push_within made next c'
        (λ r other. (
          rw (other_queue q r other) (sym (ap (pushing_in r) now ∙ rw (other_queue q r other) refl)),
          sym (ap (popping_in r) now),
        ))
        (λ r other. rw (other_queue q r other) refl)
        (λ y other. refl)
        (λ port k other. refl)
        (λ r own is_r. subst (λ t. QueueFits (site_of p t) word' (c'.queues t)
        (pushing_in t (put_at programs n next (pusher_of p t))) (popping_in t (put_at programs n next (popper_of p t))))
        (queue_is q r own)
        (same_fits (site_of p q) word' _ (c'.queues q) after (pushing_in q (put_at programs n next (pusher_of p q)))
        (popping_in q (programs (popper_of p q))) (popping_in q (put_at programs n next (popper_of p q)))
        (rw (same_queue-refl q) refl)
        (ap (pushing_in q) (put_here programs n (pusher_of p q) next plays.1) ∙ rw (same_queue-refl q) refl)
        (cut_kept (popping_in q) programs n (popper_of p q) program next is (sym (ap (popping_in q) now)))
        (push_turn.counts ∙ ap (write_after (pushing_event (site_of p q) place seen)) (fits.queues q plays.0).0, push_turn.fits)))
        (λ y own. never_same (QueueWords q) (StateWord y) refl own)
        (λ port k own below. never_same (QueueWords q) (Region port) refl own)

  -- ---- a program of the party that pops

  module _ (q : WireQueue) (place : Popping) (now : program ≡ Pops q place) (plays : IsQueue p.sizes q × (popper_of p q ≡ n))
      (made : AccessIsMade (popping_access (site_of p q) place) word word') where
    pub pop_turn : KeepsQueue (site_of p q) word word' (c.queues q).waiting (c.queues q).hand (popping_turn (site_of p q) word (pushing_in q (programs (pusher_of p q))) place)
    pop_turn =
        let at : popping_in q (programs (popper_of p q)) ≡ place =
        ap (λ k. popping_in q (programs k)) plays.1 ∙ ap (popping_in q) (is ∙ now) ∙ rw (same_queue-refl q) refl in
        popping_keeps_changed (site_of p q) word (c.queues q).waiting (c.queues q).hand (pushing_in q (programs (pusher_of p q))) place
        (subst (λ a. Fits (site_of p q) word (c.queues q).waiting (c.queues q).hand (pushing_in q (programs (pusher_of p q))) a) at (fits.queues q plays.0).1)
        word' made

    pop_within : IsWithin (piece_place p.sizes (QueueWords q)) (piece_size p.sizes (QueueWords q)) (popping_access (site_of p q) place)
    pop_within =
        subst (λ k. IsWithin (piece_place p.sizes (QueueWords q)) k (popping_access (site_of p q) place)) (sized q plays.0) pop_turn.within

    pop_in_words : IsWithin 0 (total_words p.sizes) (popping_access (site_of p q) place)
    pop_in_words = in_words (QueueWords q) plays.0 (popping_access (site_of p q) place) pop_within

    pop_keeps : let seen = seen_by (popping_access (site_of p q) place) word in
        WordsFit p word' (put_at programs n (Pops q (popping_after (site_of p q) place seen))) (contents_after p (Pops q place) seen c)
    pop_keeps =
        let seen : ℕ = seen_by (popping_access (site_of p q) place) word in
        let after : Popping = popping_after (site_of p q) place seen in
        let next : Program = Pops q after in
        let c' : WireContents = contents_after p (Pops q place) seen c in
        keeps (QueueWords q) plays.0 (popping_access (site_of p q) place) pop_within made next c'
        (λ r other. (
          sym (ap (pushing_in r) now),
          rw (other_queue q r other) (sym (ap (popping_in r) now ∙ rw (other_queue q r other) refl)),
        ))
        (λ r other. rw (other_queue q r other) refl)
        (λ y other. refl)
        (λ port k other. refl)
        (λ r own is_r. subst (λ t. QueueFits (site_of p t) word' (c'.queues t)
        (pushing_in t (put_at programs n next (pusher_of p t))) (popping_in t (put_at programs n next (popper_of p t))))
        (queue_is q r own)
        (same_fits (site_of p q) word' _ (c'.queues q) (pushing_in q (programs (pusher_of p q))) (pushing_in q (put_at programs n next (pusher_of p q)))
        after (popping_in q (put_at programs n next (popper_of p q)))
        (rw (same_queue-refl q) refl)
        (cut_kept (pushing_in q) programs n (pusher_of p q) program next is (sym (ap (pushing_in q) now)))
        (ap (popping_in q) (put_here programs n (popper_of p q) next plays.1) ∙ rw (same_queue-refl q) refl)
        (pop_turn.counts ∙ ap (write_after (popping_event (site_of p q) place seen)) (fits.queues q plays.0).0, pop_turn.fits)))
        (λ y own. never_same (QueueWords q) (StateWord y) refl own)
        (λ port k own below. never_same (QueueWords q) (Region port) refl own)

  -- ---- an access that plays no queue
  module _ (idle : (r : WireQueue) → (pushing_in r program ≡ pushing.AtRest) × (popping_in r program ≡ popping.AtRest)) where
    -- of a state
    module _ (way : Way) (there : IsResponseWay p.sizes way) (access : Access)
        (at : (size : ℕ) → size ≡ 1 → IsWithin (state_place p way) size access) where
      state_within : IsWithin (state_place p way) (piece_size p.sizes (StateWord way)) access
      state_within = at (piece_size p.sizes (StateWord way)) (piece_size-state p.sizes way there)

      state_in_words : IsWithin 0 (total_words p.sizes) access
      state_in_words = in_words (StateWord way) there access state_within

      state_keeps : AccessIsMade access word word' → (c' : WireContents) → ((r : WireQueue) → c'.queues r ≡ c.queues r)
          → ((y : Way) → (StateWord way ≡ StateWord y → ⊥) → c'.state y ≡ c.state y) → ((port k : ℕ) → c'.stored port k ≡ c.stored port k)
          → word' (state_place p way) ≡ c'.state way → WordsFit p word' (put_at programs n Rests) c'
      state_keeps made c' queues states stored own =
          keeps (StateWord way) there access state_within made Rests c' (λ r other. (sym (idle r).0, sym (idle r).1)) (λ r other. queues r) states
          (λ port k other. stored port k)
          (λ r e is_r. never_same (StateWord way) (QueueWords r) refl e)
          (λ y e. subst (λ u. word' (state_place p u) ≡ c'.state u) (ap (way_in way) e) own)
          (λ port k e below. never_same (StateWord way) (Region port) refl e)

    -- of a word of a message
    module _ (port number : ℕ) (there : has_number port p.sizes.ports ≡ true) (below : number < p.sizes.region port) (access : Access)
        (at : IsWithin (piece_place p.sizes (Region port)) (p.sizes.region port) access) where
      word_in_words : IsWithin 0 (total_words p.sizes) access
      word_in_words = in_words (Region port) there access at

      word_keeps : AccessIsMade access word word' → (c' : WireContents) → ((r : WireQueue) → c'.queues r ≡ c.queues r)
          → ((y : Way) → c'.state y ≡ c.state y) → ((q k : ℕ) → (Region port ≡ Region q → ⊥) → c'.stored q k ≡ c.stored q k)
          → ((k : ℕ) → k < p.sizes.region port → word' (word_place p port k) ≡ c'.stored port k)
          → WordsFit p word' (put_at programs n Rests) c'
      word_keeps made c' queues states stored own =
          keeps (Region port) there access at made Rests c' (λ r other. (sym (idle r).0, sym (idle r).1)) (λ r other. queues r)
          (λ y other. states y) stored
          (λ r e is_r. never_same (Region port) (QueueWords r) refl e)
          (λ y e. never_same (Region port) (StateWord y) refl e)
          (λ q k e less. subst (λ u. k < p.sizes.region u → word' (word_place p u k) ≡ c'.stored u k) (ap (port_in port) e) (own k) less)

-- ---- every program

other_state : (w y : Way) → (StateWord w ≡ StateWord y → ⊥) → same_way y w ≡ false
other_state w y other = elim (cases_Bool (same_way y w)) [
  | inl same ↦ absurd (other (ap (λ u. StateWord u) (sym (same_way-true y w same))))
  | inr apart ↦ apart
]

other_port : (port q : ℕ) → (Region port ≡ Region q → ⊥) → (q == port) ≡ false
other_port port q other = elim (cases_Bool (q == port)) [
  | inl same ↦ absurd (other (ap (λ k. Region k) (sym (eqb-true q port same))))
  | inr apart ↦ apart
]

in_one : (base size : ℕ) → size ≡ 1 → IsPlace base size base
in_one base size one = (omega arith, omega arith)

word_other : (base k number : ℕ) → (k == number) ≡ false → base + k ≡ base + number → ⊥
word_other base k number other same =
    let e : k ≡ number = omega arith in
    true≢false (sym (eq-eqb k number e) ∙ other)

pub each_access_keeps_the_words : EachAccessKeepsTheWords
each_access_keeps_the_words p word word' programs c n Rests sized fits is plays made = (tt, tt, rests_kept)
  where
    same : (at : ℕ) → word' at ≡ word at
    same at = elim (cases_Bool (at == 0)) [
      | inl here ↦ (let e : at ≡ 0 = eqb-true at 0 here in ap word' e ∙ made.0 ∙ ap word (sym e))
      | inr other ↦ made.1 at (λ e. true≢false (sym (eq-eqb at 0 e) ∙ other))
    ]

    rests_kept : WordsFit p word' (put_at programs n Rests) c
    rests_kept = record {
      queues = λ r is_r. same_fits (site_of p r) word' (c.queues r) (c.queues r)
          (pushing_in r (programs (pusher_of p r))) (pushing_in r (put_at programs n Rests (pusher_of p r)))
          (popping_in r (programs (popper_of p r))) (popping_in r (put_at programs n Rests (popper_of p r))) refl
          (cut_kept (pushing_in r) programs n (pusher_of p r) Rests Rests is refl)
          (cut_kept (popping_in r) programs n (popper_of p r) Rests Rests is refl)
          (queue_stays (site_of p r) word word' (c.queues r)
          (pushing_in r (programs (pusher_of p r))) (popping_in r (programs (popper_of p r))) (λ at place. same at) (fits.queues r is_r));
      states = λ y way. same (state_place p y) ∙ fits.states y way;
      regions = λ port k has below. same (word_place p port k) ∙ fits.regions port k has below;
    }
each_access_keeps_the_words p word word' programs c n (Pushes q place) sized fits is plays made = (
  push_in_words p word word' programs c n (Pushes q place) sized fits is q place refl plays made,
  push_turn p word word' programs c n (Pushes q place) sized fits is q place refl plays made,
  push_keeps p word word' programs c n (Pushes q place) sized fits is q place refl plays made,
)
each_access_keeps_the_words p word word' programs c n (Pops q place) sized fits is plays made = (
  pop_in_words p word word' programs c n (Pops q place) sized fits is q place refl plays made,
  pop_turn p word word' programs c n (Pops q place) sized fits is q place refl plays made,
  pop_keeps p word word' programs c n (Pops q place) sized fits is q place refl plays made,
)
each_access_keeps_the_words p word word' programs c n (LoadsState way) sized fits is plays made = (
  state_in_words p word word' programs c n (LoadsState way) sized fits is (λ r. (refl, refl)) way plays (Load (state_place p way)) (in_one (state_place p way)),
  fits.states way plays,
  state_keeps p word word' programs c n (LoadsState way) sized fits is (λ r. (refl, refl)) way plays (Load (state_place p way)) (in_one (state_place p way))
      made c (λ r. refl) (λ y other. refl) (λ port k. refl) (made.0 ∙ fits.states way plays),
)
each_access_keeps_the_words p word word' programs c n (StoresState way value) sized fits is plays made =
    let access : Access = Store (state_place p way) value in (
      state_in_words p word word' programs c n (StoresState way value) sized fits is (λ r. (refl, refl)) way plays access (in_one (state_place p way)),
      fits.states way plays,
      state_keeps p word word' programs c n (StoresState way value) sized fits is (λ r. (refl, refl)) way plays access (in_one (state_place p way))
          made (contents_after p (StoresState way value) (seen_by access word) c) (λ r. refl) (λ y other. rw (other_state way y other) refl) (λ port k. refl)
          (made.0 ∙ rw (same_way-refl way) refl),
    )
each_access_keeps_the_words p word word' programs c n (ExchangesState way old new) sized fits is plays made =
    let access : Access = CompareExchange (state_place p way) old new in (
      state_in_words p word word' programs c n (ExchangesState way old new) sized fits is (λ r. (refl, refl)) way plays access (in_one (state_place p way)),
      fits.states way plays,
      state_keeps p word word' programs c n (ExchangesState way old new) sized fits is (λ r. (refl, refl)) way plays access (in_one (state_place p way))
          made (contents_after p (ExchangesState way old new) (seen_by access word) c) (λ r. refl) (λ y other. rw (other_state way y other) refl) (λ port k. refl)
          (made.0 ∙ ap (λ k. if k == old then new else k) (fits.states way plays) ∙ rw (same_way-refl way) refl),
    )
each_access_keeps_the_words p word word' programs c n (LoadsWord port number) sized fits is plays made =
    let access : Access = Load (word_place p port number) in
    let place : IsPlace (piece_place p.sizes (Region port)) (p.sizes.region port) (word_place p port number) = (omega arith, omega (arith, plays.1)) in (
      word_in_words p word word' programs c n (LoadsWord port number) sized fits is (λ r. (refl, refl)) port number plays.0 plays.1 access place,
      fits.regions port number plays.0 plays.1,
      word_keeps p word word' programs c n (LoadsWord port number) sized fits is (λ r. (refl, refl)) port number plays.0 plays.1 access place
          made c (λ r. refl) (λ y. refl) (λ q k other. refl) (λ k below. loaded_at k ∙ fits.regions port k plays.0 below),
    )
  where
    loaded_at : (k : ℕ) → word' (word_place p port k) ≡ word (word_place p port k)
    loaded_at k = elim (cases_Bool (k == number)) [
      | inl same ↦ (
          let e : word_place p port k ≡ word_place p port number = ap (word_place p port) (eqb-true k number same) in
          ap word' e ∙ made.0 ∙ ap word (sym e)
          )
      | inr other ↦ made.1 (word_place p port k) (word_other (piece_place p.sizes (Region port)) k number other)
    ]
each_access_keeps_the_words p word word' programs c n (StoresWord port number value) sized fits is plays made =
    let access : Access = Store (word_place p port number) value in
    let place : IsPlace (piece_place p.sizes (Region port)) (p.sizes.region port) (word_place p port number) = (omega arith, omega (arith, plays.1)) in (
      word_in_words p word word' programs c n (StoresWord port number value) sized fits is (λ r. (refl, refl)) port number plays.0 plays.1 access place,
      fits.regions port number plays.0 plays.1,
      word_keeps p word word' programs c n (StoresWord port number value) sized fits is (λ r. (refl, refl)) port number plays.0 plays.1 access place
          made (contents_after p (StoresWord port number value) (seen_by access word) c) (λ r. refl) (λ y. refl) (λ q k other. rw (other_port port q other) refl)
          stored_at,
    )
  where
    stored_at : (k : ℕ) → k < p.sizes.region port → word' (word_place p port k) ≡ put_at c.stored port (put_at (c.stored port) number value) port k
    stored_at k below = rw (eq-eqb port port refl) (elim (cases_Bool (k == number)) [
      | inl same ↦ rw same (ap (λ i. word' (word_place p port i)) (eqb-true k number same) ∙ made.0)
      | inr other ↦ rw other (made.1 (word_place p port k) (word_other (piece_place p.sizes (Region port)) k number other) ∙ fits.regions port k plays.0 below)
    ])

-- ---- a list of words

pub each_access_keeps_the_list : EachAccessKeepsTheList
each_access_keeps_the_list p words programs c n program sized long fits is plays =
    let word : ℕ → ℕ = λ place. slice_index words place in
    let access : Access = program_access p program in
    let inside : IsWithin 0 (total_words p.sizes) access
    = (each_access_keeps_the_words p word (word_after access word) programs c n program sized fits is plays (after_changes access word)).0 in
    let within : IsWithin 0 (length words) access
    = within_wider access 0 (total_words p.sizes) 0 (length words) (omega arith) (omega arith) inside in
    let step = each_access_keeps_the_words p word (λ place. slice_index (words_after access words) place) programs c n program sized fits is plays
    (list_changes access words within) in
    (within, length-words_after access words, step.1, step.2)
