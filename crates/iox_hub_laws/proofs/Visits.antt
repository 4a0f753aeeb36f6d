-- What the visits of a receive come to, by what waits on its ways.
use Rattle.std.specs.Prelude.{◌≡◌, ◌⊎◌, ℕ, Bool, true, false, not, ◌&&◌, ◌||◌, ◌==◌, if◌then◌else◌, List, [], ◌∷◌, map, Option, Some, None, refl}
use Rattle.std.proofs.Common.{sym, ap, subst, ◌∙◌, true≢false, inl, inr, eqb-true}
use Rattle.std.proofs.lemmas.Option.{none-some, same_Some}
use Rattle.iox_model.specs.declared.reply.Refusal.TheVariants.{ExceedsMaxBorrows}
use Rattle.iox_model.specs.declared.reply.Reply.TheVariants as replies
use Rattle.iox_model.specs.declared.way.Way.{Way}
use Rattle.iox_model.specs.Doings.{Outcome, Receives, Receiver, Tells}
use Rattle.iox_model.specs.Maps.{AreDistinct, has_number, is_empty, same_way}
use Rattle.iox_model.specs.Messages.{Message}
use Rattle.iox_model.specs.Receives.{is_at_limit}
use Rattle.iox_model.specs.States.{State}
use Rattle.iox_laws.specs.CallFunctions.Searches.{after_first, first_that, fits, found_or, searched, visited}
use Rattle.iox_laws.specs.MessageLaws.Lists.{IsOneOf}
use Rattle.iox_laws.proofs.WeaveLaws.MapLemmas.{eqb-refl, put-else}
use Rattle.iox_tables.specs.HubStates.Receives.{way_to}

-- ---- the first that passes a test

first_is_one : (test : Message → Bool) (ms : List Message) (m : Message) → first_that test ms ≡ Some m → IsOneOf m ms × (test m ≡ true)
first_is_one test [] m e = absurd (none-some m e)
first_is_one test (a ∷ ms) m e = step (test a) refl e (first_is_one test ms m)
  where
    step : (b : Bool) → test a ≡ b → (if b then Some a else first_that test ms) ≡ Some m → (first_that test ms ≡ Some m → IsOneOf m ms × (test m ≡ true))
        → IsOneOf m (a ∷ ms) × (test m ≡ true)
    step true passes h rest =
        let same : a ≡ m = same_Some a m h in (inl (sym same), subst (λ (n : Message). test n ≡ true) same passes)
    step false fails h rest = let r = rest h in (inr r.0, r.1)

none_is_first : (test : Message → Bool) (ms : List Message) → first_that test ms ≡ None → (m : Message) → IsOneOf m ms → test m ≡ true → ⊥
none_is_first test [] e m p passes = p
none_is_first test (a ∷ ms) e m p passes = step (test a) refl e (none_is_first test ms) p
  where
    step : (b : Bool) → test a ≡ b → (if b then Some a else first_that test ms) ≡ None
        → (first_that test ms ≡ None → (n : Message) → IsOneOf n ms → test n ≡ true → ⊥) → IsOneOf m (a ∷ ms) → ⊥
    step true fits_it h rest q = none-some a (sym h)
    step false fails h rest (inl is) = true≢false (sym passes ∙ ap test is ∙ fails)
    step false fails h rest (inr q) = rest h m q passes

some_of : (ms : List Message) → is_empty ms ≡ false → (m : Message) × IsOneOf m ms
some_of [] e = absurd (true≢false e)
some_of (m ∷ ms) e = (m, inl refl)

none_of_empty : (ms : List Message) → is_empty ms ≡ true → (m : Message) → IsOneOf m ms → ⊥
none_of_empty [] e m p = p
none_of_empty (a ∷ ms) e m p = true≢false (sym e)

-- ---- what visits say

module _ (z : State) (x : Receiver) where
  -- the message can be received from that sender
  pub record Comes (sender : ℕ) (m : Message) : Type 0 where
    pub waits : IsOneOf m (z.waiting (way_to x sender))
    pub fit : fits z x (way_to x sender) m ≡ true
    pub room : is_at_limit z.fixed (way_to x sender) ≡ false

  -- it is held back
  pub record Stays (sender : ℕ) (m : Message) : Type 0 where
    pub waits : IsOneOf m (z.waiting (way_to x sender))
    pub most : is_at_limit z.fixed (way_to x sender) ≡ true

  abbrev pub NoneComes : List ℕ → Type 0
  NoneComes ns = (sender : ℕ) (m : Message) → has_number sender ns ≡ true → Comes sender m → ⊥

  abbrev pub NoneStays : List ℕ → Type 0
  NoneStays ns = (sender : ℕ) (m : Message) → has_number sender ns ≡ true → Stays sender m → ⊥

  abbrev pub SomeStays : Type 0
  SomeStays = (sender : ℕ) × (m : Message) × Stays sender m

  -- a message was received
  pub record Got (o : Outcome) : Type 0 where
    pub sender : ℕ
    pub message : Message
    pub comes : Comes sender message
    pub is : o ≡ Receives x (way_to x sender) message

  -- nothing can be
  pub record Passed (ns : List ℕ) (seen : Bool) (o : Outcome) : Type 0 where
    pub unseen : seen ≡ false
    pub none : NoneComes ns
    pub all : NoneStays ns
    pub is : o ≡ Tells replies.Nothing

  -- nothing can be, but something is held back
  pub record Held (ns : List ℕ) (seen : Bool) (o : Outcome) : Type 0 where
    pub none : NoneComes ns
    pub some : (seen ≡ true) ⊎ SomeStays
    pub is : o ≡ Tells (replies.Refused ExceedsMaxBorrows)

  abbrev pub Says : List ℕ → Bool → Outcome → Type 0
  Says ns seen o = Got o ⊎ (Passed ns seen o ⊎ Held ns seen o)

  -- of the senders that are left, another state shows the same
  record Agrees (s : State) (ns : List ℕ) : Type 0 where
    pub waiting : (n : ℕ) → has_number n ns ≡ true → s.waiting (way_to x n) ≡ z.waiting (way_to x n)
    pub tests : (w : Way) (m : Message) → fits s x w m ≡ fits z x w m
    pub limits : (w : Way) → is_at_limit s.fixed w ≡ is_at_limit z.fixed w

  fewer : (s : State) (n : ℕ) (ns : List ℕ) → Agrees s (n ∷ ns) → Agrees s ns
  fewer s n ns a = record { waiting = λ k e. a.waiting k (behind k e); tests = a.tests; limits = a.limits }
    where
      behind : (k : ℕ) → has_number k ns ≡ true → has_number k (n ∷ ns) ≡ true
      behind k e = step (n == k)
        where
          step : (b : Bool) → (b || has_number k ns) ≡ true
          step true = refl
          step false = e

  -- the first of the senders, or one behind it
  cases : (P : ℕ → Type 0) (n k : ℕ) (ns : List ℕ) → has_number k (n ∷ ns) ≡ true → P n → (has_number k ns ≡ true → P k) → P k
  cases P n k ns e here behind = step (n == k) refl e
    where
      step : (b : Bool) → (n == k) ≡ b → (b || has_number k ns) ≡ true → P k
      step true is h = subst P (eqb-true n k is) here
      step false is h = behind h

  -- the search of one way leaves the others as they are
  others : (s : State) (n : ℕ) (ns : List ℕ) → has_number n ns ≡ false → Agrees s (n ∷ ns) → Agrees (searched s x (way_to x n)) ns
  others s n ns apart a = record {
    waiting = λ k e. put-else s.waiting (way_to x n) (after_first (fits s x (way_to x n)) (s.waiting (way_to x n))) (way_to x k) (other k e)
        ∙ (fewer s n ns a).waiting k e;
    tests = a.tests;
    limits = a.limits;
  }
    where
      other : (k : ℕ) → has_number k ns ≡ true → same_way (way_to x k) (way_to x n) ≡ false
      other k e = step (k == n) refl
        where
          step : (b : Bool) → (k == n) ≡ b → (b && ((x.port == x.port) && (x.lane == x.lane))) ≡ false
          step true is = absurd (true≢false (sym e ∙ ap (λ j. has_number j ns) (eqb-true k n is) ∙ apart))
          step false is = refl

  head_in : (n : ℕ) (ns : List ℕ) → has_number n (n ∷ ns) ≡ true
  head_in n ns = ap (λ b. b || has_number n ns) (eqb-refl n)

  either_true : (a b : Bool) → (a || b) ≡ true → (a ≡ true) ⊎ (b ≡ true)
  either_true true b e = inl refl
  either_true false b e = inr e

  both_false : (a b : Bool) → (a || b) ≡ false → (a ≡ false) × (b ≡ false)
  both_false true b e = absurd (true≢false e)
  both_false false b e = (refl, e)

  not_not : (b : Bool) → not b ≡ false → b ≡ true
  not_not true e = refl
  not_not false e = sym e

  not_is : (b : Bool) → not b ≡ true → b ≡ false
  not_is true e = absurd (true≢false (sym e))
  not_is false e = refl

  none_comes : (n : ℕ) (ns : List ℕ) → ((m : Message) → Comes n m → ⊥) → NoneComes ns → NoneComes (n ∷ ns)
  none_comes n ns here behind k m in_ns = cases (λ j. Comes j m → ⊥) n k ns in_ns (here m) (λ there. behind k m there)

  -- a sender of whom the receiver has its most is passed over
  passed_over : (n : ℕ) (ns : List ℕ) (seen : Bool) (o : Outcome) → is_at_limit z.fixed (way_to x n) ≡ true
      → Says ns (seen || not (is_empty (z.waiting (way_to x n)))) o → Says (n ∷ ns) seen o
  passed_over n ns seen o most (inl g) = inl g
  passed_over n ns seen o most (inr (inl p)) =
      let e = both_false seen (not (is_empty (z.waiting (way_to x n)))) p.unseen in
      inr (inl (record {
        unseen = e.0;
        none = none_comes n ns (λ m c. true≢false (sym most ∙ c.room)) p.none;
        all = λ k m in_ns. cases (λ j. Stays j m → ⊥) n k ns in_ns
            (λ st. none_of_empty (z.waiting (way_to x n)) (not_not (is_empty (z.waiting (way_to x n))) e.1) m st.waits)
            (λ there. p.all k m there);
        is = p.is;
      }))
  passed_over n ns seen o most (inr (inr h)) =
      inr (inr (record { none = none_comes n ns (λ m c. true≢false (sym most ∙ c.room)) h.none; some = some h.some; is = h.is }))
    where
      some : ((seen || not (is_empty (z.waiting (way_to x n)))) ≡ true) ⊎ SomeStays → (seen ≡ true) ⊎ SomeStays
      some (inr st) = inr st
      some (inl e) = by_case (either_true seen (not (is_empty (z.waiting (way_to x n)))) e)
        where
          by_case : (seen ≡ true) ⊎ (not (is_empty (z.waiting (way_to x n))) ≡ true) → (seen ≡ true) ⊎ SomeStays
          by_case (inl f) = inl f
          by_case (inr f) =
              let p = some_of (z.waiting (way_to x n)) (not_is (is_empty (z.waiting (way_to x n))) f) in
              inr (n, p.0, record { waits = p.1; most = most })

  -- so is one of whom nothing that waits fits
  unfit : (n : ℕ) (ns : List ℕ) (seen : Bool) (o : Outcome) → is_at_limit z.fixed (way_to x n) ≡ false
      → ((m : Message) → IsOneOf m (z.waiting (way_to x n)) → fits z x (way_to x n) m ≡ true → ⊥) → Says ns seen o → Says (n ∷ ns) seen o
  unfit n ns seen o room none (inl g) = inl g
  unfit n ns seen o room none (inr (inl p)) =
      inr (inl (record {
        unseen = p.unseen;
        none = none_comes n ns (λ m c. none m c.waits c.fit) p.none;
        all = λ k m in_ns. cases (λ j. Stays j m → ⊥) n k ns in_ns (λ st. true≢false (sym st.most ∙ room)) (λ there. p.all k m there);
        is = p.is;
      }))
  unfit n ns seen o room none (inr (inr h)) =
      inr (inr (record { none = none_comes n ns (λ m c. none m c.waits c.fit) h.none; some = h.some; is = h.is }))

  -- the visit to one sender, and those to the others
  one : (s : State) (n : ℕ) (ns : List ℕ) (seen : Bool) → Agrees s (n ∷ ns)
      → Says ns (seen || not (is_empty (s.waiting (way_to x n)))) (visited s x (map (way_to x) ns) (seen || not (is_empty (s.waiting (way_to x n))))).0
      → Says ns seen (visited (searched s x (way_to x n)) x (map (way_to x) ns) seen).0
      → Says (n ∷ ns) seen (visited s x (map (way_to x) (n ∷ ns)) seen).0
  one s n ns seen a over on = step (is_at_limit s.fixed (way_to x n)) refl
    where
      waiting : s.waiting (way_to x n) ≡ z.waiting (way_to x n)
      waiting = a.waiting n (head_in n ns)

      look : (o : Option Message) → first_that (fits s x (way_to x n)) (s.waiting (way_to x n)) ≡ o → is_at_limit z.fixed (way_to x n) ≡ false
          → Says (n ∷ ns) seen
          (found_or o (λ m. (Receives x (way_to x n) m, searched s x (way_to x n))) (visited (searched s x (way_to x n)) x (map (way_to x) ns) seen)).0
      look (Some m) e room =
          let p = first_is_one (fits s x (way_to x n)) (s.waiting (way_to x n)) m e in
          inl (record {
            sender = n;
            message = m;
            comes = record { waits = subst (IsOneOf m) waiting p.0; fit = sym (a.tests (way_to x n) m) ∙ p.1; room = room };
            is = refl;
          })
      look None e room =
          unfit n ns seen (visited (searched s x (way_to x n)) x (map (way_to x) ns) seen).0 room
          (λ m p fit.
          none_is_first (fits s x (way_to x n)) (s.waiting (way_to x n)) e m (subst (IsOneOf m) (sym waiting) p)
          (a.tests (way_to x n) m ∙ fit))
          on

      step : (b : Bool) → is_at_limit s.fixed (way_to x n) ≡ b
          → Says (n ∷ ns) seen
          (if b then visited s x (map (way_to x) ns) (seen || not (is_empty (s.waiting (way_to x n))))
          else found_or (first_that (fits s x (way_to x n)) (s.waiting (way_to x n))) (λ m. (Receives x (way_to x n) m, searched s x (way_to x n)))
          (visited (searched s x (way_to x n)) x (map (way_to x) ns) seen)).0
      step true e =
          passed_over n ns seen (visited s x (map (way_to x) ns) (seen || not (is_empty (s.waiting (way_to x n))))).0
          (sym (a.limits (way_to x n)) ∙ e)
          (subst (λ ms. Says ns (seen || not (is_empty ms)) (visited s x (map (way_to x) ns) (seen || not (is_empty (s.waiting (way_to x n))))).0) waiting
          over)
      step false e = look (first_that (fits s x (way_to x n)) (s.waiting (way_to x n))) refl (sym (a.limits (way_to x n)) ∙ e)

  says : (s : State) (ns : List ℕ) (seen : Bool) → AreDistinct ns → Agrees s ns → Says ns seen (visited s x (map (way_to x) ns) seen).0
  says s [] true apart a =
      inr (inr (record { none = λ k m e. absurd (true≢false (sym e)); some = inl refl; is = refl }))
  says s [] false apart a =
      inr (inl (record { unseen = refl; none = λ k m e. absurd (true≢false (sym e)); all = λ k m e. absurd (true≢false (sym e)); is = refl }))
  says s (n ∷ ns) seen apart a =
      one s n ns seen a (says s ns (seen || not (is_empty (s.waiting (way_to x n)))) apart.1 (fewer s n ns a))
      (says (searched s x (way_to x n)) ns seen apart.1 (others s n ns apart.0 a))

  -- the visits to these senders
  pub visits_say : (ns : List ℕ) → AreDistinct ns → Says ns false (visited z x (map (way_to x) ns) false).0
  visits_say ns apart = says z ns false apart (record { waiting = λ k e. refl; tests = λ w m. refl; limits = λ w. refl })
