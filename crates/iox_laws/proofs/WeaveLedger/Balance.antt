-- A moment keeps the record and its size.
use Rattle.std.specs.Prelude.{◌≡◌, ℕ, ◌+◌, ◌≤◌, Bool, true, false, not, if◌then◌else◌, ◌==◌, List, [], ◌∷◌, length, Option, Some, None, ⊤, refl}
use Rattle.std.proofs.Common.{sym, subst, ap, ◌∙◌, arith, eqb-true, eq-eqb, true≢false, inl, inr}
use Rattle.std.proofs.lemmas.List.{length-map}
use Rattle.iox_model.specs.declared.way.Way.{Way}
use Rattle.iox_model.specs.Doings.{Doing, Delivering}
use Rattle.iox_laws.specs.WeaveLaws.Ledgers.{is_emptied_by, held_on}
use Rattle.iox_model.specs.Maps.{is_empty, put_at, same_way}
use Rattle.iox_model.specs.Messages.{serials_of, Message}
use Rattle.iox_model.specs.Moments.{Holds, moved, Moment, Deliver, Evict}
use Rattle.iox_model.specs.Peers.{buffer_on, borrow_limit_on}
use Rattle.iox_model.specs.States.{Fixed, State}
use Rattle.iox_model.specs.Transitions.{next}
use Rattle.iox_model.specs.Weaves.{World}
use Rattle.iox_laws.proofs.WeaveLaws.MapLemmas.{same_way-true}
use Rattle.iox_laws.specs.WeaveLedger.QueueLaws.{evicts_next, has_evicted}
use Rattle.iox_laws.proofs.WeaveLedger.Counts.{count, one_if}
use Rattle.iox_laws.proofs.WeaveLedger.Lists.{no-length}
use Rattle.iox_laws.proofs.WeaveLedger.Truths.{never}
use Rattle.iox_laws.proofs.WeaveLedger.Views.{view, IsAt, node_in}
use Rattle.iox_laws.proofs.WeaveLedger.Senders.{FitsDoing}
use Rattle.iox_laws.proofs.WeaveLedger.Worlds.{SoundWorld, doing-is}
use Rattle.iox_laws.proofs.WeaveLedger.Buffers.{of_call, Holding, deliver-sends, evict-sends}
use Rattle.iox_laws.proofs.WeaveLedger.Borrows.{BorrowFits, held-few}
use Rattle.iox_laws.proofs.WeaveLedger.Tallies.{count-all}
use Rattle.iox_laws.proofs.WeaveLedger.Had.{FitsRelease, put_on, taken_on, given_on, got_on, else-taken, else-given}
use Rattle.iox_laws.proofs.WeaveLedger.HadMoves.{own-had}
use Rattle.iox_laws.proofs.WeaveLedger.Emptied.{SawNone, next-emptied, deliver-emptied}
use Rattle.iox_laws.proofs.WeaveLedger.Live.{IsLive, live-counted, live-receiver}
use Rattle.iox_laws.proofs.WeaveLedger.Outs.{out, is, HandFits, moved-shifts, out-follows, got-out, moved-record}

abbrev pub any : ℕ → Bool
any k = true

abbrev pub had_of : Fixed → (ℕ → Option Doing) → Way → ℕ → List ℕ
had_of f doing y r = held_on y (f.handles r) (doing r)

abbrev pub emptied_of : Fixed → Way → Option Doing → Bool
emptied_of f y o = of_call (is_emptied_by f) y o

-- of a way whose sender is a port of node n, and whose receiver one of node r
pub record Balanced (f : Fixed) (s : State) (doing : ℕ → Option Doing) (y : Way) (n r : ℕ) : Type 0 where
  pub counts : (k : ℕ) → out (is k) s y (had_of f doing y r) ≡ one_if (s.delivered y k)
  pub size : out any s y (had_of f doing y r) ≤ buffer_on f y + borrow_limit_on f y + one_if (not (emptied_of f y (doing n)))

abbrev pub CallRelease : Option Doing → Type 0
CallRelease None = ⊤
CallRelease (Some d) = FitsRelease d

pub release-is : (o : Option Doing) (d : Doing) → o ≡ Some d → CallRelease o → FitsRelease d
release-is o d e p = subst CallRelease e p

-- ---- what the receiver has

pub had-follows : (w : World) (node r : ℕ) (d : Doing) (m : Moment) (y : Way) (value : ℕ → Bool) → SoundWorld w → w.doing node ≡ Some d
    → (next w.state node d m).condition → IsAt w.state.fixed.ports y.receiver r → IsLive w.state.fixed y → CallRelease (w.doing r)
    → count value (had_of w.state.fixed (put_at w.doing node (Some (next w.state node d m).after)) y r) + count value (given_on y m)
    ≡ count value (had_of w.state.fixed w.doing y r) + count value (taken_on y m)
had-follows w node r d m y value fits at_work c at live release = by_case (r == node) refl
  where
    fits-here : FitsDoing (view w.state.fixed node) node d
    fits-here = doing-is w node d fits at_work

    by_case : (b : Bool) → (r == node) ≡ b
        → count value (held_on y (w.state.fixed.handles r) (if b then Some (next w.state node d m).after else w.doing r)) + count value (given_on y m)
        ≡ count value (held_on y (w.state.fixed.handles r) (w.doing r)) + count value (taken_on y m)
    by_case true e =
        let same : r ≡ node = eqb-true r node e in
        let doing : w.doing r ≡ Some d = ap w.doing same ∙ at_work in
        subst (λ (o : Option Doing). count value (held_on y (w.state.fixed.handles r) (Some (next w.state node d m).after)) + count value (given_on y m)
        ≡ count value (held_on y (w.state.fixed.handles r) o) + count value (taken_on y m)) (sym doing)
        (subst (λ j. count value (held_on y (w.state.fixed.handles j) (Some (next w.state node d m).after)) + count value (given_on y m)
        ≡ count value (held_on y (w.state.fixed.handles j) (Some d)) + count value (taken_on y m)) (sym same)
        (own-had w.state node d m y value (fits.handles node).apart fits-here (release-is (w.doing r) d doing release)
        (live-receiver w.state.fixed y node live (at ∙ same)) c))
    by_case false e =
        ap (λ ks. count value (held_on y (w.state.fixed.handles r) (w.doing r)) + count value ks)
        (else-given w.state r node d m y (fits.handles node) fits-here c at apart ∙ sym (else-taken w.state r node d m y fits-here c at apart))
      where
        apart : r ≡ node → ⊥
        apart same = never (r == node) (eq-eqb r node same) e

-- ---- what the sender has in hand

evicts-fresh : (s : State) (n : ℕ) (d : Doing) (x y : Way) → (next s n d (Evict x)).condition → has_evicted y d ≡ false
evicts-fresh s n (Delivering z last left count) x y c = refl
evicts-fresh s n d x y c = absurd c

hand-fits : (w : World) (node n : ℕ) (d : Doing) (m : Moment) (y : Way) → SoundWorld w → w.doing node ≡ Some d → (next w.state node d m).condition
    → IsAt w.state.fixed.ports y.sender n → Holding w.state y (w.doing n) → HandFits w.state y m
hand-fits w node n d (Evict x) y fits at_work c at holding = λ same.
    let here : n ≡ node = sym at ∙ ap (λ (u : Way). node_in w.state.fixed.ports u.sender) (same_way-true y x same)
    ∙ evict-sends w.state node d x (doing-is w node d fits at_work) c in
    no-length (w.state.in_hand y)
    (subst (λ b. length (w.state.in_hand y) ≤ one_if b) (evicts-fresh w.state node d x y c)
    (subst (λ o. length (w.state.in_hand y) ≤ one_if (of_call has_evicted y o)) (ap w.doing here ∙ at_work) holding.hand))
hand-fits w node n d m y fits at_work c at holding = tt

hand-few : (s : State) (y : Way) (o : Option Doing) → Holding s y o → length (s.in_hand y) ≤ 1
hand-few s y o holding = at_most_one (of_call has_evicted y o) holding.hand
  where
    at_most_one : (b : Bool) → length (s.in_hand y) ≤ one_if b → length (s.in_hand y) ≤ 1
    at_most_one true p = p
    at_most_one false p = omega arith

-- ---- what the sender puts there

pub else-put : (s : State) (node n : ℕ) (d : Doing) (m : Moment) (y : Way) → FitsDoing (view s.fixed node) node d → (next s node d m).condition
    → IsAt s.fixed.ports y.sender n → (n ≡ node → ⊥) → put_on y m ≡ []
else-put s node n d (Deliver x m) y p c at apart = by_case (same_way y x) (same_way-true y x)
  where
    by_case : (b : Bool) → (b ≡ true → y ≡ x) → (if b then m.serial ∷ [] else []) ≡ []
    by_case true e = absurd (apart (sym at ∙ ap (λ (w : Way). node_in s.fixed.ports w.sender) (e refl) ∙ deliver-sends s node d x m p c))
    by_case false e = refl
else-put s node n d m y p c at apart = refl

-- only where the way was emptied
put-few : (s : State) (n : ℕ) (d : Doing) (m : Moment) (y : Way) → (next s n d m).condition → count any (put_on y m) ≤ one_if (is_emptied_by s.fixed y d)
put-few s n d (Deliver x m) y c = by_case (same_way y x) (deliver-emptied s n d x y m c)
  where
    by_case : (b : Bool) → (b ≡ true → is_emptied_by s.fixed y d ≡ true) → count any (if b then m.serial ∷ [] else []) ≤ one_if (is_emptied_by s.fixed y d)
    by_case true e = rw (e refl) (omega arith)
    by_case false e = at_least (one_if (is_emptied_by s.fixed y d))
      where
        at_least : (a : ℕ) → 0 ≤ a
        at_least a = omega arith
put-few s n d m y c = at_least (one_if (is_emptied_by s.fixed y d))
  where
    at_least : (a : ℕ) → 0 ≤ a
    at_least a = omega arith

-- ---- the size

-- where nothing was given back, nothing is in hand, and the last delivery leaves no more than the buffer
pub saw-within : (w : World) (n r : ℕ) (d : Doing) (m : Moment) (y : Way) → SoundWorld w → w.doing n ≡ Some d → Holds w.state m → SawNone y d m
    → IsAt w.state.fixed.ports y.receiver r → Holding w.state y (w.doing n) → BorrowFits (view w.state.fixed r) r
    → out any w.state y (had_of w.state.fixed w.doing y r) ≤ buffer_on w.state.fixed y + borrow_limit_on w.state.fixed y
saw-within w n r d m y fits at_work holds saw at holding borrows =
    sum (count any (serials_of (w.state.waiting y))) (count any (had_of w.state.fixed w.doing y r)) (count any (w.state.returned y))
    (count any (w.state.in_hand y))
    (buffer_on w.state.fixed y) (borrow_limit_on w.state.fixed y) waits has none hand
  where
    sum : (a b c d e f : ℕ) → a ≤ e → b ≤ f → c ≡ 0 → d ≤ 0 → a + b + c + d ≤ e + f
    sum a b c d e f p q r t = omega arith

    waits : count any (serials_of (w.state.waiting y)) ≤ buffer_on w.state.fixed y
    waits =
        subst (λ k. k ≤ buffer_on w.state.fixed y)
        (sym (count-all (serials_of (w.state.waiting y)) ∙ length-map (w.state.waiting y) (λ (m : Message). m.serial)))
        (plain (length (w.state.waiting y)) (buffer_on w.state.fixed y)
        (subst (λ b. length (w.state.waiting y) ≤ buffer_on w.state.fixed y + one_if b) saw.1
        (subst (λ o. length (w.state.waiting y) ≤ buffer_on w.state.fixed y + one_if (of_call evicts_next y o)) at_work holding.waits)))
      where
        plain : (a b : ℕ) → a ≤ b + 0 → a ≤ b
        plain a b p = omega arith

    has : count any (had_of w.state.fixed w.doing y r) ≤ borrow_limit_on w.state.fixed y
    has =
        subst (λ k. k ≤ borrow_limit_on w.state.fixed y) (sym (count-all (had_of w.state.fixed w.doing y r)))
        (held-few (view w.state.fixed r) r y (w.doing r) at (fits.doing r) borrows)

    empty : (ks : List ℕ) → is_empty ks ≡ true → count any ks ≡ 0
    empty [] e = refl
    empty (k ∷ ks) e = absurd (true≢false (sym e))

    none : count any (w.state.returned y) ≡ 0
    none = empty (w.state.returned y) (subst (Holds w.state) saw.0 holds)

    hand : count any (w.state.in_hand y) ≤ 0
    hand =
        subst (λ k. k ≤ 0) (sym (count-all (w.state.in_hand y)))
        (subst (λ b. length (w.state.in_hand y) ≤ one_if b) saw.2
        (subst (λ o. length (w.state.in_hand y) ≤ one_if (of_call has_evicted y o)) at_work holding.hand))

moved-within : (w : World) (node n r : ℕ) (d : Doing) (m : Moment) (y : Way) (size : ℕ) → SoundWorld w → w.doing node ≡ Some d → Holds w.state m
    → (next w.state node d m).condition → IsAt w.state.fixed.ports y.sender n → IsAt w.state.fixed.ports y.receiver r → Holding w.state y (w.doing n)
    → BorrowFits (view w.state.fixed r) r → Balanced w.state.fixed w.state w.doing y n r
    → size + count any (got_on y m) ≡ out any w.state y (had_of w.state.fixed w.doing y r) + count any (put_on y m)
    → size ≤ buffer_on w.state.fixed y + borrow_limit_on w.state.fixed y
    + one_if (not (emptied_of w.state.fixed y (put_at w.doing node (Some (next w.state node d m).after) n)))
moved-within w node n r d m y size fits at_work holds c at there holding borrows p follows = by_case (n == node) refl
  where
    fits-here : FitsDoing (view w.state.fixed node) node d
    fits-here = doing-is w node d fits at_work

    all : ℕ
    all = buffer_on w.state.fixed y + borrow_limit_on w.state.fixed y

    before : ℕ
    before = out any w.state y (had_of w.state.fixed w.doing y r)

    no-more : (a b c d e : ℕ) → a + b ≡ c + d → d ≡ 0 → c ≤ e → a ≤ e
    no-more a b c d e p q r = omega arith

    put-none : put_on y m ≡ [] → count any (put_on y m) ≡ 0
    put-none e = ap (count any) e

    -- the sender's own moment
    own : w.doing n ≡ Some d → (b : Bool) → is_emptied_by w.state.fixed y (next w.state node d m).after ≡ b → n ≡ node → size ≤ all + one_if (not b)
    own doing true e same = elim (next-emptied w.state node d m y fits-here c e) as (λ z. size ≤ all + 0) [
      | inl was ↦ no-more size (count any (got_on y m)) before (count any (put_on y m)) (all + 0) follows (put-none was.1)
          (subst (λ b. before ≤ all + one_if (not b)) (ap (emptied_of w.state.fixed y) doing ∙ was.0) p.size)
      | inr saw ↦ no-more size (count any (got_on y m)) before (count any (put_on y m)) (all + 0) follows (ap (λ (x : Moment). count any (put_on y x)) saw.0)
          (plus (saw-within w n r d m y fits doing holds saw there holding borrows))
    ]
      where
        plus : before ≤ all → before ≤ all + 0
        plus q = omega arith
    own doing false e same =
        one-more (is_emptied_by w.state.fixed y d) (subst (λ o. before ≤ all + one_if (not (emptied_of w.state.fixed y o))) doing p.size)
        (put-few w.state node d m y c)
      where
        adds : (a b c d e f g : ℕ) → a + b ≡ c + d → c ≤ e + f → d ≤ g → f + g ≡ 1 → a ≤ e + 1
        adds a b c d e f g p q r t = omega arith

        one-more : (b : Bool) → before ≤ all + one_if (not b) → count any (put_on y m) ≤ one_if b → size ≤ all + 1
        one-more true q t = adds size (count any (got_on y m)) before (count any (put_on y m)) all 0 1 follows q t refl
        one-more false q t = adds size (count any (got_on y m)) before (count any (put_on y m)) all 1 0 follows q t refl

    by_case : (b : Bool) → (n == node) ≡ b
        → size ≤ all + one_if (not (emptied_of w.state.fixed y (if b then Some (next w.state node d m).after else w.doing n)))
    by_case true e = own (ap w.doing (eqb-true n node e) ∙ at_work) (is_emptied_by w.state.fixed y (next w.state node d m).after) refl (eqb-true n node e)
    by_case false e =
        no-more size (count any (got_on y m)) before (count any (put_on y m)) (all + one_if (not (emptied_of w.state.fixed y (w.doing n)))) follows
        (put-none (else-put w.state node n d m y fits-here c at (λ same. never (n == node) (eq-eqb n node same) e))) p.size

-- ---- the record and its size

-- what is got back was out, and so it was delivered
got-recorded : (s : State) (m : Moment) (y : Way) (had : List ℕ) (j : ℕ) → Holds s m → got_on y m ≡ j ∷ []
    → out (is j) s y had ≡ one_if (s.delivered y j) → s.delivered y j ≡ true
got-recorded s m y had j holds e counted =
    recorded (s.delivered y j)
    (at_least (count (is j) (serials_of (s.waiting y))) (count (is j) had) (count (is j) (s.returned y)) (count (is j) (s.in_hand y))
    (one_if (s.delivered y j)) (got-out s m y j holds e) counted)
  where
    at_least : (a b c d e : ℕ) → 1 ≤ c + d → a + b + c + d ≡ e → 1 ≤ e
    at_least a b c d e p q = omega arith

    recorded : (b : Bool) → 1 ≤ one_if b → b ≡ true
    recorded true q = refl
    recorded false q = absurd (omega arith)

-- where what is out follows the moment, the record is still just what is out
pub moved-counted : (s : State) (m : Moment) (y : Way) (before after : List ℕ) → Holds s m
    → ((value : ℕ → Bool) → out value (moved s m) y after + count value (got_on y m) ≡ out value s y before + count value (put_on y m))
    → ((j : ℕ) → out (is j) s y before ≡ one_if (s.delivered y j)) → ((j : ℕ) → put_on y m ≡ j ∷ [] → s.delivered y j ≡ false)
    → (k : ℕ) → out (is k) (moved s m) y after ≡ one_if ((moved s m).delivered y k)
moved-counted s m y before after holds follows counts new k =
    same (out (is k) (moved s m) y after) (count (is k) (got_on y m)) (out (is k) s y before) (count (is k) (put_on y m))
    (one_if (s.delivered y k)) (one_if ((moved s m).delivered y k)) (follows (is k)) (counts k)
    (moved-record s m y k new (λ j e. got-recorded s m y before j holds e (counts j)))
  where
    same : (a b c d e f : ℕ) → a + b ≡ c + d → c ≡ e → f + b ≡ e + d → a ≡ f
    same a b c d e f p q r = omega arith

-- what is out from one moment to the next: what is put there is more, and what is got back is less
pub moved-out : (w : World) (node n r : ℕ) (d : Doing) (m : Moment) (y : Way) (value : ℕ → Bool) → SoundWorld w → w.doing node ≡ Some d → Holds w.state m
    → (next w.state node d m).condition → IsAt w.state.fixed.ports y.sender n → IsAt w.state.fixed.ports y.receiver r → IsLive w.state.fixed y
    → CallRelease (w.doing r) → Holding w.state y (w.doing n)
    → out value (moved w.state m) y (had_of w.state.fixed (put_at w.doing node (Some (next w.state node d m).after)) y r) + count value (got_on y m)
    ≡ out value w.state y (had_of w.state.fixed w.doing y r) + count value (put_on y m)
moved-out w node n r d m y value fits at_work holds c at there live release holding =
    out-follows value w.state (moved w.state m) y m (had_of w.state.fixed w.doing y r)
    (had_of w.state.fixed (put_at w.doing node (Some (next w.state node d m).after)) y r)
    (moved-shifts value w.state m y holds (live-counted w.state.fixed y live) (hand-few w.state y (w.doing n) holding)
    (hand-fits w node n d m y fits at_work c at holding))
    (had-follows w node r d m y value fits at_work c there live release)

pub moved-balanced : (w : World) (node n r : ℕ) (d : Doing) (m : Moment) (y : Way) → SoundWorld w → w.doing node ≡ Some d → Holds w.state m
    → (next w.state node d m).condition → IsAt w.state.fixed.ports y.sender n → IsAt w.state.fixed.ports y.receiver r → IsLive w.state.fixed y
    → CallRelease (w.doing r) → Holding w.state y (w.doing n) → BorrowFits (view w.state.fixed r) r
    → ((j : ℕ) → put_on y m ≡ j ∷ [] → w.state.delivered y j ≡ false) → Balanced w.state.fixed w.state w.doing y n r
    → Balanced w.state.fixed (moved w.state m) (put_at w.doing node (Some (next w.state node d m).after)) y n r
moved-balanced w node n r d m y fits at_work holds c at there live release holding borrows new p = record {
  counts = moved-counted w.state m y before after holds follows p.counts new;
  size = moved-within w node n r d m y (out any (moved w.state m) y after) fits at_work holds c at there holding borrows p (follows any);
}
  where
    before : List ℕ
    before = had_of w.state.fixed w.doing y r

    after : List ℕ
    after = had_of w.state.fixed (put_at w.doing node (Some (next w.state node d m).after)) y r

    follows : (value : ℕ → Bool) → out value (moved w.state m) y after + count value (got_on y m) ≡ out value w.state y before + count value (put_on y m)
    follows value = moved-out w node n r d m y value fits at_work holds c at there live release holding
