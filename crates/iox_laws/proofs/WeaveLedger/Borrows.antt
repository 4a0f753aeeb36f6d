-- Of each way a receiver has at most as many messages as it may borrow.
use Rattle.std.specs.Prelude.{◌≡◌, ℕ, ◌+◌, ◌-◌, ◌<◌, ◌≤◌, Bool, true, false, not, ◌&&◌, if◌then◌else◌, ◌==◌, List, [], ◌∷◌, ◌++◌, length, map, filter, Option, Some, None, refl}
use Rattle.std.proofs.Common.{sym, subst, ap, ◌∙◌, arith, eqb-true, true≢false}
use Rattle.std.proofs.lemmas.List.{length-map, length-append}
use Rattle.iox_model.specs.declared.kind.Kind.{Kind}
use Rattle.iox_model.specs.declared.kind.Kind.TheVariants.{ActiveRequest, Response}
use Rattle.iox_model.specs.declared.way.Way.{Way}
use Rattle.iox_model.specs.Weaves.{at_work, IsBeat, IsWeave, World, Beat, Begins, Makes, Ends, Dies}
use Rattle.iox_model.specs.Doings.{Receiver, Outcome, Tells, Loans, Fills, Sends, FailsToSend, Receives, Drops, DropsPort, Forgets, Doing, Ended, Judging, Stale}
use Rattle.iox_model.specs.States.{Handle, Fixed, State}
use Rattle.iox_model.specs.WireCalls.{opened}
use Rattle.iox_model.specs.Handles.{is_request_loan, is_received, way_of}
use Rattle.iox_laws.specs.WeaveLaws.Ledgers.{has_received, is_given_up, taken_by, held_on}
use Rattle.iox_model.specs.Maps.{has_number, put, same_way}
use Rattle.iox_model.specs.Messages.{Message}
use Rattle.iox_model.specs.Counts.{without_handle, with_handle, sent_handle, holding}
use Rattle.iox_model.specs.Ends.{settled}
use Rattle.iox_laws.proofs.WeaveLaws.WholeLemmas.{split}
use Rattle.iox_laws.proofs.WeaveLaws.MapLemmas.{either, same_way-true}
use Rattle.iox_laws.proofs.WeaveLaws.WholeLemmas.{moved-fixed}
use Rattle.iox_laws.specs.WeaveLedger.BorrowLaws.{BorrowLimitHolds}
use Rattle.iox_laws.proofs.WeaveLedger.ReceivedHandles.{no_received, received-itself, received-elsewhere, receipt-way}
use Rattle.iox_laws.proofs.WeaveLedger.Orders.{at-most, least}
use Rattle.iox_laws.proofs.WeaveLedger.Counts.{count, one_if, count-last, count-less, count-gone, count-swap, count-fewer, one-at-most}
use Rattle.iox_laws.proofs.WeaveLedger.Lists.{IsAmong}
use Rattle.iox_laws.proofs.WeaveLedger.Views.{View, view, IsAt, node_in, plus, counted, lends_one, swapped, less, taken_handle, after_call}
use Rattle.iox_laws.proofs.WeaveLedger.Senders.{is_loan, FitsHandles, FitsOutcome, FitsDoing, limit_in, IsBelow, Has}
use Rattle.iox_laws.proofs.WeaveLedger.Settling.{settled-here, settled-else}
use Rattle.iox_laws.proofs.WeaveLedger.Moves.{ends-fits}
use Rattle.iox_laws.proofs.WeaveLedger.Worlds.{FitsCall, SoundWorld, opened-fits, doing-is, beat-fits}

-- ---- how many of a list pass a test

-- ---- handles that are taken out or changed

-- ---- received handles

pub loan-own : (k : Kind) → is_loan k ≡ true → is_received k ≡ false
loan-own ActiveRequest e = absurd (true≢false (sym e))
loan-own Response e = absurd (true≢false (sym e))
loan-own k e = refl

pub taken-way : (v : View) (n : ℕ) (x : Receiver) (w : Way) (m : Message) → Has v x w m → way_of (taken_handle v n x m) ≡ w
taken-way v n x w m p = receipt-way x w m (p.0).0 (p.2).0 (λ e. (p.2).1 ((p.0).1 e)) (p.0).2

pub record BorrowFits (v : View) (n : ℕ) : Type 0 where
  pub counts : (y : Way) → IsAt v.ports y.receiver n → count (has_received y) v.handles ≤ v.borrowed y
  pub within : (y : Way) → v.borrowed y ≤ limit_in v y

plus-counts : (v : View) (n : ℕ) (h : Handle) → is_received h.kind ≡ false → BorrowFits v n → BorrowFits (plus (counted v) h) n
plus-counts v n h e p = record {
  counts = λ y at. more (count (has_received y) (v.handles ++ h ∷ [])) (count (has_received y) v.handles) (one_if (has_received y h)) (v.borrowed y)
      (count-last (has_received y) v.handles h) (ap one_if (no_received y h e)) (p.counts y at);
  within = p.within;
}
  where
    more : (a b c d : ℕ) → a ≡ b + c → c ≡ 0 → b ≤ d → a ≤ d
    more a b c d p q r = omega arith

lends-counts : (v : View) (n port : ℕ) → BorrowFits v n → BorrowFits (lends_one v port) n
lends-counts v n port p = record { counts = p.counts; within = p.within }

less-counts : (v : View) (n : ℕ) (h : Handle) → BorrowFits v n → BorrowFits (less v h) n
less-counts v n h p = record {
  counts = λ y at. at-most (count (has_received y) (without_handle h v.handles)) (count (has_received y) v.handles) (v.borrowed y)
      (count-less (has_received y) h v.handles) (p.counts y at);
  within = p.within;
}

swapped-counts : (v : View) (n : ℕ) (h : Handle) → is_received h.kind ≡ false → BorrowFits v n → BorrowFits (swapped v h) n
swapped-counts v n h e p = record {
  counts = λ y at. at-most (count (has_received y) (with_handle h v.handles)) (count (has_received y) v.handles) (v.borrowed y)
      (count-swap (has_received y) h v.handles (no_received y h e)) (p.counts y at);
  within = p.within;
}

takes-counts : (v : View) (n : ℕ) (h : Handle) (w : Way) → way_of h ≡ w → IsBelow v w → BorrowFits v n
    → BorrowFits (record (plus (counted v) h) { borrowed = put v.borrowed w (v.borrowed w + 1) }) n
takes-counts v n h w is below p = record {
  counts = λ y at. counts y at (same_way y w) refl;
  within = λ y. within y (same_way y w) (same_way-true y w);
}
  where
    more : (a b c d : ℕ) → a ≡ b + c → c ≤ 1 → b ≤ d → a ≤ d + 1
    more a b c d p q r = omega arith

    as_many : (a b c d : ℕ) → a ≡ b + c → c ≡ 0 → b ≤ d → a ≤ d
    as_many a b c d p q r = omega arith

    counts : (y : Way) → IsAt v.ports y.receiver n → (b : Bool) → same_way y w ≡ b
        → count (has_received y) (v.handles ++ h ∷ []) ≤ (if b then v.borrowed w + 1 else v.borrowed y)
    counts y at true e =
        subst (λ u. count (has_received y) (v.handles ++ h ∷ []) ≤ v.borrowed u + 1) (same_way-true y w e)
        (more (count (has_received y) (v.handles ++ h ∷ [])) (count (has_received y) v.handles) (one_if (has_received y h)) (v.borrowed y)
        (count-last (has_received y) v.handles h) (one-at-most (has_received y h)) (p.counts y at))
    counts y at false e =
        as_many (count (has_received y) (v.handles ++ h ∷ [])) (count (has_received y) v.handles) (one_if (has_received y h)) (v.borrowed y)
        (count-last (has_received y) v.handles h) (ap one_if (received-elsewhere y h (ap (same_way y) is ∙ e))) (p.counts y at)

    within : (y : Way) → (b : Bool) → (b ≡ true → y ≡ w) → (if b then v.borrowed w + 1 else v.borrowed y) ≤ limit_in v y
    within y true e = subst (λ u. v.borrowed w + 1 ≤ limit_in v u) (sym (e refl)) (next (v.borrowed w) (limit_in v w) below)
      where
        next : (a b : ℕ) → a < b → a + 1 ≤ b
        next a b p = omega arith
    within y false e = p.within y

gives-counts : (v : View) (n : ℕ) (h : Handle) → IsAmong h v.handles → is_received h.kind ≡ true → BorrowFits v n
    → BorrowFits (record (less v h) { borrowed = put v.borrowed (way_of h) (v.borrowed (way_of h) - 1) }) n
gives-counts v n h among received p = record {
  counts = λ y at. counts y at (same_way y (way_of h)) refl;
  within = λ y. within y (same_way y (way_of h)) (same_way-true y (way_of h));
}
  where
    fewer : (a b c : ℕ) → a + 1 ≤ b → b ≤ c → a ≤ c - 1
    fewer a b c p q = omega arith

    less_one : (a b : ℕ) → a ≤ b → a - 1 ≤ b
    less_one a b p = omega arith

    counts : (y : Way) → IsAt v.ports y.receiver n → (b : Bool) → same_way y (way_of h) ≡ b
        → count (has_received y) (without_handle h v.handles) ≤ (if b then v.borrowed (way_of h) - 1 else v.borrowed y)
    counts y at true e =
        fewer (count (has_received y) (without_handle h v.handles)) (count (has_received y) v.handles) (v.borrowed (way_of h))
        (count-gone (has_received y) h v.handles among (subst (λ u. has_received u h ≡ true) (sym (same_way-true y (way_of h) e)) (received-itself h received)))
        (subst (λ u. count (has_received y) v.handles ≤ v.borrowed u) (same_way-true y (way_of h) e) (p.counts y at))
    counts y at false e =
        at-most (count (has_received y) (without_handle h v.handles)) (count (has_received y) v.handles) (v.borrowed y)
        (count-less (has_received y) h v.handles) (p.counts y at)

    within : (y : Way) → (b : Bool) → (b ≡ true → y ≡ way_of h) → (if b then v.borrowed (way_of h) - 1 else v.borrowed y) ≤ limit_in v y
    within y true e =
        subst (λ u. v.borrowed (way_of h) - 1 ≤ limit_in v u) (sym (e refl)) (less_one (v.borrowed (way_of h)) (limit_in v (way_of h)) (p.within (way_of h)))
    within y false e = p.within y

after-counts : (v : View) (n : ℕ) (payload : List ℕ) (o : Outcome) → FitsOutcome v n o → BorrowFits v n → BorrowFits (after_call v n payload o) n
after-counts v n payload (Tells reply) f p = p
after-counts v n payload (Loans h) f p =
    lends-counts (plus (counted v) (holding h payload)) n h.port (plus-counts v n (holding h payload) (loan-own h.kind f.loan) p)
after-counts v n payload (Fills h) f p = swapped-counts v n h (loan-own h.kind f.is_loan_still) p
after-counts v n payload (Sends h true count) f p =
    either (λ (u : View). BorrowFits (lends_one u h.port) n) (is_request_loan h.kind) (plus (counted v) (sent_handle h count)) v
    (λ u. lends-counts (plus (counted v) (sent_handle h count)) n h.port (plus-counts v n (sent_handle h count) refl p)) (λ u. lends-counts v n h.port p)
after-counts v n payload (Sends h false count) f p =
    either (λ (u : View). BorrowFits u n) (is_request_loan h.kind) (swapped v (sent_handle h count)) (less v h)
    (λ u. swapped-counts v n (sent_handle h count) refl p) (λ u. less-counts v n h p)
after-counts v n payload (FailsToSend h true refusal) f p = lends-counts v n h.port p
after-counts v n payload (FailsToSend h false refusal) f p = less-counts v n h p
after-counts v n payload (Receives x w m) f p = takes-counts v n (taken_handle v n x m) w (taken-way v n x w m f.1) (f.1).1 p
after-counts v n payload (Drops h) f p =
    either (λ (u : View). BorrowFits u n) (is_received h.kind)
    (record (less v h) { borrowed = put v.borrowed (way_of h) (v.borrowed (way_of h) - 1) }) (less v h)
    (λ e. gives-counts v n h f e p) (λ u. less-counts v n h p)
after-counts v n payload (DropsPort port) f p = absurd f
after-counts v n payload (Forgets dead) f p =
    either (λ (u : View). BorrowFits u n) (has_number dead v.forgot) v (record v { forgot = v.forgot ++ dead ∷ [] }) (λ u. p)
    (λ u. record { counts = p.counts; within = p.within })

-- ---- a beat

over-borrows : (s : State) (n k : ℕ) (payload : List ℕ) (o : Outcome) → s.fixed.on_wire ≡ true → FitsHandles (view s.fixed n) n
    → FitsOutcome (view s.fixed n) n o → ((m : ℕ) → BorrowFits (view s.fixed m) m) → BorrowFits (view (settled s n payload o).fixed k) k
over-borrows s n k payload o wire fits f p = by_case (k == n) refl
  where
    by_case : (b : Bool) → (k == n) ≡ b → BorrowFits (view (settled s n payload o).fixed k) k
    by_case true e =
        subst (λ m. BorrowFits (view (settled s n payload o).fixed m) m) (sym (eqb-true k n e))
        (subst (λ v. BorrowFits v n) (sym (settled-here s n payload o wire fits f)) (after-counts (view s.fixed n) n payload o f (p n)))
    by_case false e = subst (λ v. BorrowFits v k) (sym (settled-else s n k payload o wire fits f e)) (p k)

pub beat-borrows : (w u : World) (b : Beat) → IsBeat w b u → SoundWorld w → ((n : ℕ) → BorrowFits (view w.state.fixed n) n)
    → (n : ℕ) → BorrowFits (view u.state.fixed n) n
beat-borrows w u (Begins k call c) beat fits p n = subst (λ (v : World). BorrowFits (view v.state.fixed n) n) (sym beat.2) (p n)
beat-borrows w u (Makes k m) beat fits p n =
    subst (λ (v : World). BorrowFits (view v.state.fixed n) n) (sym beat.5) (subst (λ (f : Fixed). BorrowFits (view f n) n) (sym (moved-fixed w.state m)) (p n))
beat-borrows w u (Ends k reply payload) beat fits p n =
    subst (λ (v : World). BorrowFits (view v.state.fixed n) n) (sym beat.7)
    (over-borrows w.state k n payload beat.3 fits.wire (fits.handles k) (ends-fits w.state k beat.1 beat.3 (doing-is w k beat.1 fits beat.2) beat.4) p)
beat-borrows w u (Dies k) beat fits p n = subst (λ (v : World). BorrowFits (view v.state.fixed n) n) (sym beat.1) (p n)

weave-borrows : (w v : World) (bs : List Beat) → IsWeave w bs v → SoundWorld w → ((n : ℕ) → BorrowFits (view w.state.fixed n) n)
    → SoundWorld v × ((n : ℕ) → BorrowFits (view v.state.fixed n) n)
weave-borrows w v [] weave fits p = subst (λ (u : World). SoundWorld u × ((n : ℕ) → BorrowFits (view u.state.fixed n) n)) (sym weave) (fits, p)
weave-borrows w v (b ∷ bs) weave fits p =
    weave-borrows weave.0 v bs weave.2 (beat-fits w weave.0 b weave.1 fits) (beat-borrows w weave.0 b weave.1 fits p)

-- ---- what a receiver has

taken-few : (v : View) (n : ℕ) (y : Way) (d : Doing) → FitsDoing v n d → BorrowFits v n → v.borrowed y + length (taken_by y d) ≤ limit_in v y
taken-few v n y d p q = few d p
  where
    none : (a b : ℕ) → a ≤ b → a + 0 ≤ b
    none a b p = omega arith

    one : (a b : ℕ) → a < b → a + 1 ≤ b
    one a b p = omega arith

    on : (w : Way) (k : ℕ) → IsBelow v w → (b : Bool) → (b ≡ true → y ≡ w) → v.borrowed y + length (if b then k ∷ [] else []) ≤ limit_in v y
    on w k below true e = subst (λ u. v.borrowed u + 1 ≤ limit_in v u) (sym (e refl)) (one (v.borrowed w) (limit_in v w) below)
    on w k below false e = none (v.borrowed y) (limit_in v y) (q.within y)

    few : (d : Doing) → FitsDoing v n d → v.borrowed y + length (taken_by y d) ≤ limit_in v y
    few (Judging x w m left seen) p = on w m.serial (p.1).1 (same_way y w) (same_way-true y w)
    few (Stale x w m left seen) p = on w m.serial (p.1).1 (same_way y w) (same_way-true y w)
    few (Ended (Receives x w m)) p = on w m.serial (p.1).1 (same_way y w) (same_way-true y w)
    few d p = none (v.borrowed y) (limit_in v y) (q.within y)

pub held-few : (v : View) (n : ℕ) (y : Way) (o : Option Doing) → IsAt v.ports y.receiver n → FitsCall v n o → BorrowFits v n
    → length (held_on y v.handles o) ≤ limit_in v y
held-few v n y None at p q =
    subst (λ k. k ≤ limit_in v y) (sym (length-map (filter (has_received y) v.handles) (λ (h : Handle). h.message.serial)))
    (at-most (count (has_received y) v.handles) (v.borrowed y) (limit_in v y) (q.counts y at) (q.within y))
held-few v n y (Some d) at p q =
    let here : Handle → Bool = λ h. has_received y h && not (is_given_up h d) in
    subst (λ k. k ≤ limit_in v y) (sym (length-append (map (λ (h : Handle). h.message.serial) (filter here v.handles)) (taken_by y d)
    ∙ ap (λ k. k + length (taken_by y d)) (length-map (filter here v.handles) (λ (h : Handle). h.message.serial))))
    (sum (count here v.handles) (count (has_received y) v.handles) (v.borrowed y) (length (taken_by y d)) (limit_in v y)
    (count-fewer here (has_received y) v.handles (λ h a e. (split (has_received y h) (not (is_given_up h d)) e).0)) (q.counts y at) (taken-few v n y d p q))
  where
    sum : (a b c d e : ℕ) → a ≤ b → b ≤ c → c + d ≤ e → a + d ≤ e
    sum a b c d e p q r = omega arith

pub opened-borrows : (s : State) (k : ℕ) → BorrowFits (view (opened s).fixed k) k
opened-borrows s k = record {
  counts = λ z at. least (if node_in s.fixed.ports z.receiver == k then 0 else 0);
  within = λ z. masked (node_in s.fixed.ports z.receiver == k) (limit_in (view (opened s).fixed k) z);
}
  where
    masked : (b : Bool) (k : ℕ) → (if b then 0 else 0) ≤ k
    masked true k = omega arith
    masked false k = omega arith

pub borrow_limit_holds : BorrowLimitHolds
borrow_limit_holds s v bs y on =
    let n : ℕ = node_in v.state.fixed.ports y.receiver in
    let r : SoundWorld v × ((k : ℕ) → BorrowFits (view v.state.fixed k) k)
    = weave-borrows (at_work (opened s)) v bs on.1 (opened-fits s on.0) (opened-borrows s) in
    held-few (view v.state.fixed n) n y (v.doing n) refl ((r.0).doing n) (r.1 n)
