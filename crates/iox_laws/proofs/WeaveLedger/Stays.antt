-- From an emptying of a way to the next delivery there no more is out than the buffer and the borrow limit.
use Rattle.std.specs.Prelude.{◌≡◌, ℕ, ◌+◌, ◌≤◌, List, [], ◌∷◌, ◌++◌, Option, refl}
use Rattle.std.proofs.Common.{sym, subst, ap, ◌∙◌, arith}
use Rattle.iox_model.specs.declared.way.Way.{Way}
use Rattle.iox_model.specs.Doings.{Doing, Loaning, Emptying}
use Rattle.iox_model.specs.Moments.{moved, SeesNoneBack}
use Rattle.iox_model.specs.States.{State}
use Rattle.iox_model.specs.Transitions.{next}
use Rattle.iox_model.specs.WireCalls.{opened}
use Rattle.iox_model.specs.Weaves.{at_work, made, wire_start, IsBeat, IsWeave, World, Beat, Begins, Makes, Ends, Dies}
use Rattle.iox_laws.specs.WeaveLaws.OrderLaws as orders
use Rattle.iox_laws.proofs.WeaveLaws.WholeLemmas.{moved-fixed}
use Rattle.iox_laws.specs.WeaveLedger.LedgerLaws.{SendersEmpty, EmptiedStaysWithin}
use Rattle.iox_laws.proofs.WeaveLedger.Counts.{count}
use Rattle.iox_laws.proofs.WeaveLedger.Views.{IsAt, node_in}
use Rattle.iox_laws.proofs.WeaveLedger.Moves.{ends-fits}
use Rattle.iox_laws.proofs.WeaveLedger.Worlds.{SoundWorld, opened-fits, begin-none, doing-is}
use Rattle.iox_laws.proofs.WeaveLedger.Beginnings.{wire_start-well}
use Rattle.iox_laws.proofs.WeaveLedger.Live.{IsLive}
use Rattle.iox_laws.proofs.WeaveLedger.Had.{put_on, got_on}
use Rattle.iox_laws.proofs.WeaveLedger.Emptied.{SawNone}
use Rattle.iox_laws.proofs.WeaveLedger.Outs.{out}
use Rattle.iox_laws.proofs.WeaveLedger.Balance.{any, had_of, moved-out, saw-within}
use Rattle.iox_laws.proofs.WeaveLedger.LedgerKept.{same-put, most_on, begun-had, over-out, over-most, beat-live}
use Rattle.iox_laws.proofs.WeaveLedger.OwnWays.{CallsOwn, own-is, weave-own, empties-here}
use Rattle.iox_laws.proofs.WeaveLedger.LedgerHolds.{SoundLedger, beat-holds, weave-holds, opened-holds, holds-in-the-end, length-out}

-- ---- a beat

-- how many are out on a way whose receiver is a port of node r
abbrev count_out : World → Way → ℕ → ℕ
count_out w y r = out any w.state y (had_of w.state.fixed w.doing y r)

-- no more are out after a beat than before it and it delivers
beat-out : (w u : World) (b : Beat) (n r : ℕ) (y : Way) → IsBeat w b u → SoundLedger w y n r → IsLive w.state.fixed y
    → count_out u y r ≤ count_out w y r + count any (orders.put_on y b)
beat-out w u (Begins node call c) n r y beat p live =
    subst (λ (v : World). count_out v y r ≤ count_out w y r + 0) (sym beat.2)
    (as_many (count_out w y r) (ap (out any w.state y)
    (begun-had w node r (wire_start w.state node c call) y (begin-none w node call beat.0).0 p.receiver live
    (wire_start-well w.state node c call y ((p.fits).handles node) (begin-none w node call beat.0).1))))
  where
    as_many : (a : ℕ) {b : ℕ} → b ≡ a → b ≤ a + 0
    as_many a {b} e = omega arith
beat-out w u (Makes node m) n r y beat p live =
    subst (λ (v : World). count_out v y r ≤ count_out w y r + count any (orders.put_on y (Makes node m))) (sym beat.5)
    (subst (λ f. out any (moved w.state m) y (had_of f after y r) ≤ count_out w y r + count any (orders.put_on y (Makes node m))) (sym (moved-fixed w.state m))
    (subst (λ ks. out any (moved w.state m) y (had_of w.state.fixed after y r) ≤ count_out w y r + count any ks) (sym (same-put node y m))
    (at_most (out any (moved w.state m) y (had_of w.state.fixed after y r)) (count any (got_on y m)) (count_out w y r + count any (put_on y m))
    (moved-out w node n r beat.1 m y any p.fits beat.2 beat.3 beat.4 p.sender p.receiver live ((p.ledger).releases r) (p.ledger).holding))))
  where
    after : ℕ → Option Doing
    after = (made w node beat.1 m).doing

    at_most : (a b c : ℕ) → a + b ≡ c → a ≤ c
    at_most a b c e = omega arith
beat-out w u (Ends node reply payload) n r y beat p live =
    subst (λ (v : World). count_out v y r ≤ count_out w y r + 0) (sym beat.7)
    (as_many (count_out w y r)
    (over-out w node r payload beat.1 beat.3 y any p.fits beat.2 (ends-fits w.state node beat.1 beat.3 (doing-is w node beat.1 p.fits beat.2) beat.4) beat.4))
  where
    as_many : (a : ℕ) {b : ℕ} → b ≡ a → b ≤ a + 0
    as_many a {b} e = omega arith
beat-out w u (Dies node) n r y beat p live =
    subst (λ (v : World). count_out v y r ≤ count_out w y r + 0) (sym beat.1) (as_many (count_out w y r))
  where
    as_many : (a : ℕ) → a ≤ a + 0
    as_many a = omega arith

-- and as many may be out as before
beat-most : (w u : World) (b : Beat) (y : Way) → IsBeat w b u → SoundWorld w → most_on u.state.fixed y ≡ most_on w.state.fixed y
beat-most w u (Begins node call c) y beat fits = ap (λ (v : World). most_on v.state.fixed y) beat.2
beat-most w u (Makes node m) y beat fits = ap (λ (v : World). most_on v.state.fixed y) beat.5 ∙ ap (λ f. most_on f y) (moved-fixed w.state m)
beat-most w u (Ends node reply payload) y beat fits =
    ap (λ (v : World). most_on v.state.fixed y) beat.7
    ∙ over-most w.state node payload beat.3 y fits.wire (fits.handles node)
    (ends-fits w.state node beat.1 beat.3 (doing-is w node beat.1 fits beat.2) beat.4)
beat-most w u (Dies node) y beat fits = ap (λ (v : World). most_on v.state.fixed y) beat.1

-- ---- a weave that does not deliver there

-- if it is live, no more is out than the buffer and the borrow limit
abbrev IsWithin : World → Way → ℕ → Type 0
IsWithin w y r = IsLive w.state.fixed y → count_out w y r ≤ most_on w.state.fixed y

beat-within : (w u : World) (b : Beat) (n r : ℕ) (y : Way) → IsBeat w b u → SoundLedger w y n r → orders.put_on y b ≡ [] → IsWithin w y r → IsWithin u y r
beat-within w u b n r y beat p none within live =
    let was : IsLive w.state.fixed y = beat-live w u b y beat p.fits live in
    all (count_out u y r) (count_out w y r) (count any (orders.put_on y b)) (most_on w.state.fixed y) (most_on u.state.fixed y)
    (beat-out w u b n r y beat p was) (ap (count any) none) (within was) (beat-most w u b y beat p.fits)
  where
    all : (a b c d e : ℕ) → a ≤ b + c → c ≡ 0 → b ≤ d → e ≡ d → a ≤ e
    all a b c d e p q r t = omega arith

weave-within : (w v : World) (bs : List Beat) (n r : ℕ) (y : Way) → IsWeave w bs v → SoundLedger w y n r → orders.all_put_on y bs ≡ [] → IsWithin w y r
    → IsWithin v y r
weave-within w v [] n r y weave p none within = subst (λ (u : World). IsWithin u y r) (sym weave) within
weave-within w v (b ∷ bs) n r y weave p none within =
    let e : (orders.put_on y b ≡ []) × (orders.all_put_on y bs ≡ []) = both_nil (orders.put_on y b) (orders.all_put_on y bs) none in
    weave-within weave.0 v bs n r y weave.2 (beat-holds w weave.0 b n r y weave.1 p) e.1 (beat-within w weave.0 b n r y weave.1 p e.0 within)
  where
    both_nil : (xs ys : List ℕ) → xs ++ ys ≡ [] → (xs ≡ []) × (ys ≡ [])
    both_nil [] ys e = (refl, e)
    both_nil (x ∷ xs) ys e = absurd (cc)

-- ---- an emptying

weave-parts : (w v : World) (xs ys : List Beat) → IsWeave w (xs ++ ys) v → (u : World) × IsWeave w xs u × IsWeave u ys v
weave-parts w v [] ys weave = (w, refl, weave)
weave-parts w v (b ∷ xs) ys weave =
    let r : (u : World) × IsWeave weave.0 xs u × IsWeave u ys v = weave-parts weave.0 v xs ys weave.2 in
    (r.0, (weave.0, weave.1, r.1), r.2)

-- who sees that nothing was given back neither delivered last there nor evicted
sees-none : (s : State) (n : ℕ) (d : Doing) (y : Way) → (next s n d (SeesNoneBack y)).condition → SawNone y d (SeesNoneBack y)
sees-none s n (Loaning copies h left) y c = (refl, refl, refl)
sees-none s n (Emptying x left) y c = (refl, refl, refl)
sees-none s n d y c = absurd c

emptied-within : (w u : World) (n r : ℕ) (y : Way) → IsBeat w (Makes n (SeesNoneBack y)) u → SoundLedger w y n r → IsWithin u y r
emptied-within w u n r y beat p =
    beat-within w u (Makes n (SeesNoneBack y)) n r y beat p refl
    (λ live. saw-within w n r beat.1 (SeesNoneBack y) y p.fits beat.2 beat.3 (sees-none w.state n beat.1 y beat.4) p.receiver (p.ledger).holding
    ((p.ledger).borrows r))

empties-own : (w u : World) (n : ℕ) (y : Way) → IsBeat w (Makes n (SeesNoneBack y)) u → SoundWorld w → ((k : ℕ) → CallsOwn (w.doing k))
    → IsAt w.state.fixed.ports y.sender n
empties-own w u n y beat fits own =
    empties-here w.state n beat.1 y (doing-is w n beat.1 fits beat.2) (own-is (w.doing n) beat.1 beat.2 (own n)) beat.4

pub senders_empty : SendersEmpty
senders_empty s w v bs node y on beat =
    empties-own w v node y beat (holds-in-the-end s w bs y on).fits (weave-own (at_work (opened s)) w bs on.1 (λ k. tt))

-- after it, as long as nothing is delivered there
stays-within : (w v : World) (after : List Beat) (n r : ℕ) (y : Way) → IsWeave w (Makes n (SeesNoneBack y) ∷ after) v → SoundLedger w y n r
    → orders.all_put_on y after ≡ [] → IsWithin v y r
stays-within w v after n r y weave p none =
    weave-within weave.0 v after n r y weave.2 (beat-holds w weave.0 (Makes n (SeesNoneBack y)) n r y weave.1 p) none
    (emptied-within w weave.0 n r y weave.1 p)

pub emptied_stays_within : EmptiedStaysWithin
emptied_stays_within s v bs y on live emptied =
    let n : ℕ = node_in s.fixed.ports y.sender in
    let r : ℕ = node_in s.fixed.ports y.receiver in
    let parts : (u : World) × IsWeave (at_work (opened s)) emptied.1 u × IsWeave u (Makes emptied.0 (SeesNoneBack y) ∷ emptied.2) v
    = weave-parts (at_work (opened s)) v emptied.1 (Makes emptied.0 (SeesNoneBack y) ∷ emptied.2)
    (subst (λ cs. IsWeave (at_work (opened s)) cs v) emptied.3 on.1) in
    let p : SoundLedger parts.0 y n r = weave-holds (at_work (opened s)) parts.0 emptied.1 n r y parts.1 (opened-holds s y (opened-fits s on.0)) in
    let own : emptied.0 ≡ n = sym (empties-own parts.0 (parts.2).0 emptied.0 y (parts.2).1 p.fits
    (weave-own (at_work (opened s)) parts.0 emptied.1 parts.1 (λ k. tt))) ∙ p.sender in
    let q : SoundLedger v y n r
    = weave-holds parts.0 v (Makes emptied.0 (SeesNoneBack y) ∷ emptied.2) n r y parts.2 p in
    subst (λ a. a ≤ most_on v.state.fixed y)
    (ap (λ k. count_out v y k) (sym q.receiver) ∙ length-out v y)
    (stays-within parts.0 v emptied.2 n r y (subst (λ k. IsWeave parts.0 (Makes k (SeesNoneBack y) ∷ emptied.2) v) own parts.2) p emptied.4 live)
