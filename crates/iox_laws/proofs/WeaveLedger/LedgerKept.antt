-- Each beat keeps the record of a live way and its size.
use Rattle.std.specs.Prelude.{◌≡◌, ℕ, ◌+◌, ◌≤◌, Bool, true, false, not, if◌then◌else◌, ◌==◌, List, [], ◌∷◌, Option, Some, None, ◌⊎◌, refl}
use Rattle.std.proofs.Common.{sym, subst, ap, ◌∙◌, arith, eqb-true, inl, inr}
use Rattle.iox_model.specs.declared.way.Way.{Way}
use Rattle.iox_model.specs.Doings.{Outcome, Doing}
use Rattle.iox_model.specs.Ends.{settled}
use Rattle.iox_laws.specs.WeaveLaws.Ledgers.{held_on}
use Rattle.iox_model.specs.Maps.{put_at}
use Rattle.iox_model.specs.Messages.{serials_of, Message}
use Rattle.iox_model.specs.Moments.{moved, Moment, Deliver}
use Rattle.iox_laws.specs.WeaveLaws.OrderLaws as orders
use Rattle.iox_model.specs.Peers.{buffer_on, borrow_limit_on}
use Rattle.iox_model.specs.Settings.{buffer_of, borrow_limit_of, other_role}
use Rattle.iox_model.specs.States.{Fixed, State}
use Rattle.iox_model.specs.Transitions.{next, ends}
use Rattle.iox_model.specs.Weaves.{wire_start, IsBeat, World, Beat, Begins, Makes, Ends, Dies}
use Rattle.iox_laws.proofs.WeaveLaws.WholeLemmas.{moved-fixed}
use Rattle.iox_laws.proofs.WeaveLaws.WireLemmas.{settled_same}
use Rattle.iox_laws.proofs.WeaveLedger.Counts.{count, one_if}
use Rattle.iox_laws.proofs.WeaveLedger.Truths.{false_if}
use Rattle.iox_laws.proofs.WeaveLedger.Views.{View, view, IsAt, role_in}
use Rattle.iox_laws.proofs.WeaveLedger.Senders.{FitsHandles, FitsOutcome}
use Rattle.iox_laws.proofs.WeaveLedger.Settling.{settled-here, settled-else}
use Rattle.iox_laws.proofs.WeaveLedger.Moves.{ends-fits}
use Rattle.iox_laws.proofs.WeaveLedger.Worlds.{FitsCall, SoundWorld, begin-none, doing-is, next-node}
use Rattle.iox_laws.proofs.WeaveLedger.Once.{MayPut, Uses, beat-uses}
use Rattle.iox_laws.proofs.WeaveLedger.Buffers.{Holding, beat-holding}
use Rattle.iox_laws.proofs.WeaveLedger.Borrows.{BorrowFits, beat-borrows}
use Rattle.iox_laws.proofs.WeaveLedger.Had.{next-release, put_on}
use Rattle.iox_laws.proofs.WeaveLedger.HadEnds.{ended-held, over-held}
use Rattle.iox_laws.proofs.WeaveLedger.Beginnings.{BeginsWell, wire_start-well}
use Rattle.iox_laws.proofs.WeaveLedger.Live.{IsLive, live-receiver, over-live, over-record, over-delivered, same-empties}
use Rattle.iox_laws.proofs.WeaveLedger.Outs.{head-is, no-head, out, is, moved-delivered}
use Rattle.iox_laws.proofs.WeaveLedger.Balance.{any, had_of, emptied_of, Balanced, CallRelease, release-is, moved-balanced}

-- what is delivered may not be put there again
abbrev pub Fresh : World → ℕ → Way → Type 0
Fresh w n y = (k : ℕ) → w.state.delivered y k ≡ true → MayPut w n y k → ⊥

-- the most that may be out where the way is emptied
abbrev pub most_on : Fixed → Way → ℕ
most_on f y = buffer_on f y + borrow_limit_on f y

-- of a way whose sender is a port of node n, and whose receiver one of node r
pub record Ledger (w : World) (y : Way) (n r : ℕ) : Type 0 where
  pub holding : Holding w.state y (w.doing n)
  pub borrows : (k : ℕ) → BorrowFits (view w.state.fixed k) k
  pub releases : (k : ℕ) → CallRelease (w.doing k)
  pub fresh : Fresh w n y
  pub balanced : IsLive w.state.fixed y → Balanced w.state.fixed w.state w.doing y n r

-- ---- what is delivered

pub same-put : (n : ℕ) (y : Way) (m : Moment) → orders.put_on y (Makes n m) ≡ put_on y m
same-put n y (Deliver x m) = refl
same-put n y m = refl

-- what is delivered after a beat was so before, or is put there by it
beat-delivered : (w u : World) (b : Beat) (y : Way) (k : ℕ) → IsBeat w b u → SoundWorld w → u.state.delivered y k ≡ true
    → (w.state.delivered y k ≡ true) ⊎ (orders.put_on y b ≡ k ∷ [])
beat-delivered w u (Begins node call c) y k beat fits e = inl (ap (λ (v : World). v.state.delivered y k) (sym beat.2) ∙ e)
beat-delivered w u (Makes node m) y k beat fits e =
    subst (λ ks. (w.state.delivered y k ≡ true) ⊎ (ks ≡ k ∷ [])) (sym (same-put node y m))
    (moved-delivered w.state m y k (ap (λ (v : World). v.state.delivered y k) (sym beat.5) ∙ e))
beat-delivered w u (Ends node reply payload) y k beat fits e =
    inl (over-delivered w.state node payload beat.3 y k fits.wire (ends-fits w.state node beat.1 beat.3 (doing-is w node beat.1 fits beat.2) beat.4)
    (ap (λ (v : World). v.state.delivered y k) (sym beat.7) ∙ e))
beat-delivered w u (Dies node) y k beat fits e = inl (ap (λ (v : World). v.state.delivered y k) (sym beat.1) ∙ e)

beat-fresh : (w u : World) (b : Beat) (n : ℕ) (y : Way) → IsBeat w b u → SoundWorld w → IsAt w.state.fixed.ports y.sender n → Fresh w n y → Fresh u n y
beat-fresh w u b n y beat fits at fresh k e may = elim (beat-delivered w u b y k beat fits e) as (λ z. ⊥) [
  | inl was ↦ fresh k was (used.shrinks k may)
  | inr put ↦ put_now put used.uses
]
  where
    used : Uses w u n y (orders.put_on y b)
    used = beat-uses w u b n y beat fits at

    put_now : orders.put_on y b ≡ k ∷ [] → (orders.put_on y b ≡ []) ⊎ ((j : ℕ) × (orders.put_on y b ≡ j ∷ []) × MayPut w n y j × (MayPut u n y j → ⊥)) → ⊥
    put_now put (inl none) = no-head k (sym none ∙ put)
    put_now put (inr r) = r.3 (subst (MayPut u n y) (sym (head-is r.0 k (sym r.1 ∙ put))) may)

-- what is put there was not delivered
put-new : (w u : World) (node n : ℕ) (m : Moment) (y : Way) → IsBeat w (Makes node m) u → SoundWorld w → IsAt w.state.fixed.ports y.sender n → Fresh w n y
    → (j : ℕ) → put_on y m ≡ j ∷ [] → w.state.delivered y j ≡ false
put-new w u node n m y beat fits at fresh j e = false_if (w.state.delivered y j) (λ was. put_now was used.uses)
  where
    used : Uses w u n y (orders.put_on y (Makes node m))
    used = beat-uses w u (Makes node m) n y beat fits at

    put_now : w.state.delivered y j ≡ true
        → (orders.put_on y (Makes node m) ≡ []) ⊎ ((k : ℕ) × (orders.put_on y (Makes node m) ≡ k ∷ []) × MayPut w n y k × (MayPut u n y k → ⊥)) → ⊥
    put_now was (inl none) = no-head j (sym none ∙ same-put node y m ∙ e)
    put_now was (inr r) = fresh j was (subst (MayPut w n y) (head-is r.0 j (sym r.1 ∙ same-put node y m ∙ e)) r.2)

-- ---- releases

-- what holds of each node's call, where that of one node changes
pub put-call : (P : Option Doing → Type 0) (doing : ℕ → Option Doing) (node n : ℕ) (o : Option Doing) → P o → P (doing n) → P (put_at doing node o n)
put-call P doing node n o p q = by_case (n == node)
  where
    by_case : (b : Bool) → P (if b then o else doing n)
    by_case true = p
    by_case false = q

beat-releases : (w u : World) (b : Beat) → IsBeat w b u → SoundWorld w → ((k : ℕ) → CallRelease (w.doing k)) → (k : ℕ) → CallRelease (u.doing k)
beat-releases w u (Begins node call c) beat fits p k =
    subst (λ (v : World). CallRelease (v.doing k)) (sym beat.2)
    (put-call CallRelease w.doing node k (Some (wire_start w.state node c call))
    (wire_start-well w.state node c call (record { sender = 0; receiver = 0; lane = 0 }) (fits.handles node) (begin-none w node call beat.0).1).release (p k))
beat-releases w u (Makes node m) beat fits p k =
    subst (λ (v : World). CallRelease (v.doing k)) (sym beat.5)
    (put-call CallRelease w.doing node k (Some (next w.state node beat.1 m).after)
    (next-release w.state node beat.1 m beat.4 (release-is (w.doing node) beat.1 beat.2 (p node))) (p k))
beat-releases w u (Ends node reply payload) beat fits p k =
    subst (λ (v : World). CallRelease (v.doing k)) (sym beat.7) (put-call CallRelease w.doing node k None tt (p k))
beat-releases w u (Dies node) beat fits p k = subst (λ (v : World). CallRelease (v.doing k)) (sym beat.1) (p k)

-- ---- the record and its size

-- as a call begins, the receiver has what it had
pub begun-had : (w : World) (node r : ℕ) (d : Doing) (y : Way) → w.doing node ≡ None → IsAt w.state.fixed.ports y.receiver r → IsLive w.state.fixed y
    → BeginsWell w.state.fixed node y d → had_of w.state.fixed (put_at w.doing node (Some d)) y r ≡ had_of w.state.fixed w.doing y r
begun-had w node r d y idle there live well = by_case (r == node) refl
  where
    by_case : (b : Bool) → (r == node) ≡ b
        → held_on y (w.state.fixed.handles r) (if b then Some d else w.doing r) ≡ held_on y (w.state.fixed.handles r) (w.doing r)
    by_case true e =
        let same : r ≡ node = eqb-true r node e in
        subst (λ j. held_on y (w.state.fixed.handles j) (Some d) ≡ held_on y (w.state.fixed.handles j) None) (sym same)
        (well.held (live-receiver w.state.fixed y node live (there ∙ same)))
        ∙ ap (held_on y (w.state.fixed.handles r)) (sym (ap w.doing same ∙ idle))
    by_case false e = refl

-- where the state, what is held and what is emptied stay
begun-balanced : (w : World) (node n r : ℕ) (d : Doing) (y : Way) → w.doing node ≡ None → IsAt w.state.fixed.ports y.receiver r → IsLive w.state.fixed y
    → BeginsWell w.state.fixed node y d → Balanced w.state.fixed w.state w.doing y n r → Balanced w.state.fixed w.state (put_at w.doing node (Some d)) y n r
begun-balanced w node n r d y idle there live well p = record {
  counts = λ k. subst (λ ks. out (is k) w.state y ks ≡ one_if (w.state.delivered y k)) (sym had) (p.counts k);
  size =
      subst (λ ks. out any w.state y ks ≤ buffer_on w.state.fixed y + borrow_limit_on w.state.fixed y
      + one_if (not (emptied_of w.state.fixed y (put_at w.doing node (Some d) n)))) (sym had)
      (subst (λ b. out any w.state y (had_of w.state.fixed w.doing y r) ≤ buffer_on w.state.fixed y + borrow_limit_on w.state.fixed y + one_if (not b))
      (sym (emptied (n == node) refl)) p.size);
}
  where
    had : had_of w.state.fixed (put_at w.doing node (Some d)) y r ≡ had_of w.state.fixed w.doing y r
    had = begun-had w node r d y idle there live well

    emptied : (b : Bool) → (n == node) ≡ b → emptied_of w.state.fixed y (if b then Some d else w.doing n) ≡ emptied_of w.state.fixed y (w.doing n)
    emptied true e = well.empties ∙ ap (emptied_of w.state.fixed y) (sym (ap w.doing (eqb-true n node e) ∙ idle))
    emptied false e = refl

-- the end of a call leaves what is out,
pub over-out : (w : World) (node r : ℕ) (payload : List ℕ) (d : Doing) (o : Outcome) (y : Way) (value : ℕ → Bool) → SoundWorld w → w.doing node ≡ Some d
    → FitsOutcome (view w.state.fixed node) node o → ends w.state d ≡ Some o
    → out value (settled w.state node payload o) y (had_of (settled w.state node payload o).fixed (put_at w.doing node None) y r)
    ≡ out value w.state y (had_of w.state.fixed w.doing y r)
over-out w node r payload d o y value fits at_work f ended =
    ap (λ ks. out value after y ks) (had (r == node) refl)
    ∙ ap (λ (g : Way → List Message). count value (serials_of (g y)) + count value (had_of w.state.fixed w.doing y r)
    + count value (after.returned y) + count value (after.in_hand y))
    (settled_same w.state node payload o fits.wire).waiting
    ∙ ap (λ (g : Way → List ℕ). count value (serials_of (w.state.waiting y)) + count value (had_of w.state.fixed w.doing y r) + count value (g y)
    + count value (after.in_hand y))
    (settled_same w.state node payload o fits.wire).returned
    ∙ ap (λ (g : Way → List ℕ). count value (serials_of (w.state.waiting y)) + count value (had_of w.state.fixed w.doing y r)
    + count value (w.state.returned y) + count value (g y))
    (settled_same w.state node payload o fits.wire).in_hand
  where
    after : State
    after = settled w.state node payload o

    had : (b : Bool) → (r == node) ≡ b
        → held_on y (after.fixed.handles r) (if b then None else w.doing r) ≡ held_on y (w.state.fixed.handles r) (w.doing r)
    had true e =
        let same : r ≡ node = eqb-true r node e in
        subst (λ j. held_on y (after.fixed.handles j) None ≡ held_on y (w.state.fixed.handles j) (w.doing j)) (sym same)
        (ap (λ (u : View). held_on y u.handles None) (settled-here w.state node payload o fits.wire (fits.handles node) f)
        ∙ over-held (view w.state.fixed node) node payload o y (fits.handles node) f
        ∙ sym (ended-held w.state d o y (w.state.fixed.handles node) ended) ∙ ap (held_on y (w.state.fixed.handles node)) (sym at_work))
    had false e =
        ap (λ (u : View). held_on y u.handles (w.doing r)) (settled-else w.state node r payload o fits.wire (fits.handles node) f e)

-- and how much there may be
pub over-most : (s : State) (node : ℕ) (payload : List ℕ) (o : Outcome) (y : Way) → s.fixed.on_wire ≡ true → FitsHandles (view s.fixed node) node
    → FitsOutcome (view s.fixed node) node o → most_on (settled s node payload o).fixed y ≡ most_on s.fixed y
over-most s node payload o y wire fits f =
    ap (λ (u : View). buffer_of u.limits (role_in u.ports y.sender) + borrow_limit_of u.limits (other_role (role_in u.ports y.receiver)))
    (settled-else s node (node + 1) payload o wire fits f (next-node node))

-- another node's call emptied what it had
pub over-emptied : (w : World) (node n : ℕ) (payload : List ℕ) (o : Outcome) (y : Way) → SoundWorld w → FitsOutcome (view w.state.fixed node) node o
    → (n == node) ≡ false → emptied_of (settled w.state node payload o).fixed y (w.doing n) ≡ emptied_of w.state.fixed y (w.doing n)
over-emptied w node n payload o y fits f apart =
    same_call (w.doing n) (settled-else w.state node n payload o fits.wire (fits.handles node) f apart) (fits.doing n)
  where
    after : Fixed
    after = (settled w.state node payload o).fixed

    same_call : (o' : Option Doing) → view after n ≡ view w.state.fixed n → FitsCall (view w.state.fixed n) n o'
        → emptied_of after y o' ≡ emptied_of w.state.fixed y o'
    same_call None same q = refl
    same_call (Some d) same q = same-empties after w.state.fixed n y d same q

over-balanced : (w : World) (node n r : ℕ) (payload : List ℕ) (d : Doing) (o : Outcome) (y : Way) → SoundWorld w → w.doing node ≡ Some d
    → FitsOutcome (view w.state.fixed node) node o → ends w.state d ≡ Some o → IsLive (settled w.state node payload o).fixed y
    → Balanced w.state.fixed w.state w.doing y n r
    → Balanced (settled w.state node payload o).fixed (settled w.state node payload o) (put_at w.doing node None) y n r
over-balanced w node n r payload d o y fits at_work f ended live p = record {
  counts = λ k. over-out w node r payload d o y (is k) fits at_work f ended ∙ p.counts k
      ∙ ap one_if (sym (over-record w.state node payload o y fits.wire fits.own f live k));
  size =
      subst (λ a. a ≤ most_on after.fixed y + one_if (not (emptied_of after.fixed y (put_at w.doing node None n))))
      (sym (over-out w node r payload d o y any fits at_work f ended))
      (subst (λ a. before ≤ a + one_if (not (emptied_of after.fixed y (put_at w.doing node None n))))
      (sym (over-most w.state node payload o y fits.wire (fits.handles node) f)) (sized (n == node) refl));
}
  where
    after : State
    after = settled w.state node payload o

    before : ℕ
    before = out any w.state y (had_of w.state.fixed w.doing y r)

    more : (a b : ℕ) (e : Bool) → a ≤ b + one_if e → a ≤ b + 1
    more a b true q = q
    more a b false q = omega arith

    sized : (b : Bool) → (n == node) ≡ b
        → before ≤ most_on w.state.fixed y + one_if (not (emptied_of after.fixed y (if b then None else w.doing n)))
    sized true e = more before (most_on w.state.fixed y) (not (emptied_of w.state.fixed y (w.doing n))) p.size
    sized false e =
        subst (λ b. before ≤ most_on w.state.fixed y + one_if (not b))
        (sym (over-emptied w node n payload o y fits f e)) p.size

-- a way that is live after a beat was live before
pub beat-live : (w u : World) (b : Beat) (y : Way) → IsBeat w b u → SoundWorld w → IsLive u.state.fixed y → IsLive w.state.fixed y
beat-live w u (Begins node call c) y beat fits live = subst (λ (v : World). IsLive v.state.fixed y) beat.2 live
beat-live w u (Makes node m) y beat fits live =
    subst (λ f. IsLive f y) (moved-fixed w.state m) (subst (λ (v : World). IsLive v.state.fixed y) beat.5 live)
beat-live w u (Ends node reply payload) y beat fits live =
    over-live w.state node payload beat.3 y fits.wire (fits.handles node)
    (ends-fits w.state node beat.1 beat.3 (doing-is w node beat.1 fits beat.2) beat.4) (subst (λ (v : World). IsLive v.state.fixed y) beat.7 live)
beat-live w u (Dies node) y beat fits live = subst (λ (v : World). IsLive v.state.fixed y) beat.1 live

beat-balanced : (w u : World) (b : Beat) (n r : ℕ) (y : Way) → IsBeat w b u → SoundWorld w → IsAt w.state.fixed.ports y.sender n
    → IsAt w.state.fixed.ports y.receiver r
    → Ledger w y n r → IsLive u.state.fixed y → Balanced u.state.fixed u.state u.doing y n r
beat-balanced w u (Begins node call c) n r y beat fits at there p live =
    let was : IsLive w.state.fixed y = beat-live w u (Begins node call c) y beat fits live in
    subst (λ (v : World). Balanced v.state.fixed v.state v.doing y n r) (sym beat.2)
    (begun-balanced w node n r (wire_start w.state node c call) y (begin-none w node call beat.0).0 there was
    (wire_start-well w.state node c call y (fits.handles node) (begin-none w node call beat.0).1) (p.balanced was))
beat-balanced w u (Makes node m) n r y beat fits at there p live =
    let was : IsLive w.state.fixed y = beat-live w u (Makes node m) y beat fits live in
    subst (λ (v : World). Balanced v.state.fixed v.state v.doing y n r) (sym beat.5)
    (subst (λ f. Balanced f (moved w.state m) (put_at w.doing node (Some (next w.state node beat.1 m).after)) y n r) (sym (moved-fixed w.state m))
    (moved-balanced w node n r beat.1 m y fits beat.2 beat.3 beat.4 at there was (p.releases r) p.holding (p.borrows r)
    (put-new w u node n m y beat fits at p.fresh) (p.balanced was)))
beat-balanced w u (Ends node reply payload) n r y beat fits at there p live =
    subst (λ (v : World). Balanced v.state.fixed v.state v.doing y n r) (sym beat.7)
    (over-balanced w node n r payload beat.1 beat.3 y fits beat.2 (ends-fits w.state node beat.1 beat.3 (doing-is w node beat.1 fits beat.2) beat.4) beat.4
    (subst (λ (v : World). IsLive v.state.fixed y) beat.7 live) (p.balanced (beat-live w u (Ends node reply payload) y beat fits live)))
beat-balanced w u (Dies node) n r y beat fits at there p live =
    let q : Balanced w.state.fixed w.state w.doing y n r = p.balanced (beat-live w u (Dies node) y beat fits live) in
    subst (λ (v : World). Balanced v.state.fixed v.state v.doing y n r) (sym beat.1) (record { counts = q.counts; size = q.size })

pub beat-ledger : (w u : World) (b : Beat) (n r : ℕ) (y : Way) → IsBeat w b u → SoundWorld w → IsAt w.state.fixed.ports y.sender n
    → IsAt w.state.fixed.ports y.receiver r → Ledger w y n r → Ledger u y n r
beat-ledger w u b n r y beat fits at there p = record {
  holding = beat-holding w u b n y beat fits at p.holding;
  borrows = beat-borrows w u b beat fits p.borrows;
  releases = beat-releases w u b beat fits p.releases;
  fresh = beat-fresh w u b n y beat fits at p.fresh;
  balanced = beat-balanced w u b n r y beat fits at there p;
}
