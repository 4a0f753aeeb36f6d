-- What each beat adds to what a port keeps, and so every world keeps to its pools.
use Rattle.std.specs.Prelude.{◌≡◌, ℕ, ◌<◌, ◌≤◌, Bool, true, false, if◌then◌else◌, ◌==◌, nat_le, List, [], ◌∷◌, length, Option, Some, None, ◌⊎◌, refl}
use Rattle.std.specs.List.{list_any}
use Rattle.std.specs.Option.{option_map_or}
use Rattle.std.proofs.Common.{sym, subst, ap, ◌∙◌, arith, eqb-true, true≢false, inl, inr}
use Rattle.iox_model.specs.declared.way.Way.{Way}
use Rattle.iox_model.specs.Doings.{Outcome, Doing, Loaning}
use Rattle.iox_model.specs.States.{Port, Fixed, State}
use Rattle.iox_model.specs.Maps.{has_number, put_at}
use Rattle.iox_model.specs.Commands.{WireCall}
use Rattle.iox_model.specs.Ends.{settled}
use Rattle.iox_model.specs.Forgetting.{goes_to_dead}
use Rattle.iox_model.specs.Loans.{Choice}
use Rattle.iox_model.specs.Moments.{moved, Moment}
use Rattle.iox_model.specs.Outstandings.{is_held, is_outstanding, kept, is_dry}
use Rattle.iox_model.specs.Keeping.{serials_of_loan, under_way, kept_in}
use Rattle.iox_model.specs.Transitions.{next, ends}
use Rattle.iox_model.specs.WireCalls.{opened}
use Rattle.iox_model.specs.Weaves.{at_work, wire_start, begun, made, over, IsBeat, IsWeave, World, Beat, Begins, Makes, Ends, Dies}
use Rattle.iox_model.specs.Peers.{port_at, node_of_port, ways_from}
use Rattle.iox_laws.proofs.WeaveLaws.WholeLemmas.{moved-fixed}
use Rattle.iox_laws.specs.WeaveLedger.OnceLaws.{IsOnWire}
use Rattle.iox_laws.proofs.WeaveLedger.Orders.{same, same-le, less}
use Rattle.iox_laws.proofs.WeaveLedger.Ranges.{no-longer}
use Rattle.iox_laws.proofs.WeaveLedger.Truths.{false_if, one_of, or-left, or-right}
use Rattle.iox_laws.proofs.WeaveLedger.Lists.{IsAmong, any-among, among-any, number-among}
use Rattle.iox_laws.proofs.WeaveLedger.Views.{View, view, IsAt}
use Rattle.iox_laws.proofs.WeaveLedger.Senders.{FitsOutcome, FitsDoing, Stands}
use Rattle.iox_laws.proofs.WeaveLedger.Settling.{settled-here, settled-else}
use Rattle.iox_laws.proofs.WeaveLedger.Rests.{settled-rest}
use Rattle.iox_laws.proofs.WeaveLedger.Moves.{ends-fits}
use Rattle.iox_laws.proofs.WeaveLedger.Worlds.{FitsCall, SoundWorld, opened-fits, doing-is, begin-none, settled-ports, beat-fits}
use Rattle.iox_laws.proofs.WeaveLedger.Once.{beat-ports}
use Rattle.iox_laws.proofs.WeaveLedger.Outs.{moved-delivered}
use Rattle.iox_laws.proofs.WeavePools.Spare.{fits-end}
use Rattle.iox_laws.proofs.WeavePools.Ways.{way-of}
use Rattle.iox_laws.proofs.WeavePools.Under.{PickIs, GivesNext, loan-serial, next-under, ends-under, next-stays, ends-same, start-under}
use Rattle.iox_laws.proofs.WeavePools.Holds.{HoldsOwn, holds-held, held-holds, own-loan, made-serial, own-before, after-loans, after-more}
use Rattle.iox_laws.proofs.WeavePools.HoldsKept.{keeps, under_at, under, Keeping, IsLent, IsNext, Follows, follows-keeping, under-fits, loans-is, IsPut, is-put, kept-apart, kept-is}

-- ---- the call of the port's node

call-is : (v : View) (n q k : ℕ) (o : Option Doing) → FitsCall v n o → has_number k (under_at q o) ≡ true → k ≡ v.loans q
call-is v n q k None p e = absurd (true≢false (sym e))
call-is v n q k (Some d) p e = under-fits v n d p q k e

under-is : (w : World) (q k : ℕ) → SoundWorld w → has_number k (under w q) ≡ true → k ≡ w.state.fixed.loans q
under-is w q k fits e =
    let n : ℕ = node_of_port w.state.fixed q in
    call-is (view w.state.fixed n) n q k (w.doing n) (fits.doing n) e ∙ loans-is w.state.fixed q n refl

-- where the pool is not dry there is room
room-in : (w : World) (q : ℕ) (p : Port) → port_at w.state.fixed q ≡ Some p → under w q ≡ [] → is_dry w.state.fixed q (kept w.state q []) ≡ false
    → length (kept_in w q) < p.pool
room-in w q p is none e =
    subst (λ (ks : List ℕ). length (kept w.state q ks) < p.pool) (sym none)
    (less p.pool (length (kept w.state q [])) (sym (ap (λ (o : Option Port). option_map_or (λ x. nat_le x.pool (length (kept w.state q []))) o true) is) ∙ e))

-- the call of one node changed
changed-call : (w : World) (q m : ℕ) (o : Option Doing) (P : List ℕ → Type 0) → (node_of_port w.state.fixed q ≡ m → P (under_at q o)) → P (under w q)
    → P (under_at q (put_at w.doing m o (node_of_port w.state.fixed q)))
changed-call w q m o P f g = by_case (node_of_port w.state.fixed q == m) refl
  where
    by_case : (b : Bool) → (node_of_port w.state.fixed q == m) ≡ b → P (under_at q (if b then o else w.doing (node_of_port w.state.fixed q)))
    by_case true e = f (eqb-true (node_of_port w.state.fixed q) m e)
    by_case false e = g

-- ---- a begin

begun-follows : (w : World) (m : ℕ) (c : Choice) (call : WireCall) (q : ℕ) (p : Port) → SoundWorld w → port_at w.state.fixed q ≡ Some p → w.doing m ≡ None
    → Follows w (begun w m c call) q p
begun-follows w m c call q p fits is idle = record {
  loans = same (w.state.fixed.loans q);
  kept = λ k e. inl e;
  call = λ k. changed-call w q m (Some (wire_start w.state m c call)) (λ ks. has_number k ks ≡ true → IsNext w q p k)
      (λ at e. inr (next k (ap (under_at q) (ap w.doing at ∙ idle)) (start-under w.state m c call q k e))) (λ e. inl e);
  under_is = λ k. under-is w q k fits;
  stays = λ k e. changed-call w q m (Some (wire_start w.state m c call)) (λ ks. (k < w.state.fixed.loans q) ⊎ (has_number k ks ≡ true))
      (λ at. absurd (true≢false (sym e ∙ ap (has_number k) (ap (under_at q) (ap w.doing at ∙ idle))))) (inr e);
}
  where
    next : (k : ℕ) → under w q ≡ [] → GivesNext w.state q k → (k ≡ w.state.fixed.loans q) × (under w q ≡ []) × (length (kept_in w q) < p.pool)
    next k none g = (g.0, none, room-in w q p is none g.1)

-- ---- a moment

delivered-keeps : (w : World) (m : ℕ) (d : Doing) (y : Way) (q k : ℕ) (p : Port) → port_at w.state.fixed q ≡ Some p → IsAmong y (ways_from w.state.fixed q)
    → w.doing m ≡ Some d → IsPut (view w.state.fixed m) m d y k → (keeps w.state q k ≡ true) ⊎ (has_number k (under w q) ≡ true)
delivered-keeps w m d y q k p is among doing put = by_copied put.send.copied refl
  where
    port : put.send.loan.port ≡ q
    port = sym put.sender ∙ (way-of w.state.fixed q p y is among).sender

    at : IsAt w.state.fixed.ports q m
    at = subst (λ i. IsAt w.state.fixed.ports i m) port (put.loan).of_port

    call : under w q ≡ serials_of_loan put.send.loan put.send.copied q
    call = ap (under_at q) (ap w.doing at ∙ doing) ∙ put.holds q

    by_copied : (b : Bool) → put.send.copied ≡ b → (keeps w.state q k ≡ true) ⊎ (has_number k (under w q) ≡ true)
    by_copied true e = inr (ap (has_number k) (call ∙ ap (λ b. serials_of_loan put.send.loan b q) e) ∙ made-serial put.send.loan q k port put.serial)
    by_copied false e = inl (or-left (is_held w.state.fixed q k) (is_outstanding w.state q k) (held-holds w.state.fixed m q k at (record {
      handle = put.send.loan;
      among = subst (Stands (view w.state.fixed m) put.send.loan) e (put.loan).stands;
      port = port;
      own = own-loan put.send.loan.kind (put.loan).loan;
      serial = put.serial;
    })))

moved-kept : (w : World) (m : ℕ) (d : Doing) (mo : Moment) (q k : ℕ) (p : Port) → SoundWorld w → port_at w.state.fixed q ≡ Some p → w.doing m ≡ Some d
    → (next w.state m d mo).condition → keeps (moved w.state mo) q k ≡ true → (keeps w.state q k ≡ true) ⊎ (has_number k (under w q) ≡ true)
moved-kept w m d mo q k p fits is doing c e = elim (one_of (is_held (moved w.state mo).fixed q k) (is_outstanding (moved w.state mo) q k) e)
    as (λ z. (keeps w.state q k ≡ true) ⊎ (has_number k (under w q) ≡ true)) [
      | inl h ↦ inl (or-left (is_held w.state.fixed q k) (is_outstanding w.state q k) (ap (λ (f : Fixed). is_held f q k) (sym (moved-fixed w.state mo)) ∙ h))
      | inr h ↦ out (any-among (λ y. (moved w.state mo).delivered y k) (ways_from w.state.fixed q)
          (ap (λ (f : Fixed). list_any (λ y. (moved w.state mo).delivered y k) (ways_from f q)) (sym (moved-fixed w.state mo)) ∙ h))
    ]
  where
    out : (y : Way) × IsAmong y (ways_from w.state.fixed q) × ((moved w.state mo).delivered y k ≡ true) → (keeps w.state q k ≡ true)
        ⊎ (has_number k (under w q) ≡ true)
    out r = elim (moved-delivered w.state mo r.0 k r.2) as (λ z. (keeps w.state q k ≡ true) ⊎ (has_number k (under w q) ≡ true)) [
      | inl h ↦ inl (or-right (is_held w.state.fixed q k) (is_outstanding w.state q k)
          (among-any (λ y. w.state.delivered y k) r.0 (ways_from w.state.fixed q) r.1 h))
      | inr h ↦ delivered-keeps w m d r.0 q k p is r.1 doing (is-put w.state m d mo r.0 k (doing-is w m d fits doing) c h)
    ]

-- what the port's node holds once its pool gave it a message
abbrev Nexts : World → ℕ → Port → ℕ → ℕ → Type 0
Nexts w q p q' k = q' ≡ q → IsNext w q p k

picks : (w : World) (m : ℕ) (d : Doing) (q : ℕ) (p : Port) → SoundWorld w → port_at w.state.fixed q ≡ Some p → node_of_port w.state.fixed q ≡ m → w.doing m ≡ Some d
    → FitsDoing (view w.state.fixed m) m d → PickIs (Nexts w q p) w.state d
picks w m (Loaning copies h left) q p fits is at doing loan =
    λ free q' k e same-le. next (loan-serial h q' k e) free same-le
  where
    none : under w q ≡ []
    none = ap (under_at q) (ap w.doing at ∙ doing)

    next : {q' k : ℕ} → (h.port ≡ q') × (h.message.serial ≡ k) → is_dry w.state.fixed h.port (kept w.state h.port []) ≡ false → q' ≡ q → IsNext w q p k
    next {q'} {k} r free same-le =
        let port : h.port ≡ q = r.0 ∙ same-le in
        inr (
          sym r.1 ∙ loan.stands.0 ∙ ap ((view w.state.fixed m).loans) port ∙ loans-is w.state.fixed q m at,
          none,
          room-in w q p is none (subst (λ i. is_dry w.state.fixed i (kept w.state i []) ≡ false) port free),
        )
picks w m d q p fits is at doing fit = tt

made-follows : (w : World) (m : ℕ) (d : Doing) (mo : Moment) (q : ℕ) (p : Port) → SoundWorld w → port_at w.state.fixed q ≡ Some p → w.doing m ≡ Some d
    → (next w.state m d mo).condition → Follows w (made w m d mo) q p
made-follows w m d mo q p fits is doing c = record {
  loans = same-le (w.state.fixed.loans q) ((moved w.state mo).fixed.loans q) (sym (ap (λ (f : Fixed). f.loans q) (moved-fixed w.state mo)));
  kept = λ k. moved-kept w m d mo q k p fits is doing c;
  call = λ k e. changed-call w q m (Some (next w.state m d mo).after) (λ ks. has_number k ks ≡ true → IsNext w q p k) (here k) (λ h. inl h)
      (ap (λ (f : Fixed). has_number k (under_at q (put_at w.doing m (Some (next w.state m d mo).after) (node_of_port f q)))) (sym
      (moved-fixed w.state mo)) ∙ e);
  under_is = λ k. under-is w q k fits;
  stays =
      λ k e. subst (λ (f : Fixed). (k < f.loans q)
      ⊎ (has_number k (under_at q (put_at w.doing m (Some (next w.state m d mo).after) (node_of_port f q))) ≡ true))
      (sym (moved-fixed w.state mo))
      (changed-call w q m (Some (next w.state m d mo).after) (λ ks. (k < w.state.fixed.loans q) ⊎ (has_number k ks ≡ true))
      (λ at. inr (next-stays w.state m q k d mo c (ap (has_number k) (sym (ap (under_at q) (ap w.doing at ∙ doing))) ∙ e))) (inr e));
}
  where
    here : (k : ℕ) → node_of_port w.state.fixed q ≡ m → has_number k (under_way q (next w.state m d mo).after) ≡ true → IsNext w q p k
    here k at e =
        next-under (Nexts w q p) w.state m d mo (picks w m d q p fits is at doing (doing-is w m d fits doing)) c
        (λ q' j h same-le. inl (ap (has_number j) (ap (under_at q) (ap w.doing at ∙ doing)) ∙ ap (λ i. has_number j (under_way i d)) (sym same-le)
        ∙ h)) q k e refl

-- ---- an end

over-kept : (w : World) (m : ℕ) (d : Doing) (payload : List ℕ) (o : Outcome) (q k : ℕ) → SoundWorld w → w.doing m ≡ Some d → ends w.state d ≡ Some o
    → FitsOutcome (view w.state.fixed m) m o → keeps (settled w.state m payload o) q k ≡ true → (keeps w.state q k ≡ true) ⊎ (has_number k (under w q) ≡ true)
over-kept w m d payload o q k fits doing ended p e = elim (one_of (is_held u.fixed q k) (is_outstanding u q k) e)
    as (λ z. (keeps w.state q k ≡ true) ⊎ (has_number k (under w q) ≡ true)) [
      | inl h ↦ held (n == m) refl (holds-held u.fixed n q k (ap (λ ps. node_of_port (record (u.fixed) { ports = ps }) q) ports) h)
      | inr h ↦ inl (or-right (is_held w.state.fixed q k) (is_outstanding w.state q k) (out (any-among (λ y. u.delivered y k) (ways_from w.state.fixed q)
          (ap (λ ps. list_any (λ y. u.delivered y k) (ways_from (record (u.fixed) { ports = ps }) q)) (sym ports) ∙ h))))
    ]
  where
    u : State
    u = settled w.state m payload o

    n : ℕ
    n = node_of_port w.state.fixed q

    ports : u.fixed.ports ≡ w.state.fixed.ports
    ports = settled-ports w.state m payload o fits.wire (fits.handles m) p

    own : HoldsOwn (view w.state.fixed n) q k → (keeps w.state q k ≡ true) ⊎ (has_number k (under w q) ≡ true)
    own h = inl (or-left (is_held w.state.fixed q k) (is_outstanding w.state q k) (held-holds w.state.fixed n q k refl h))

    held : (b : Bool) → (n == m) ≡ b → HoldsOwn (view u.fixed n) q k → (keeps w.state q k ≡ true) ⊎ (has_number k (under w q) ≡ true)
    held true is h =
        let at : n ≡ m = eqb-true n m is in
        elim (own-before (view w.state.fixed m) m payload o q k (fits.handles m).apart (fits-end (view w.state.fixed m) m o p)
        (subst (λ v. HoldsOwn v q k) (settled-here w.state m payload o fits.wire (fits.handles m) p) (subst (λ i. HoldsOwn (view u.fixed i) q k) at h)))
        as (λ z. (keeps w.state q k ≡ true) ⊎ (has_number k (under w q) ≡ true)) [
          | inl r ↦ own (subst (λ i. HoldsOwn (view w.state.fixed i) q k) (sym at) r)
          | inr r ↦ inr (ap (has_number k) (ap (under_at q) (ap w.doing at ∙ doing))
              ∙ ends-under (λ i j. has_number j (under_way i d) ≡ true) w.state d o ended (λ i j g. g) q k r)
        ]
    held false is h = own (subst (λ v. HoldsOwn v q k) (settled-else w.state m n payload o fits.wire (fits.handles m) p is) h)

    unless : (b c : Bool) → (if b then false else c) ≡ true → c ≡ true
    unless true c g = absurd (true≢false (sym g))
    unless false c g = g

    before : (y : Way) → u.delivered y k ≡ true → w.state.delivered y k ≡ true
    before y g = elim (settled-rest w.state m payload o fits.wire p) as (λ z. w.state.delivered y k ≡ true) [
      | inl rest ↦ ap (λ (f : Way → ℕ → Bool). f y k) (sym rest.delivered) ∙ g
      | inr r ↦ unless (goes_to_dead w.state.fixed m r.0 y) (w.state.delivered y k) (ap (λ (t : State). t.delivered y k) (sym r.1) ∙ g)
    ]

    out : (y : Way) × IsAmong y (ways_from w.state.fixed q) × (u.delivered y k ≡ true) → is_outstanding w.state q k ≡ true
    out r = among-any (λ y. w.state.delivered y k) r.0 (ways_from w.state.fixed q) r.1 (before r.0 r.2)

over-loans : (w : World) (m : ℕ) (payload : List ℕ) (o : Outcome) (q : ℕ) → SoundWorld w → FitsOutcome (view w.state.fixed m) m o
    → w.state.fixed.loans q ≤ (settled w.state m payload o).fixed.loans q
over-loans w m payload o q fits p = by_case (n == m) refl
  where
    n : ℕ
    n = node_of_port w.state.fixed q

    u : Fixed
    u = (settled w.state m payload o).fixed

    at : node_of_port u q ≡ n
    at = ap (λ ps. node_of_port (record u { ports = ps }) q) (settled-ports w.state m payload o fits.wire (fits.handles m) p)

    view-loans : (view w.state.fixed n).loans q ≤ (view u n).loans q → w.state.fixed.loans q ≤ u.loans q
    view-loans e = subst (λ a. a ≤ u.loans q) (loans-is w.state.fixed q n refl) (subst (λ a. (view w.state.fixed n).loans q ≤ a) (loans-is u q n at) e)

    by_case : (b : Bool) → (n == m) ≡ b → w.state.fixed.loans q ≤ u.loans q
    by_case true is =
        view-loans (subst (λ i. (view w.state.fixed i).loans q ≤ (view u i).loans q) (sym (eqb-true n m is))
        (subst (λ (v : View). (view w.state.fixed m).loans q ≤ v.loans q) (sym (settled-here w.state m payload o fits.wire (fits.handles m) p))
        (after-loans (view w.state.fixed m) m payload o q (fits-end (view w.state.fixed m) m o p))))
    by_case false is =
        view-loans (same-le ((view w.state.fixed n).loans q) ((view u n).loans q)
        (ap (λ (v : View). v.loans q) (sym (settled-else w.state m n payload o fits.wire (fits.handles m) p is))))

-- what the call held is loaned now
over-stays : (w : World) (m : ℕ) (d : Doing) (payload : List ℕ) (o : Outcome) (q k : ℕ) → SoundWorld w → w.doing m ≡ Some d → ends w.state d ≡ Some o
    → FitsOutcome (view w.state.fixed m) m o → has_number k (under w q) ≡ true → IsLent (over w m payload o) q k
over-stays w m d payload o q k fits doing ended p e =
    subst (λ i. (k < (settled w.state m payload o).fixed.loans q) ⊎ (has_number k (under_at q (put_at w.doing m None i)) ≡ true)) (sym node)
    (changed-call w q m None (λ ks. (k < (settled w.state m payload o).fixed.loans q) ⊎ (has_number k ks ≡ true)) (λ at. inl (here at)) (inr e))
  where
    node : node_of_port (settled w.state m payload o).fixed q ≡ node_of_port w.state.fixed q
    node =
        ap (λ ps. node_of_port (record ((settled w.state m payload o).fixed) { ports = ps }) q) (settled-ports w.state m payload o fits.wire (fits.handles m) p)

    here : node_of_port w.state.fixed q ≡ m → k < (settled w.state m payload o).fixed.loans q
    here at =
        subst (λ j. j < (settled w.state m payload o).fixed.loans q) (sym (under-is w q k fits e ∙ sym (loans-is w.state.fixed q m at)))
        (subst (λ b. (view w.state.fixed m).loans q < b) (loans-is (settled w.state m payload o).fixed q m (node ∙ at))
        (subst (λ (v : View). (view w.state.fixed m).loans q < v.loans q) (sym (settled-here w.state m payload o fits.wire (fits.handles m) p))
        (after-more (view w.state.fixed m) m payload o q k
        (ap (has_number k) (sym (ap (under_at q) (ap w.doing at ∙ doing) ∙ ends-same w.state q d o ended)) ∙ e))))

over-follows : (w : World) (m : ℕ) (d : Doing) (payload : List ℕ) (o : Outcome) (q : ℕ) (p : Port) → SoundWorld w → w.doing m ≡ Some d → ends w.state d ≡ Some o
    → FitsOutcome (view w.state.fixed m) m o → Follows w (over w m payload o) q p
over-follows w m d payload o q p fits doing ended fit = record {
  loans = over-loans w m payload o q fits fit;
  kept = λ k. over-kept w m d payload o q k fits doing ended fit;
  call = λ k e. changed-call w q m None (λ ks. has_number k ks ≡ true → IsNext w q p k) (λ at h. absurd (true≢false (sym h))) (λ h. inl h)
      (ap (λ ps. has_number k (under_at q (put_at w.doing m None (node_of_port (record ((settled w.state m payload o).fixed) { ports = ps }) q))))
      (sym (settled-ports w.state m payload o fits.wire (fits.handles m) fit)) ∙ e);
  under_is = λ k. under-is w q k fits;
  stays = λ k e. over-stays w m d payload o q k fits doing ended fit e;
}

-- ---- beats and weaves

beat-follows : (w u : World) (b : Beat) (q : ℕ) (p : Port) → IsBeat w b u → SoundWorld w → port_at w.state.fixed q ≡ Some p → Follows w u q p
beat-follows w u (Begins m call c) q p beat fits is =
    subst (λ x. Follows w x q p) (sym beat.2) (begun-follows w m c call q p fits is (begin-none w m call beat.0).0)
beat-follows w u (Makes m mo) q p beat fits is = subst (λ x. Follows w x q p) (sym beat.5) (made-follows w m beat.1 mo q p fits is beat.2 beat.4)
beat-follows w u (Ends m reply payload) q p beat fits is =
    subst (λ x. Follows w x q p) (sym beat.7)
    (over-follows w m beat.1 payload beat.3 q p fits beat.2 beat.4 (ends-fits w.state m beat.1 beat.3 (doing-is w m beat.1 fits beat.2) beat.4))
beat-follows w u (Dies m) q p beat fits is = subst (λ x. Follows w x q p) (sym beat.1) (record {
  loans = same (w.state.fixed.loans q);
  kept = λ k e. inl e;
  call = λ k e. inl e;
  under_is = λ k. under-is w q k fits;
  stays = λ k e. inr e;
})

weave-keeping : (w v : World) (bs : List Beat) (q : ℕ) (p : Port) → IsWeave w bs v → SoundWorld w → port_at w.state.fixed q ≡ Some p → Keeping w q p → Keeping v q p
weave-keeping w v [] q p weave fits is keeping = subst (λ x. Keeping x q p) (sym weave) keeping
weave-keeping w v (b ∷ bs) q p weave fits is keeping =
    weave-keeping weave.0 v bs q p weave.2 (beat-fits w weave.0 b weave.1 fits)
    (ap (λ ps. port_at (record ((weave.0).state.fixed) { ports = ps }) q) (beat-ports w weave.0 b weave.1 fits) ∙ is)
    (follows-keeping w weave.0 q p (beat-follows w weave.0 b q p weave.1 fits is) keeping)

weave-ports : (w v : World) (bs : List Beat) → IsWeave w bs v → SoundWorld w → v.state.fixed.ports ≡ w.state.fixed.ports
weave-ports w v [] weave fits = ap (λ (x : World). x.state.fixed.ports) weave
weave-ports w v (b ∷ bs) weave fits = weave-ports weave.0 v bs weave.2 (beat-fits w weave.0 b weave.1 fits) ∙ beat-ports w weave.0 b weave.1 fits

-- nothing is kept as a wire opens
opened-keeping : (s : State) (q : ℕ) (p : Port) → Keeping (at_work (opened s)) q p
opened-keeping s q p = record {
  lent = λ k e. absurd (nothing k e);
  fits = at-most (no-longer (kept_in (at_work (opened s)) q) [] (kept-apart (at_work (opened s)) q)
      (λ k a. absurd (nothing k (kept-is (at_work (opened s)) q k a)))) (least p.pool);
}
  where
    none : (ws : List Way) → list_any (λ y. false) ws ≡ false
    none [] = refl
    none (y ∷ ys) = none ys

    nothing : (k : ℕ) → keeps (opened s) q k ≡ true → ⊥
    nothing k e = true≢false (sym e ∙ none (ways_from (opened s).fixed q))

    least : (a : ℕ) → 0 ≤ a
    least a = omega arith

    at-most : {a b c : ℕ} → a ≤ b → b ≤ c → a ≤ c
    at-most {a} {b} {c} x y = omega arith

-- In each world on a wire a port's messages stay within its pool.
pub on-wire-keeping : (s : State) (v : World) (bs : List Beat) (q : ℕ) (p : Port) → IsOnWire s bs v → port_at v.state.fixed q ≡ Some p → Keeping v q p
on-wire-keeping s v bs q p on is =
    let fits : SoundWorld (at_work (opened s)) = opened-fits s on.0 in
    weave-keeping (at_work (opened s)) v bs q p on.1 fits
    (ap (λ ps. port_at (record (v.state.fixed) { ports = ps }) q) (sym (weave-ports (at_work (opened s)) v bs on.1 fits)) ∙ is) (opened-keeping s q p)

-- the next serial is none of those kept, where no call holds it
pub fresh : (v : World) (q : ℕ) (p : Port) → Keeping v q p → under v q ≡ [] → has_number (v.state.fixed.loans q) (kept_in v q) ≡ false
fresh v q p keeping none =
    false_if (has_number k (kept_in v q))
    (λ e. old (one_of (has_number k (under v q)) (keeps v.state q k) (kept-is v q k (number-among k (kept_in v q) e))))
  where
    k : ℕ
    k = v.state.fixed.loans q

    held : has_number k (under v q) ≡ true → ⊥
    held h = true≢false (sym h ∙ ap (has_number k) none)

    less : (a : ℕ) → a < a → ⊥
    less a p = omega arith

    lent : IsLent v q k → ⊥
    lent (inl l) = less k l
    lent (inr h) = held h

    old : (has_number k (under v q) ≡ true) ⊎ (keeps v.state q k ≡ true) → ⊥
    old (inl h) = held h
    old (inr h) = lent (keeping.lent k h)
