-- No message is delivered twice on a way, and none is received twice.
use Rattle.std.specs.Prelude.{◌≡◌, ℕ, ◌≤◌, Bool, true, false, if◌then◌else◌, ◌==◌, List, [], ◌∷◌, ◌++◌, Option, Some, None, ◌⊎◌, refl}
use Rattle.std.proofs.Common.{sym, subst, ap, ◌∙◌, arith, eqb-true, inl, inr}
use Rattle.iox_model.specs.declared.way.Way.{Way}
use Rattle.iox_model.specs.Weaves.{wire_start, made, over, at_work, IsBeat, IsWeave, World, Beat, Begins, Makes, Ends, Dies}
use Rattle.iox_model.specs.Doings.{Sending, Outcome, Sends, Doing, Delivering, Evicted}
use Rattle.iox_model.specs.States.{Port, Fixed, State}
use Rattle.iox_model.specs.WireCalls.{opened}
use Rattle.iox_laws.specs.WeaveLaws.OrderLaws.{put_on, all_put_on, all_taken_from, Gives}
use Rattle.iox_model.specs.Requests.{is_over}
use Rattle.iox_model.specs.Maps.{put_at, same_way, without_way}
use Rattle.iox_model.specs.Ends.{settled}
use Rattle.iox_model.specs.Moments.{moved, Moment, Deliver, Evict, GetBack}
use Rattle.iox_model.specs.Messages.{serials_of, Message}
use Rattle.iox_model.specs.Transitions.{next, ends}
use Rattle.iox_laws.proofs.WeaveLaws.CallLaws.{put_at-else}
use Rattle.iox_laws.proofs.WeaveLaws.InOrder.{in_order}
use Rattle.iox_laws.proofs.WeaveLaws.MapLemmas.{same_way-true}
use Rattle.iox_laws.proofs.WeaveLaws.WholeLemmas.{put_at-here, moved-fixed, some-is}
use Rattle.iox_laws.specs.WeaveLedger.OnceLaws.{DeliveredOnce, ReceivedOnce}
use Rattle.iox_laws.proofs.WeaveLedger.Truths.{none-some}
use Rattle.iox_laws.proofs.WeaveLedger.Lists.{IsAmong, NoRepeats, way-among, without-among, without-itself, no_repeats-distinct, among-front}
use Rattle.iox_laws.proofs.WeaveLedger.Views.{View, view, IsAt, node_in, after_call}
use Rattle.iox_laws.proofs.WeaveLedger.Senders.{FitsSending, FitsOutcome, FitsDoing, Stands}
use Rattle.iox_laws.proofs.WeaveLedger.Settling.{settled-here, settled-else}
use Rattle.iox_laws.proofs.WeaveLedger.Rights.{MaySend, IsSent, after-sends, after-sent}
use Rattle.iox_laws.proofs.WeaveLedger.Phases.{target-of}
use Rattle.iox_laws.proofs.WeaveLedger.Moves.{ends-fits}
use Rattle.iox_laws.proofs.WeaveLedger.Worlds.{SoundWorld, opened-fits, begin-none, doing-is, settled-ports, beat-fits}

-- ---- what may yet be put onto a way

-- the send under way passed this way
abbrev pub HasPassed : Way → ℕ → Sending → List Way → Type 0
HasPassed y k x left = (x.loan.port ≡ y.sender) × (x.loan.message.serial ≡ k) × (IsAmong y left → ⊥)

abbrev pub IsPassed : Way → ℕ → Doing → Type 0
IsPassed y k (Delivering x last left count) = HasPassed y k x left
IsPassed y k (Evicted x w left count) = HasPassed y k x left
IsPassed y k d = ⊥

abbrev pub PassedBy : Way → ℕ → Option Doing → Type 0
PassedBy y k None = ⊥
PassedBy y k (Some d) = IsPassed y k d

abbrev pub MayPut : World → ℕ → Way → ℕ → Type 0
MayPut w n y k = MaySend (view w.state.fixed n) y.sender k × (PassedBy y k (w.doing n) → ⊥)

pub next-passed : (s : State) (n : ℕ) (d : Doing) (m : Moment) (y : Way) (k : ℕ) → (next s n d m).condition → IsPassed y k d → IsPassed y k (next s n d m).after
next-passed s n (Delivering x last left count) (Deliver w m) y k c p = (p.0, p.1, λ a. p.2 (without-among w y left a))
next-passed s n (Delivering x last left count) (Evict w) y k c p = p
next-passed s n (Delivering x last left count) m y k c p = absurd c
next-passed s n (Evicted x w left count) (GetBack v j) y k c p = p
next-passed s n (Evicted x w left count) m y k c p = absurd c
next-passed s n d m y k c p = absurd p

ends-passed : (s : State) (d : Doing) (o : Outcome) (y : Way) (k : ℕ) → ends s d ≡ Some o → IsPassed y k d → IsSent o y.sender k
ends-passed s (Delivering x last [] count) o y k e p = by_case (is_over s last) e
  where
    by_case : (b : Bool) → (if b then None else Some (Sends x.loan x.copied count)) ≡ Some o → IsSent o y.sender k
    by_case true e = absurd (none-some o e)
    by_case false e = subst (λ (a : Outcome). IsSent a y.sender k) (some-is (Sends x.loan x.copied count) o e) (p.0, p.1)
ends-passed s (Delivering x last (w ∷ left) count) o y k e p = absurd (none-some o e)
ends-passed s (Evicted x w left count) o y k e p = absurd (none-some o e)
ends-passed s d o y k e p = absurd p

-- ---- one beat

-- the rights on the way only shrink, and what is put there had its right and has none any more
pub record Uses (w u : World) (n : ℕ) (y : Way) (ks : List ℕ) : Type 0 where
  pub shrinks : (k : ℕ) → MayPut u n y k → MayPut w n y k
  pub uses : (ks ≡ []) ⊎ ((k : ℕ) × (ks ≡ k ∷ []) × MayPut w n y k × (MayPut u n y k → ⊥))

passed-of : (doing : ℕ → Option Doing) (node n : ℕ) (o : Option Doing) (y : Way) (k : ℕ) → (PassedBy y k (doing node) → PassedBy y k o)
    → PassedBy y k (doing n) → PassedBy y k (put_at doing node o n)
passed-of doing node n o y k f p = by_case (n == node) refl
  where
    by_case : (b : Bool) → (n == node) ≡ b → PassedBy y k (if b then o else doing n)
    by_case true e = f (subst (λ j. PassedBy y k (doing j)) (eqb-true n node e) p)
    by_case false e = p

-- a loan of the send under way may be sent
loan-sends : (v : View) (n : ℕ) (x : Sending) → FitsSending v n x → MaySend v x.loan.port x.loan.message.serial
loan-sends v n x p = by_case x.copied (p.loan).stands
  where
    at-least : (a b : ℕ) → a ≡ b → b ≤ a
    at-least a b e = omega arith

    by_case : (b : Bool) → Stands v x.loan b → MaySend v x.loan.port x.loan.message.serial
    by_case true e = inl (at-least x.loan.message.serial (v.loans x.loan.port) e.0)
    by_case false a = inr (record { handle = x.loan; among = a; loan = (p.loan).loan; of_port = refl; serial = refl })

delivers-uses : (w : World) (node n : ℕ) (d : Doing) (x : Way) (m : Message) (y : Way) → SoundWorld w → IsAt w.state.fixed.ports y.sender n → w.doing node ≡ Some d
    → (next w.state node d (Deliver x m)).condition
    → (b : Bool) → (b ≡ true → y ≡ x)
    → ((if b then m.serial ∷ [] else []) ≡ []) ⊎ ((k : ℕ) × ((if b then m.serial ∷ [] else []) ≡ k ∷ []) × MayPut w n y k
    × (PassedBy y k (put_at w.doing node (Some (next w.state node d (Deliver x m)).after) n)))
delivers-uses w node n (Delivering z last left count) x m y fits at is c true same =
    let p : FitsDoing (view w.state.fixed node) node (Delivering z last left count) = doing-is w node (Delivering z last left count) fits is in
    let among : IsAmong x left = way-among x left c.0 in
    let sender : x.sender ≡ z.loan.port = (target-of z x ((p.1).among x among)).0 in
    let port : z.loan.port ≡ y.sender = sym (ap (λ (u : Way). u.sender) (same refl) ∙ sender) in
    let here : node ≡ n = sym ((p.0).loan).of_port ∙ ap (node_in w.state.fixed.ports) port ∙ at in
    let serial : z.loan.message.serial ≡ m.serial = ap (λ (u : Message). u.serial) (sym c.1) in
    inr (
      m.serial,
      refl,
      (
        subst (λ j. MaySend (view w.state.fixed j) y.sender m.serial) here
            (subst (λ q. MaySend (view w.state.fixed node) q m.serial) port
            (subst (λ k. MaySend (view w.state.fixed node) z.loan.port k) serial (loan-sends (view w.state.fixed node) node z p.0))),
        λ q. (subst (PassedBy y m.serial) (ap w.doing (sym here) ∙ is) q).2 (subst (λ u. IsAmong u left) (sym (same refl)) among),
      ),
      subst (λ j. PassedBy y m.serial (put_at w.doing node (Some (next w.state node (Delivering z last left count) (Deliver x m)).after) j)) here
          (subst (PassedBy y m.serial) (sym (put_at-here w.doing node (Some (next w.state node (Delivering z last left count) (Deliver x m)).after)))
          (port, serial, λ a. without-itself x left (p.1).apart (subst (λ u. IsAmong u (without_way x left)) (same refl) a))),
    )
delivers-uses w node n d x m y fits at is c false same = inl refl
delivers-uses w node n d x m y fits at is c true same = absurd c

makes-uses : (w : World) (node n : ℕ) (d : Doing) (m : Moment) (y : Way) → SoundWorld w → IsAt w.state.fixed.ports y.sender n → w.doing node ≡ Some d
    → (next w.state node d m).condition
    → (put_on y (Makes node m) ≡ []) ⊎ ((k : ℕ) × (put_on y (Makes node m) ≡ k ∷ []) × MayPut w n y k
    × (PassedBy y k (put_at w.doing node (Some (next w.state node d m).after) n)))
makes-uses w node n d (Deliver x m) y fits at is c = delivers-uses w node n d x m y fits at is c (same_way y x) (same_way-true y x)
makes-uses w node n d m y fits at is c = inl refl

over-shrinks : (w : World) (node n : ℕ) (payload : List ℕ) (d : Doing) (o : Outcome) (y : Way) (k : ℕ) → SoundWorld w → w.doing node ≡ Some d
    → FitsOutcome (view w.state.fixed node) node o → ends w.state d ≡ Some o → MayPut (over w node payload o) n y k → MayPut w n y k
over-shrinks w node n payload d o y k fits is p e q = by_case (n == node) refl
  where
    here : MaySend (view (settled w.state node payload o).fixed node) y.sender k → MayPut w node y k
    here r =
        let after : MaySend (after_call (view w.state.fixed node) node payload o) y.sender k
        = subst (λ v. MaySend v y.sender k) (settled-here w.state node payload o fits.wire (fits.handles node) p) r in (
          after-sends (view w.state.fixed node) node payload o y.sender k (fits.handles node) p after,
          λ passed. after-sent (view w.state.fixed node) node payload o y.sender k (fits.handles node) p
              (ends-passed w.state d o y k e (subst (PassedBy y k) is passed)) after,
        )

    by_case : (b : Bool) → (n == node) ≡ b → MayPut w n y k
    by_case true f =
        subst (λ j. MayPut w j y k) (sym (eqb-true n node f))
        (here (subst (λ j. MaySend (view (settled w.state node payload o).fixed j) y.sender k) (eqb-true n node f) q.0))
    by_case false f = (
      subst (λ v. MaySend v y.sender k) (settled-else w.state node n payload o fits.wire (fits.handles node) p f) q.0,
      λ passed. q.1 (subst (PassedBy y k) (sym (put_at-else w.doing node None n f)) passed),
    )

pub beat-uses : (w u : World) (b : Beat) (n : ℕ) (y : Way) → IsBeat w b u → SoundWorld w → IsAt w.state.fixed.ports y.sender n → Uses w u n y (put_on y b)
beat-uses w u (Begins node call c) n y beat fits at = subst (λ v. Uses w v n y []) (sym beat.2) (record {
  shrinks = λ k q. (
    q.0,
    λ passed. q.1 (passed-of w.doing node n (Some (wire_start w.state node c call)) y k
        (λ r. absurd (subst (PassedBy y k) (begin-none w node call beat.0).0 r)) passed),
  );
  uses = inl refl;
})
beat-uses w u (Makes node m) n y beat fits at =
    let after : Option Doing = Some (next w.state node beat.1 m).after in
    let same : view (moved w.state m).fixed n ≡ view w.state.fixed n = ap (λ (f : Fixed). view f n) (moved-fixed w.state m) in
    subst (λ v. Uses w v n y (put_on y (Makes node m))) (sym beat.5) (record {
      shrinks = λ k q. (
        subst (λ v. MaySend v y.sender k) same q.0,
        λ passed. q.1 (passed-of w.doing node n after y k
            (λ r. next-passed w.state node beat.1 m y k beat.4 (subst (PassedBy y k) beat.2 r)) passed),
      );
      uses = elim (makes-uses w node n beat.1 m y fits at beat.2 beat.4)
          as (λ z. (put_on y (Makes node m) ≡ [])
          ⊎ ((k : ℕ) × (put_on y (Makes node m) ≡ k ∷ []) × MayPut w n y k × (MayPut (made w node beat.1 m) n y k → ⊥))) [
            | inl e ↦ inl e
            | inr r ↦ inr (r.0, r.1, r.2, λ q. q.1 r.3)
          ];
    })
beat-uses w u (Ends node reply payload) n y beat fits at =
    let p : FitsOutcome (view w.state.fixed node) node beat.3 = ends-fits w.state node beat.1 beat.3 (doing-is w node beat.1 fits beat.2) beat.4 in
    subst (λ v. Uses w v n y []) (sym beat.7) (record {
      shrinks = λ k q. over-shrinks w node n payload beat.1 beat.3 y k fits beat.2 p beat.4 q;
      uses = inl refl;
    })
beat-uses w u (Dies node) n y beat fits at = subst (λ v. Uses w v n y []) (sym beat.1) (record { shrinks = λ k q. q; uses = inl refl })

-- the ports stay
pub beat-ports : (w u : World) (b : Beat) → IsBeat w b u → SoundWorld w → u.state.fixed.ports ≡ w.state.fixed.ports
beat-ports w u (Begins node call c) beat fits = ap (λ (v : World). v.state.fixed.ports) beat.2
beat-ports w u (Makes node m) beat fits = ap (λ (v : World). v.state.fixed.ports) beat.5 ∙ ap (λ (f : Fixed). f.ports) (moved-fixed w.state m)
beat-ports w u (Ends node reply payload) beat fits =
    ap (λ (v : World). v.state.fixed.ports) beat.7
    ∙ settled-ports w.state node payload beat.3 fits.wire (fits.handles node) (ends-fits w.state node beat.1 beat.3 (doing-is w node beat.1 fits beat.2) beat.4)
beat-ports w u (Dies node) beat fits = ap (λ (v : World). v.state.fixed.ports) beat.1

-- ---- a weave

joined : (w u : World) (n : ℕ) (y : Way) (ks later : List ℕ) → Uses w u n y ks → NoRepeats later → ((k : ℕ) → IsAmong k later → MayPut u n y k)
    → NoRepeats (ks ++ later) × ((k : ℕ) → IsAmong k (ks ++ later) → MayPut w n y k)
joined w u n y ks later used apart may = elim used.uses as (λ z. NoRepeats (ks ++ later) × ((k : ℕ) → IsAmong k (ks ++ later) → MayPut w n y k)) [
  | inl e ↦ subst (λ js. NoRepeats (js ++ later) × ((k : ℕ) → IsAmong k (js ++ later) → MayPut w n y k)) (sym e) (apart, λ k a. used.shrinks k (may k a))
  | inr r ↦ subst (λ js. NoRepeats (js ++ later) × ((k : ℕ) → IsAmong k (js ++ later) → MayPut w n y k)) (sym r.1)
      ((λ a. r.3 (may r.0 a), apart), first r.0 r.2)
]
  where
    first : (j : ℕ) → MayPut w n y j → (k : ℕ) → IsAmong k (j ∷ later) → MayPut w n y k
    first j p k (inl e) = subst (MayPut w n y) (sym e) p
    first j p k (inr a) = used.shrinks k (may k a)

put_once : (w v : World) (bs : List Beat) (n : ℕ) (y : Way) → IsWeave w bs v → SoundWorld w → IsAt w.state.fixed.ports y.sender n
    → NoRepeats (all_put_on y bs) × ((k : ℕ) → IsAmong k (all_put_on y bs) → MayPut w n y k)
put_once w v [] n y weave fits at = (tt, λ k a. absurd a)
put_once w v (b ∷ bs) n y weave fits at =
    let rest : NoRepeats (all_put_on y bs) × ((k : ℕ) → IsAmong k (all_put_on y bs) → MayPut weave.0 n y k)
    = put_once weave.0 v bs n y weave.2 (beat-fits w weave.0 b weave.1 fits)
    (subst (λ (ports : List Port). IsAt ports y.sender n) (sym (beat-ports w weave.0 b weave.1 fits)) at) in
    joined w weave.0 n y (put_on y b) (all_put_on y bs) (beat-uses w weave.0 b n y weave.1 fits at) rest.0 rest.1

pub delivered_once : DeliveredOnce
delivered_once s v bs y on =
    no_repeats-distinct (all_put_on y bs)
    (put_once (at_work (opened s)) v bs (node_in s.fixed.ports y.sender) y on.1 (opened-fits s on.0) refl).0

-- ---- what is received is given by what was delivered

gives-among : (ys xs : List ℕ) (k : ℕ) → Gives ys xs → IsAmong k xs → IsAmong k ys
gives-among [] [] k g a = absurd a
gives-among [] (x ∷ xs) k g a = absurd g
gives-among (y ∷ ys) [] k g a = absurd a
gives-among (y ∷ ys) (x ∷ xs) k (inl g) (inl e) = inl (e ∙ g.0)
gives-among (y ∷ ys) (x ∷ xs) k (inl g) (inr a) = inr (gives-among ys xs k g.1 a)
gives-among (y ∷ ys) (x ∷ xs) k (inr g) a = inr (gives-among ys (x ∷ xs) k g a)

pub gives-apart : (ys xs : List ℕ) → Gives ys xs → NoRepeats ys → NoRepeats xs
gives-apart ys [] g d = tt
gives-apart [] (x ∷ xs) g d = absurd g
gives-apart (y ∷ ys) (x ∷ xs) (inl g) d = (λ a. d.0 (subst (λ k. IsAmong k ys) g.0 (gives-among ys xs x g.1 a)), gives-apart ys xs g.1 d.1)
gives-apart (y ∷ ys) (x ∷ xs) (inr g) d = gives-apart ys (x ∷ xs) g d.1

pub front-apart : (xs ys : List ℕ) → NoRepeats (xs ++ ys) → NoRepeats xs
front-apart [] ys d = tt
front-apart (x ∷ xs) ys d = (λ a. d.0 (among-front x xs ys a), front-apart xs ys d.1)

pub received_once : ReceivedOnce
received_once s v bs y on =
    no_repeats-distinct (all_taken_from y bs)
    (front-apart (all_taken_from y bs) (serials_of (v.state.waiting y))
    (gives-apart (all_put_on y bs) (all_taken_from y bs ++ serials_of (v.state.waiting y)) (in_order s v bs y on.1)
    (put_once (at_work (opened s)) v bs (node_in s.fixed.ports y.sender) y on.1 (opened-fits s on.0) refl).0))
