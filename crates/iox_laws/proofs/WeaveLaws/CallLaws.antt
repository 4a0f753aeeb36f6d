-- What holds of one call, whatever other nodes do in between: a client receives what names its request.
use Rattle.std.specs.Prelude.{◌≡◌, ℕ, Bool, true, false, not, ◌==◌, List, [], ◌∷◌, Some, None, refl}
use Rattle.std.specs.List.{list_all}
use Rattle.std.specs.Option.{option_map_or}
use Rattle.std.proofs.Common.{sym, subst, ap, ◌∙◌, true≢false, eqb-true, arith}
use Rattle.iox_model.specs.declared.kind.Role.TheVariants.{Client}
use Rattle.iox_model.specs.declared.way.Way.{Way}
use Rattle.iox_model.specs.declared.call.Call.TheVariants.{Receive}
use Rattle.iox_model.specs.declared.call.WireCall.TheVariants as wire_calls
use Rattle.iox_model.specs.declared.reply.Refusal.TheVariants.{UnknownNumber}
use Rattle.iox_model.specs.Receives.{pending_ways, visiting, stale, took_response, took_request, took, receives}
use Rattle.iox_model.specs.Doings.{refused, Receiver, Tells, Receives, Doing, Ended, Visiting, Again, Stale}
use Rattle.iox_model.specs.Weaves.{wire_start, begun, IsBeat, IsWeave, World, Beat, Begins, Makes, Ends, Dies}
use Rattle.iox_model.specs.Settings.{is_client}
use Rattle.iox_model.specs.States.{Fixed, State}
use Rattle.iox_model.specs.Handles.{has, TheHandle}
use Rattle.iox_model.specs.Maps.{put_at, without_way}
use Rattle.iox_model.specs.Moments.{Holds, Moment, Take, GiveBack, SeesEmpty, SeesWaiting}
use Rattle.iox_model.specs.Begins.{begins_at, start}
use Rattle.iox_laws.specs.WeaveLaws.Laws.{goes_on_by, ReceivesOwn}
use Rattle.iox_model.specs.Commands.{WireCall}
use Rattle.iox_model.specs.Messages.{Message}
use Rattle.iox_model.specs.Transitions.{next}
use Rattle.iox_model.specs.Peers.{forgot_port}
use Rattle.iox_laws.proofs.WeaveLaws.PlayedCalls.{ended}
use Rattle.iox_laws.proofs.WeaveLaws.MapLemmas.{either}
use Rattle.iox_laws.proofs.WeaveLaws.WholeLemmas.{put_at-here, some-is}
use Rattle.iox_laws.proofs.WeaveLaws.WholeLemmas.{split}

-- ---- one call among others

pub eqb-flip : (n k : ℕ) → (n == k) ≡ false → (k == n) ≡ false
eqb-flip n k e = grind (arith)

pub not-true : (b : Bool) → not b ≡ true → b ≡ false
not-true true e = absurd (true≢false (sym e))
not-true false e = refl

pub put_at-else : {A : Type 0} (f : ℕ → A) (k : ℕ) (a : A) (q : ℕ) → (q == k) ≡ false → put_at f k a q ≡ f q
put_at-else f k a q e = rw e refl

-- a property of what is left to do that each moment of the call keeps
abbrev pub StepsKeep : ℕ → (Doing → Type 0) → Type 0
StepsKeep node P = (s : State) (d : Doing) (m : Moment) → P d → Holds s m → (next s node d m).condition → P (next s node d m).after

-- what the call of the node has still to do has the property
abbrev pub Has : World → ℕ → (Doing → Type 0) → Type 0
Has w node P = (e : Doing) × (w.doing node ≡ Some e) × P e

stays_at : (node : ℕ) (P : Doing → Type 0) (w v : World) → Has w node P → v.doing node ≡ w.doing node → Has v node P
stays_at node P w v has same = (has.0, same ∙ has.1, has.2)

makes_keep : (node : ℕ) (P : Doing → Type 0) → StepsKeep node P → (w v : World) (n : ℕ) (m : Moment) (b : Bool) → (node == n) ≡ b
    → IsBeat w (Makes n m) v → Has w node P → Has v node P
makes_keep node P keeps w v n m true e beat has =
    let same : node ≡ n = eqb-true node n e in
    let mine : w.doing node ≡ Some beat.1 = ap w.doing same ∙ beat.2 in
    let d : beat.1 ≡ has.0 = some-is beat.1 has.0 (sym mine ∙ has.1) in (
      (next w.state n beat.1 m).after,
      ap (λ (x : World). x.doing node) beat.5 ∙ (rw e refl),
      subst (λ k. P (next w.state k beat.1 m).after) same
          (keeps w.state beat.1 m (subst P (sym d) has.2) beat.3 (subst (λ k. (next w.state k beat.1 m).condition) (sym same) beat.4)),
    )
makes_keep node P keeps w v n m false e beat has =
    stays_at node P w v has (ap (λ (x : World). x.doing node) beat.5 ∙ put_at-else w.doing n (Some (next w.state n beat.1 m).after) node e)

beat_keeps : (node : ℕ) (P : Doing → Type 0) → StepsKeep node P → (w v : World) (b : Beat) → IsBeat w b v → goes_on_by node b ≡ true
    → Has w node P → Has v node P
beat_keeps node P keeps w v (Begins n call c) beat goes has =
    stays_at node P w v has (ap (λ (x : World). x.doing node) beat.2
    ∙ put_at-else w.doing n (Some (wire_start w.state n c call)) node (eqb-flip n node (not-true (n == node) goes)))
beat_keeps node P keeps w v (Makes n m) beat goes has = makes_keep node P keeps w v n m (node == n) refl beat has
beat_keeps node P keeps w v (Ends n reply payload) beat goes has =
    stays_at node P w v has (ap (λ (x : World). x.doing node) beat.7
    ∙ put_at-else w.doing n None node (eqb-flip n node (not-true (n == node) goes)))
beat_keeps node P keeps w v (Dies n) beat goes has = stays_at node P w v has (ap (λ (x : World). x.doing node) beat.1)

-- A property that each moment of a call keeps lasts as long as the call continues.
pub along : (node : ℕ) (P : Doing → Type 0) → StepsKeep node P → (w v : World) (bs : List Beat) → IsWeave w bs v
    → list_all (goes_on_by node) bs ≡ true → Has w node P → Has v node P
along node P keeps w v [] weave goes has = stays_at node P w v has (ap (λ (x : World). x.doing node) weave)
along node P keeps w v (b ∷ bs) weave goes has =
    let p : (goes_on_by node b ≡ true) × (list_all (goes_on_by node) bs ≡ true) = split _ _ goes in
    along node P keeps weave.0 v bs weave.2 p.1 (beat_keeps node P keeps w weave.0 b weave.1 p.0 has)

-- ---- a client receives only what names its request

abbrev IsReceiver : ℕ → Receiver → Type 0
IsReceiver r x = (is_client x.role ≡ true) × (x.request ≡ r)

abbrev IsReceive : ℕ → Doing → Type 0
IsReceive r (Visiting x left seen) = IsReceiver r x
IsReceive r (Again x w left seen) = IsReceiver r x
IsReceive r (Stale x w m left seen) = IsReceiver r x
IsReceive r (Ended (Receives x w m)) = m.request ≡ r
IsReceive r (Ended (Tells reply)) = Unit {0}
IsReceive r d = ⊥

visiting_receives : (r : ℕ) (x : Receiver) (left : List Way) (seen : Bool) → IsReceiver r x → IsReceive r (visiting x left seen)
visiting_receives r x [] seen p = tt
visiting_receives r x (w ∷ left) seen p = p

took_receives : (r : ℕ) (f : Fixed) (node : ℕ) (x : Receiver) (w : Way) (m : Message) (left : List Way) (seen : Bool)
    → IsReceiver r x → IsReceive r (took f node x w m left seen)
took_receives r f node x w m left seen p =
    either (IsReceive r) (is_client x.role) (took_response f node x w m left seen) (took_request f x w m left seen)
    (λ e. either (IsReceive r) (m.request == x.request) (Ended (Receives x w m)) (stale f node x w m left seen)
    (λ same. eqb-true m.request x.request same ∙ p.1)
    (λ other. either (IsReceive r) (forgot_port f node w.sender) (Again x w left seen) (Stale x w m left seen) (λ u. p) (λ u. p)))
    (λ e. absurd (true≢false (sym p.0 ∙ e)))

goes_on_receiving : (r node : ℕ) → StepsKeep node (IsReceive r)
goes_on_receiving r node s (Visiting x left seen) (SeesEmpty w) p h c = visiting_receives r x (without_way w left) seen p
goes_on_receiving r node s (Visiting x left seen) (SeesWaiting w) p h c = visiting_receives r x (without_way w left) true p
goes_on_receiving r node s (Visiting x left seen) (Take w m) p h c = took_receives r s.fixed node x w m left seen p
goes_on_receiving r node s (Visiting x left seen) m p h c = absurd c
goes_on_receiving r node s (Again x v left seen) (SeesEmpty w) p h c = visiting_receives r x (without_way v left) seen p
goes_on_receiving r node s (Again x v left seen) (Take w m) p h c = took_receives r s.fixed node x v m left seen p
goes_on_receiving r node s (Again x v left seen) m p h c = absurd c
goes_on_receiving r node s (Stale x v n left seen) (GiveBack w k) p h c = p
goes_on_receiving r node s (Stale x v n left seen) m p h c = absurd c
goes_on_receiving r node s (Ended o) m p h c = absurd c
goes_on_receiving r node s d m p h c = absurd p

pub receives_own : ReceivesOwn
receives_own w v node n h c bs x y m during subject_is ended =
    let call : WireCall = wire_calls.Port (Receive n) in
    let mid : World = begun w node c call in
    let start_is : start w.state node c (Receive n) ≡ receives w.state.fixed (TheHandle h)
    = ap (λ o. option_map_or (begins_at w.state c (Receive n)) o (refused UnknownNumber)) subject_is in
    let x₀ : Receiver = record { port = h.port; role = Client; lane = h.lane; request = h.request } in
    let first : IsReceive h.request (start w.state node c (Receive n))
    = subst (IsReceive h.request) (sym start_is) (visiting_receives h.request x₀ (pending_ways w.state.fixed h) false (refl, refl)) in
    let last : Has v node (IsReceive h.request)
    = along node (IsReceive h.request) (goes_on_receiving h.request node) mid v bs
    (subst (λ u. IsWeave u bs v) during.0.1.2 during.0.2) during.1
    (start w.state node c (Receive n), put_at-here w.doing node (Some (start w.state node c (Receive n))), first) in
    subst (IsReceive h.request) (some-is last.0 (Ended (Receives x y m)) (sym last.1 ∙ ended)) last.2
