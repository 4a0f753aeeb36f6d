-- Each phase of a call begins as it has to.
use Rattle.std.specs.Prelude.{◌≡◌, ℕ, Bool, true, false, not, ◌&&◌, if◌then◌else◌, ◌==◌, List, [], ◌∷◌, map, filter, Option, refl}
use Rattle.std.specs.List.{list_any}
use Rattle.std.specs.Bool.{beq}
use Rattle.std.specs.Option.{option_map_or}
use Rattle.std.proofs.Common.{sym, subst, ap, ◌∙◌, eqb-true, inl, inr}
use Rattle.iox_model.specs.declared.kind.Role.{Role}
use Rattle.iox_model.specs.declared.kind.Role.TheVariants.{Client, Server}
use Rattle.iox_model.specs.declared.kind.Kind.TheVariants.{ActiveRequest}
use Rattle.iox_model.specs.declared.way.Way.{Way}
use Rattle.iox_model.specs.declared.way.RequestState.{RequestState}
use Rattle.iox_model.specs.declared.reply.Refusal.TheVariants.{OutOfMemory, ExceedsMaxActiveRequests, UnableToDeliver}
use Rattle.iox_model.specs.declared.reply.Reply.TheVariants.{Answer}
use Rattle.iox_model.specs.Doings.{refused, Receiver, Sending, Tells, Loans, Sends, FailsToSend, Receives, Drops, Ended, Asking, Again, Judging, Stale, Leaving}
use Rattle.iox_model.specs.Settings.{is_client, same_role}
use Rattle.iox_model.specs.States.{Port, Handle, Fixed, State}
use Rattle.iox_model.specs.Requests.{is_request, targets, to_open, sending_of, opening, looking, emptying, is_active_spent, sends_request}
use Rattle.iox_model.specs.Responses.{sends_response, asked, sends, loaning}
use Rattle.iox_model.specs.Receives.{visiting, stale, took_response, took_request, took, seeking}
use Rattle.iox_model.specs.Releases.{closing, given_back}
use Rattle.iox_model.specs.Looks.{checking, checked, is_shown, hinting}
use Rattle.iox_model.specs.Handles.{is_request_loan, same_kind}
use Rattle.iox_model.specs.Maps.{has_number, has_way, without_way}
use Rattle.iox_model.specs.Messages.{request_way, response_way, names, Message}
use Rattle.iox_model.specs.Outstandings.{kept, is_dry}
use Rattle.iox_model.specs.Peers.{others, forgot_port, ports_of_role}
use Rattle.iox_laws.proofs.WeaveLaws.CallLaws.{not-true}
use Rattle.iox_laws.proofs.WeaveLaws.WholeLemmas.{split}
use Rattle.iox_laws.proofs.WeaveLaws.MapLemmas.{either}
use Rattle.iox_laws.proofs.WeaveLedger.Truths.{never, false_if}
use Rattle.iox_laws.proofs.WeaveLedger.Lists.{IsAmong, NoRepeats, filter-among, map-among, any-among, number-among, no_repeats-filter, no_repeats-map_filter, no_repeats-map, only-one, without-among, find-own}
use Rattle.iox_laws.proofs.WeaveLedger.Views.{View, view, role_in, forgot_in}
use Rattle.iox_laws.proofs.WeaveLedger.Senders.{FitsLoan, FitsSending, FitsDoing, Has, VisitsOwn}

-- ---- who is among the others

abbrev pub HasOwnPorts : Fixed → Type 0
HasOwnPorts f = NoRepeats (map (λ p. p.number) f.ports)

pub others-known : (f : Fixed) (n q : ℕ) (role : Role) → HasOwnPorts f → IsAmong q (others f n role) → forgot_in (view f n) q ≡ false
others-known f n q role d a =
    let r : (p : Port) × IsAmong p (filter (λ p. same_role p.role role && not (has_number p.node (f.forgot n))) f.ports) × (q ≡ p.number)
    = map-among (λ p. p.number) q (filter (λ p. same_role p.role role && not (has_number p.node (f.forgot n))) f.ports) a in
    let t : IsAmong r.0 f.ports × ((same_role (r.0).role role && not (has_number (r.0).node (f.forgot n))) ≡ true)
    = filter-among (λ p. same_role p.role role && not (has_number p.node (f.forgot n))) r.0 f.ports r.1 in
    false_if (forgot_in (view f n) q)
    (λ e. unknown r.0 t.0 r.2 (split _ _ t.1).1 (any-among (λ p. (p.number == q) && has_number p.node (f.forgot n)) f.ports e))
  where
    unknown : (p : Port) → IsAmong p f.ports → q ≡ p.number → not (has_number p.node (f.forgot n)) ≡ true
        → (u : Port) × IsAmong u f.ports × (((u.number == q) && has_number u.node (f.forgot n)) ≡ true) → ⊥
    unknown p among number free u =
        let e : ((u.0.number == q) ≡ true) × (has_number u.0.node (f.forgot n) ≡ true) = split _ _ u.2 in
        never (has_number p.node (f.forgot n))
        (ap (λ (x : Port). has_number x.node (f.forgot n)) (only-one (λ (x : Port). x.number) p u.0 f.ports d among u.1
        (sym number ∙ sym (eqb-true u.0.number q e.0))) ∙ e.1)
        (not-true (has_number p.node (f.forgot n)) free)

pub others-apart : (f : Fixed) (n : ℕ) (role : Role) → HasOwnPorts f → NoRepeats (others f n role)
others-apart f n role d = no_repeats-map_filter (λ p. p.number) (λ p. same_role p.role role && not (has_number p.node (f.forgot n))) f.ports d

-- ---- ports

-- those that are chosen by their role have it
role-by : (f : Fixed) (q : ℕ) (role : Role) (test : Port → Bool) → ((p : Port) → test p ≡ true → same_role p.role role ≡ true) → HasOwnPorts f
    → IsAmong q (map (λ p. p.number) (filter test f.ports)) → is_client (role_in f.ports q) ≡ is_client role
role-by f q role test by_role d a =
    let r : (p : Port) × IsAmong p (filter test f.ports) × (q ≡ p.number) = map-among (λ p. p.number) q (filter test f.ports) a in
    let t : IsAmong r.0 f.ports × (test r.0 ≡ true) = filter-among test r.0 f.ports r.1 in
    ap (λ k. is_client (role_in f.ports k)) r.2
    ∙ ap (λ (o : Option Port). is_client (option_map_or (λ p. p.role) o Client)) (find-own (λ (p : Port). p.number) f.ports r.0 d t.0)
    ∙ same (is_client (r.0).role) (is_client role) (by_role r.0 t.1)
  where
    same : (a b : Bool) → beq a b ≡ true → a ≡ b
    same true true e = refl
    same false false e = refl
    same true false e = absurd (never (beq true false) e refl)
    same false true e = absurd (never (beq false true) e refl)

-- all of a role, and those of a role that pass a test
pub role-of-all : (f : Fixed) (q : ℕ) (role : Role) → HasOwnPorts f → IsAmong q (ports_of_role f role) → is_client (role_in f.ports q) ≡ is_client role
role-of-all f q role d a = role-by f q role (λ p. same_role p.role role) (λ p e. e) d a

pub role-of : (f : Fixed) (q : ℕ) (role : Role) (test : Port → Bool) → HasOwnPorts f
    → IsAmong q (map (λ p. p.number) (filter (λ p. same_role p.role role && test p) f.ports)) → is_client (role_in f.ports q) ≡ is_client role
role-of f q role test d a = role-by f q role (λ p. same_role p.role role && test p) (λ p e. (split _ _ e).0) d a

-- ---- sends

pub targets-apart : (x : Sending) → NoRepeats x.to → NoRepeats (targets x)
targets-apart x d =
    either (λ (ws : List Way). NoRepeats ws) (is_request x) (map (request_way x.loan.port) x.to)
    (map (λ client. response_way client x.loan.lane x.loan.port) x.to)
    (λ u. no_repeats-map (request_way x.loan.port) x.to (λ a b e. ap (λ (w : Way). w.receiver) e) d)
    (λ u. no_repeats-map (λ client. response_way client x.loan.lane x.loan.port) x.to (λ a b e. ap (λ (w : Way). w.receiver) e) d)

pub target-of : (x : Sending) (w : Way) → IsAmong w (targets x) → (w.sender ≡ x.loan.port) × IsAmong w.receiver x.to
target-of x w a = by_case (is_request x) a
  where
    by_case : (b : Bool) → IsAmong w (if b then map (request_way x.loan.port) x.to else map (λ client. response_way client x.loan.lane x.loan.port) x.to)
        → (w.sender ≡ x.loan.port) × IsAmong w.receiver x.to
    by_case true p =
        let r : (q : ℕ) × IsAmong q x.to × (w ≡ request_way x.loan.port q) = map-among (request_way x.loan.port) w x.to p in
        (ap (λ (u : Way). u.sender) r.2, subst (λ k. IsAmong k x.to) (sym (ap (λ (u : Way). u.receiver) r.2)) r.1)
    by_case false p =
        let r : (q : ℕ) × IsAmong q x.to × (w ≡ response_way q x.loan.lane x.loan.port)
        = map-among (λ client. response_way client x.loan.lane x.loan.port) w x.to p in
        (ap (λ (u : Way). u.sender) r.2, subst (λ k. IsAmong k x.to) (sym (ap (λ (u : Way). u.receiver) r.2)) r.1)

pub opening-fits : (v : View) (n : ℕ) (x : Sending) (left full : List Way) → FitsSending v n x → FitsDoing v n (opening x left full)
opening-fits v n x [] full p = (
  p,
  record {
    apart = no_repeats-filter (λ w. not (has_way w full)) (targets x) (targets-apart x p.apart);
    among = λ w a. (filter-among (λ w. not (has_way w full)) w (targets x) a).0;
  },
  tt,
)
opening-fits v n x (w ∷ left) full p = p

pub looking-fits : (v : View) (n : ℕ) (x : Sending) (left full : List Way) → FitsSending v n x → FitsDoing v n (looking x left full)
looking-fits v n x [] full p =
    either (FitsDoing v n) (list_any x.fails full) (Ended (FailsToSend x.loan x.copied UnableToDeliver)) (opening x (to_open x) full)
    (λ u. p.loan) (λ u. opening-fits v n x (to_open x) full p)
looking-fits v n x (w ∷ left) full p = p

pub emptying-fits : (v : View) (n : ℕ) (x : Sending) (left : List Way) → FitsSending v n x → FitsDoing v n (emptying x left)
emptying-fits v n x [] p =
    either (FitsDoing v n) x.overflow (opening x (to_open x) []) (looking x (targets x) [])
    (λ u. opening-fits v n x (to_open x) [] p) (λ u. looking-fits v n x (targets x) [] p)
emptying-fits v n x (w ∷ left) p = p

pub asked-fits : (v : View) (n : ℕ) (x : Sending) (shown : RequestState) → FitsSending v n x → FitsDoing v n (asked x shown)
asked-fits v n x shown p =
    either (FitsDoing v n) (names shown x.loan.request) (emptying x (targets x)) (Ended (Sends x.loan x.copied 0))
    (λ u. emptying-fits v n x (targets x) p) (λ u. p.loan)

sending-fits : (f : Fixed) (n : ℕ) (h : Handle) (copied : Bool) (to : List ℕ) → FitsLoan (view f n) n h copied → NoRepeats to
    → ((q : ℕ) → IsAmong q to → forgot_in (view f n) q ≡ false) → FitsSending (view f n) n (sending_of f h copied to)
sending-fits f n h copied to p apart known = record { loan = p; apart = apart; known = known; over = refl }

request-fits : (f : Fixed) (n : ℕ) (h : Handle) (copied : Bool) (to : List ℕ) → FitsLoan (view f n) n h copied → NoRepeats to
    → ((q : ℕ) → IsAmong q to → forgot_in (view f n) q ≡ false) → FitsDoing (view f n) n (sends_request f h copied to)
request-fits f n h copied to p apart known =
    either (FitsDoing (view f n) n) (is_active_spent f h) (Ended (FailsToSend h copied ExceedsMaxActiveRequests))
    (emptying (sending_of f h copied to) (map (request_way h.port) to)) (λ u. p)
    (λ u. emptying-fits (view f n) n (sending_of f h copied to) (map (request_way h.port) to) (sending-fits f n h copied to p apart known))

response-fits : (f : Fixed) (n : ℕ) (h : Handle) (copied : Bool) → HasOwnPorts f → FitsLoan (view f n) n h copied
    → FitsDoing (view f n) n (sends_response f h copied)
response-fits f n h copied d p =
    either (FitsDoing (view f n) n) (has_number h.client (others f h.node Client)) (Asking (sending_of f h copied (h.client ∷ []))) (Ended (Sends h copied 0))
    (λ e. sending-fits f n h copied (h.client ∷ []) p ((λ q. q), tt) (known e)) (λ u. p)
  where
    known : has_number h.client (others f h.node Client) ≡ true → (q : ℕ) → IsAmong q (h.client ∷ []) → forgot_in (view f n) q ≡ false
    known e q (inl same) =
        others-known f n q Client d
        (subst (λ k. IsAmong k (others f n Client)) (sym same)
        (subst (λ k. IsAmong h.client (others f k Client)) p.of_node (number-among h.client (others f h.node Client) e)))
    known e q (inr a) = absurd a

pub sends-fits : (f : Fixed) (n : ℕ) (h : Handle) (copied : Bool) → HasOwnPorts f → FitsLoan (view f n) n h copied → FitsDoing (view f n) n (sends f h copied)
sends-fits f n h copied d p =
    either (FitsDoing (view f n) n) (is_request_loan h.kind) (sends_request f h copied (others f h.node Server)) (sends_response f h copied)
    (λ u. request-fits f n h copied (others f h.node Server) p (subst (λ k. NoRepeats (others f k Server)) (sym p.of_node) (others-apart f n Server d))
    (λ q a. others-known f n q Server d (subst (λ k. IsAmong q (others f k Server)) p.of_node a)))
    (λ u. response-fits f n h copied d p)

pub loaning-fits : (s : State) (n : ℕ) (copies : Bool) (h : Handle) (left : List Way) → HasOwnPorts s.fixed → FitsLoan (view s.fixed n) n h true
    → FitsDoing (view s.fixed n) n (loaning s copies h left)
loaning-fits s n copies h [] d p =
    either (FitsDoing (view s.fixed n) n) (is_dry s.fixed h.port (kept s h.port [])) (refused OutOfMemory)
    (if copies then sends s.fixed h true else Ended (Loans h))
    (λ u. tt)
    (λ u. either (FitsDoing (view s.fixed n) n) copies (sends s.fixed h true) (Ended (Loans h)) (λ y. sends-fits s.fixed n h true d p) (λ y. p))
loaning-fits s n copies h (w ∷ left) d p = p

-- ---- receives

pub visiting-fits : (v : View) (n : ℕ) (x : Receiver) (left : List Way) (seen : Bool) → VisitsOwn v n x left → FitsDoing v n (visiting x left seen)
visiting-fits v n x [] seen p = tt
visiting-fits v n x (w ∷ left) seen p = p

pub fewer : (v : View) (n : ℕ) (x : Receiver) (w : Way) (left : List Way) → VisitsOwn v n x left → VisitsOwn v n x (without_way w left)
fewer v n x w left p = (p.0, λ u a. p.1 u (without-among w u left a))

pub took-fits : (v : View) (f : Fixed) (n : ℕ) (x : Receiver) (w : Way) (m : Message) (left : List Way) (seen : Bool) → VisitsOwn v n x left
    → Has v x w m → FitsDoing v n (took f n x w m left seen)
took-fits v f n x w m left seen p e =
    either (FitsDoing v n) (is_client x.role) (took_response f n x w m left seen) (took_request f x w m left seen)
    (λ u. either (FitsDoing v n) (m.request == x.request) (Ended (Receives x w m)) (stale f n x w m left seen) (λ y. (p.0, e))
    (λ y. either (FitsDoing v n) (forgot_port f n w.sender) (Again x w left seen) (Stale x w m left seen) (λ z. (p, e.0, e.1)) (λ z. (p, e))))
    (λ u. either (FitsDoing v n) f.limits.fire_and_forget (Ended (Receives x w m)) (Judging x w m left seen) (λ y. (p.0, e)) (λ y. (p, e)))

-- ---- others

pub closing-fits : (v : View) (n : ℕ) (h : Handle) (left : List Way) → IsAmong h v.handles → FitsDoing v n (closing h left)
closing-fits v n h [] p = p
closing-fits v n h (w ∷ left) p = p

pub given_back-fits : (v : View) (n : ℕ) (h : Handle) → IsAmong h v.handles → FitsDoing v n (given_back h)
given_back-fits v n h p = either (FitsDoing v n) (same_kind h.kind ActiveRequest) (Leaving h) (Ended (Drops h)) (λ u. p) (λ u. p)

pub checking-fits : (v : View) (n : ℕ) (h : Handle) (hinted : Bool) (left : List Way) → FitsDoing v n (checking h hinted left)
checking-fits v n h hinted [] = tt
checking-fits v n h hinted (w ∷ left) = tt

pub checked-fits : (v : View) (n : ℕ) (h : Handle) (hinted : Bool) (left : List Way) (w : Way) (shown : RequestState)
    → FitsDoing v n (checked h hinted left w shown)
checked-fits v n h hinted left w shown =
    either (FitsDoing v n) (is_shown h hinted shown) (Ended (Tells (Answer true))) (checking h hinted (without_way w left))
    (λ u. tt) (λ u. checking-fits v n h hinted (without_way w left))

pub hinting-fits : (v : View) (n : ℕ) (h : Handle) (left : List Way) → FitsDoing v n (hinting h left)
hinting-fits v n h [] = tt
hinting-fits v n h (w ∷ left) = tt

pub seeking-fits : (v : View) (n : ℕ) (left : List Way) → FitsDoing v n (seeking left)
seeking-fits v n [] = tt
seeking-fits v n (w ∷ left) = tt
