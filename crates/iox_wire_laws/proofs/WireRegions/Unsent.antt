-- A message whose call still stores its words is outstanding nowhere.
use Rattle.std.specs.Prelude.{if◌then◌else◌, not, ◌&&◌, ◌≤◌, map, filter}
use Rattle.std.specs.List.{list_any}
use Rattle.std.proofs.Common.{◌≡◌, ℕ, true, false, ◌==◌, List, [], ◌∷◌, Some, refl, ap, sym, subst, ◌∙◌, inl, ◌⊎◌, true≢false, eq-eqb, arith}
use Rattle.iox_model.specs.declared.kind.Role.TheVariants.{Client, Server}
use Rattle.iox_model.specs.declared.way.Way.{Way}
use Rattle.iox_model.specs.Doings.{Doing, Ended, Sends, FailsToSend, Asking, Sending}
use Rattle.iox_model.specs.Handles.{is_request_loan}
use Rattle.iox_model.specs.Maps.{has_number, has_way}
use Rattle.iox_model.specs.Messages.{request_way}
use Rattle.iox_model.specs.Peers.{forgot_port, others, ports_of_role, role_at, ways_from, ways_from_client, ways_from_server}
use Rattle.iox_model.specs.Requests as requests
use Rattle.iox_model.specs.Requests.{sending_of, targets, to_open, is_active_spent}
use Rattle.iox_model.specs.Responses.{sends, sends_response}
use Rattle.iox_model.specs.Settings.{is_client, same_role}
use Rattle.iox_model.specs.States.{Fixed, Handle, Port}
use Rattle.iox_model.specs.Weaves.{World}
use Rattle.iox_model.specs.declared.reply.Refusal.TheVariants.{ExceedsMaxActiveRequests, UnableToDeliver}
use Rattle.iox_laws.proofs.WeaveLaws.MapLemmas.{either}
use Rattle.iox_laws.proofs.WeaveLedger.Lists.{IsAmong, among-any, among-filter, among-map, filter-among, map-among, way-among}
use Rattle.iox_laws.proofs.WeaveLedger.LedgerHolds.{holds-in-the-end}
use Rattle.iox_laws.proofs.WeaveLedger.Once.{IsPassed, MayPut, PassedBy}
use Rattle.iox_laws.proofs.WeaveLedger.Rights.{IsLoaned}
use Rattle.iox_laws.proofs.WeaveLedger.Senders.{FitsDoing, FitsLoan}
use Rattle.iox_laws.proofs.WeaveLedger.Truths.{false_if}
use Rattle.iox_laws.proofs.WeaveLedger.Views.{View, view, IsAt, node_in}
use Rattle.iox_laws.proofs.WeaveLedger.Worlds.{doing-is}
use Rattle.iox_laws.proofs.WeaveBeats.LiveWays.{Here}

-- ---- a send that begins has a loan

module _ (v : View) (n : ℕ) where
  abbrev Fits : Doing → Type 0
  Fits d = FitsDoing v n d

  abbrev Gives : Sending → Doing → Type 0
  Gives x d = FitsDoing v n d → FitsLoan v n x.loan x.copied

  opening : (x : Sending) (left full : List Way) → Gives x (requests.opening x left full)
  opening x [] full fits = fits.0.loan
  opening x (w ∷ left) full fits = fits.loan

  looking : (x : Sending) (left full : List Way) → Gives x (requests.looking x left full)
  looking x [] full =
      either (Gives x) (list_any x.fails full) (Ended (FailsToSend x.loan x.copied UnableToDeliver)) (requests.opening x (to_open x) full)
      (λ e fits. fits) (λ e. opening x (to_open x) full)
  looking x (w ∷ left) full = λ fits. fits.loan

  emptying : (x : Sending) (left : List Way) → Gives x (requests.emptying x left)
  emptying x [] =
      either (Gives x) x.overflow (requests.opening x (to_open x) []) (requests.looking x (targets x) [])
      (λ e. opening x (to_open x) []) (λ e. looking x (targets x) [])
  emptying x (w ∷ left) = λ fits. fits.loan

  pub loan_of_send : (f : Fixed) (h : Handle) → FitsDoing v n (sends f h true) → FitsLoan v n h true
  loan_of_send f h =
      either (λ d. FitsDoing v n d → FitsLoan v n h true) (is_request_loan h.kind) (requests.sends_request f h true (others f h.node Server)) (sends_response f h true)
      (λ e. either (λ d. FitsDoing v n d → FitsLoan v n h true) (is_active_spent f h) (Ended (FailsToSend h true ExceedsMaxActiveRequests))
      (requests.emptying (sending_of f h true (others f h.node Server)) (map (request_way h.port) (others f h.node Server))) (λ k fits. fits)
      (λ k. emptying (sending_of f h true (others f h.node Server)) (map (request_way h.port) (others f h.node Server))))
      (λ e. either (λ d. FitsDoing v n d → FitsLoan v n h true) (has_number h.client (others f h.node Client)) (Asking (sending_of f h true (h.client ∷ [])))
      (Ended (Sends h true 0)) (λ k fits. fits.loan) (λ k fits. fits))

-- ---- it passed no way

-- with somebody to send to, it empties first
not_passed : (f : Fixed) (h : Handle) (y : Way) (k : ℕ) → (is_request_loan h.kind ≡ true → others f h.node Server ≡ [] → ⊥) → IsPassed y k (sends f h true) → ⊥
not_passed f h y k some =
    either (λ d. IsPassed y k d → ⊥) (is_request_loan h.kind) (requests.sends_request f h true (others f h.node Server)) (sends_response f h true)
    (λ e. either (λ d. IsPassed y k d → ⊥) (is_active_spent f h) (Ended (FailsToSend h true ExceedsMaxActiveRequests))
    (requests.emptying (sending_of f h true (others f h.node Server)) (map (request_way h.port) (others f h.node Server))) (λ s passed. passed)
    (λ s. empties (others f h.node Server) (some e)))
    (λ e. either (λ d. IsPassed y k d → ⊥) (has_number h.client (others f h.node Client)) (Asking (sending_of f h true (h.client ∷ []))) (Ended (Sends h true 0))
    (λ s passed. passed) (λ s passed. passed))
  where
    empties : (servers : List ℕ) → (servers ≡ [] → ⊥)
        → IsPassed y k (requests.emptying (sending_of f h true servers) (map (request_way h.port) servers)) → ⊥
    empties [] none passed = none refl
    empties (q ∷ servers) none passed = passed

-- the receiver of a client's way is one of the servers that its node did not forget
receiver_there : (f : Fixed) (n : ℕ) (y : Way) → is_client (role_at f y.sender) ≡ true → has_way y (ways_from f y.sender) ≡ true → forgot_port f n y.receiver ≡ false
    → others f n Server ≡ [] → ⊥
receiver_there f n y client way known none =
    let ways : IsAmong y (map (request_way y.sender) (ports_of_role f Server))
    = way-among y (map (request_way y.sender) (ports_of_role f Server))
    (subst (λ b. has_way y (if b then ways_from_client f y.sender else ways_from_server f y.sender) ≡ true) client way) in
    let at = map-among (request_way y.sender) y (ports_of_role f Server) ways in
    let port = map-among (λ (q : Port). q.number) at.0 (filter (λ q. same_role q.role Server) f.ports) at.1 in
    let has = filter-among (λ (q : Port). same_role q.role Server) port.0 f.ports port.1 in
    let q : Port = port.0 in
    let number : q.number ≡ y.receiver = sym port.2 ∙ sym (ap (λ (v : Way). v.receiver) at.2) in
    let unknown : has_number q.node (f.forgot n) ≡ false
    = false_if (has_number q.node (f.forgot n)) (λ e. true≢false (sym (among-any (λ p. (p.number == y.receiver) && has_number p.node (f.forgot n)) q f.ports has.0
    (rw (eq-eqb q.number y.receiver number) e)) ∙ known)) in
    let here : IsAmong q.number (others f n Server)
    = among-map (λ (p : Port). p.number) q (filter (λ p. same_role p.role Server && not (has_number p.node (f.forgot n))) f.ports)
    (among-filter (λ (p : Port). same_role p.role Server && not (has_number p.node (f.forgot n))) q f.ports has.0 (rw has.1 (rw unknown refl))) in
    nobody q.number (subst (IsAmong q.number) none here)
  where
    nobody : (k : ℕ) → IsAmong k [] → ⊥
    nobody k among = among

pub copies_are_fresh : (w : World) (n : ℕ) (h : Handle) (y : Way) → Here w → w.doing n ≡ Some (sends w.state.fixed h true) → y.sender ≡ h.port
    → has_way y (ways_from w.state.fixed y.sender) ≡ true → forgot_port w.state.fixed n y.receiver ≡ false → w.state.delivered y h.message.serial ≡ false
copies_are_fresh w n h y at is from way known =
    let f : Fixed = w.state.fixed in
    let loan : FitsLoan (view f n) n h true = loan_of_send (view f n) n f h (doing-is w n (sends f h true) at.holding.fits is) in
    let k : ℕ = h.message.serial in
    let here : IsAt f.ports y.sender n = ap (node_in f.ports) from ∙ loan.of_port in
    let some : is_request_loan h.kind ≡ true → others f h.node Server ≡ [] → ⊥
    = λ request. subst (λ i. others f i Server ≡ [] → ⊥) (sym loan.of_node)
    (receiver_there f n y (ap (λ i. is_client (role_at f i)) from ∙ sym loan.made.role ∙ request) way known) in
    let same : (view f n).loans h.port ≡ k = sym loan.stands.0 in
    false_if (w.state.delivered y k) (λ e. (holds-in-the-end at.state w at.beats y at.on).ledger.fresh k e
    (subst (λ i. MayPut w i y k) (sym here) (
      subst (λ q. ((view f n).loans q ≤ k) ⊎ IsLoaned (view f n) q k) (sym from) (inl (omega arith)),
      λ passed. not_passed f h y k some (subst (PassedBy y k) is passed),
    )))
