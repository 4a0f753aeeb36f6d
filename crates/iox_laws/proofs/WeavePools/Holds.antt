-- No port keeps more messages than its pool has.
use Rattle.std.specs.Prelude.{◌≡◌, ℕ, ◌+◌, ◌<◌, ◌≤◌, Bool, true, false, ◌&&◌, ◌||◌, if◌then◌else◌, ◌==◌, List, [], ◌∷◌, ◌++◌, map, ◌⊎◌, refl}
use Rattle.std.proofs.Common.{sym, subst, ap, ◌∙◌, arith, eqb-true, eq-eqb, true≢false, inl, inr}
use Rattle.iox_model.specs.declared.kind.Kind.{Kind}
use Rattle.iox_model.specs.declared.kind.Kind.TheVariants.{ActiveRequest, Response}
use Rattle.iox_model.specs.Doings.{Outcome, Tells, Loans, Fills, Sends, FailsToSend, Receives, Drops, DropsPort, Forgets}
use Rattle.iox_model.specs.Settings.{is_client}
use Rattle.iox_model.specs.States.{Handle, Fixed}
use Rattle.iox_model.specs.Handles.{is_own, is_request_loan, is_response_loan, is_received, handles_of}
use Rattle.iox_model.specs.Maps.{has_number, put_at}
use Rattle.iox_model.specs.Counts.{sent_handle, holding}
use Rattle.iox_model.specs.Outstandings.{is_held}
use Rattle.iox_model.specs.Keeping.{serials_of_loan, serials_of_outcome}
use Rattle.iox_model.specs.Peers.{node_of_port}
use Rattle.iox_laws.proofs.WeaveLaws.WholeLemmas.{split}
use Rattle.iox_laws.proofs.WeaveLaws.MapLemmas.{either}
use Rattle.iox_laws.proofs.WeaveLaws.WholeLemmas.{put_at-here}
use Rattle.iox_laws.proofs.WeaveLedger.Truths.{both_true}
use Rattle.iox_laws.proofs.WeaveLedger.Lists.{IsAmong, NoRepeats, among-last, filter-among, among-filter, any-among, among-any}
use Rattle.iox_laws.proofs.WeaveLedger.Views.{View, view, IsAt, plus, counted, lends_one, swapped, less, taken_handle, after_call}
use Rattle.iox_laws.proofs.WeaveLedger.Senders.{is_loan}
use Rattle.iox_laws.proofs.WeaveLedger.HandlesKept.{with-among, without-number, more-loans}
use Rattle.iox_laws.proofs.WeavePools.Spare.{FitsEnd}
use Rattle.iox_laws.proofs.WeavePools.Under.{loan-serial}

-- ---- a port's own messages

pub record HoldsOwn (v : View) (q k : ℕ) : Type 0 where
  pub handle : Handle
  pub among : IsAmong handle v.handles
  pub port : handle.port ≡ q
  pub own : is_own handle.kind ≡ true
  pub serial : handle.message.serial ≡ k

pub holds-held : (f : Fixed) (n q k : ℕ) → IsAt f.ports q n → is_held f q k ≡ true → HoldsOwn (view f n) q k
holds-held f n q k at e =
    let r : (h : Handle) × IsAmong h (handles_of f q) × ((is_own h.kind && (h.message.serial == k)) ≡ true)
    = any-among (λ h. is_own h.kind && (h.message.serial == k)) (handles_of f q) e in
    let t : IsAmong r.0 (f.handles (node_of_port f q)) × (((r.0).port == q) ≡ true)
    = filter-among (λ (h : Handle). h.port == q) r.0 (f.handles (node_of_port f q)) r.1 in
    let o : (is_own (r.0).kind ≡ true) × (((r.0).message.serial == k) ≡ true) = split _ _ r.2 in
    record {
      handle = r.0;
      among = subst (λ m. IsAmong r.0 (f.handles m)) at t.0;
      port = eqb-true (r.0).port q t.1;
      own = o.0;
      serial = eqb-true (r.0).message.serial k o.1;
    }

pub held-holds : (f : Fixed) (n q k : ℕ) → IsAt f.ports q n → HoldsOwn (view f n) q k → is_held f q k ≡ true
held-holds f n q k at p =
    among-any (λ h. is_own h.kind && (h.message.serial == k)) p.handle (handles_of f q)
    (among-filter (λ (h : Handle). h.port == q) p.handle (f.handles (node_of_port f q)) (subst (λ m. IsAmong p.handle (f.handles m)) (sym at) p.among)
    (eq-eqb p.handle.port q p.port))
    (both_true (is_own p.handle.kind) (p.handle.message.serial == k) p.own (eq-eqb p.handle.message.serial k p.serial))

loan-own : (a b c : Bool) → (a || b) ≡ true → (a || (b || c)) ≡ true
loan-own true b c e = refl
loan-own false true c e = refl
loan-own false false c e = absurd (true≢false (sym e))

pub own-loan : (k : Kind) → is_loan k ≡ true → is_own k ≡ true
own-loan k e = loan-own (is_request_loan k) (is_response_loan k) _ e

-- the serial of a loan that is made
pub made-serial : (h : Handle) (q k : ℕ) → h.port ≡ q → h.message.serial ≡ k → has_number k (serials_of_loan h true q) ≡ true
made-serial h q k port serial =
    ap (λ b. has_number k (if true && b then h.message.serial ∷ [] else [])) (eq-eqb h.port q port)
    ∙ ap (λ b. b || false) (eq-eqb h.message.serial k serial)

pub same-holds : (u v : View) (q k : ℕ) → u.handles ≡ v.handles → HoldsOwn u q k → HoldsOwn v q k
same-holds u v q k e p = record { handle = p.handle; among = subst (IsAmong p.handle) e p.among; port = p.port; own = p.own; serial = p.serial }

less-holds : (v : View) (h : Handle) (q k : ℕ) → HoldsOwn (less v h) q k → HoldsOwn v q k
less-holds v h q k p = record { handle = p.handle; among = (without-number h p.handle v.handles p.among).0; port = p.port; own = p.own; serial = p.serial }

plus-holds : (v : View) (h : Handle) (q k : ℕ) → HoldsOwn (plus v h) q k → HoldsOwn v q k ⊎ ((h.port ≡ q) × (is_own h.kind ≡ true) × (h.message.serial ≡ k))
plus-holds v h q k p =
    elim (among-last p.handle h v.handles p.among) as (λ u. HoldsOwn v q k ⊎ ((h.port ≡ q) × (is_own h.kind ≡ true) × (h.message.serial ≡ k))) [
      | inl a ↦ inl (record { handle = p.handle; among = a; port = p.port; own = p.own; serial = p.serial })
      | inr e ↦ inr (
        sym (ap (λ (g : Handle). g.port) e) ∙ p.port,
        subst (λ (g : Handle). is_own g.kind ≡ true) e p.own,
        sym (ap (λ (g : Handle). g.message.serial) e) ∙ p.serial,
      )
    ]

-- what is put in another's place was held by that
swapped-holds : (v : View) (n : ℕ) (h old : Handle) (q k : ℕ) → NoRepeats (map (λ k. k.number) v.handles) → IsAmong old v.handles → h.port ≡ old.port
    → is_own old.kind ≡ true
    → h.message.serial ≡ old.message.serial → HoldsOwn (swapped v h) q k → HoldsOwn v q k
swapped-holds v n h old q k fits among port own serial p = elim (with-among h p.handle v.handles fits p.among) as (λ u. HoldsOwn v q k) [
  | inl e ↦ record {
    handle = old;
    among = among;
    port = sym port ∙ sym (ap (λ (g : Handle). g.port) e) ∙ p.port;
    own = own;
    serial = sym serial ∙ sym (ap (λ (g : Handle). g.message.serial) e) ∙ p.serial;
  }
  | inr a ↦ record { handle = p.handle; among = a.0; port = p.port; own = p.own; serial = p.serial }
]

taken-not-own : (b : Bool) → is_own (if b then Response else ActiveRequest) ≡ false
taken-not-own true = refl
taken-not-own false = refl

-- ---- the end of a call

-- what a port holds then it held before, or the call held it
pub own-before : (v : View) (n : ℕ) (payload : List ℕ) (o : Outcome) (q k : ℕ) → NoRepeats (map (λ k. k.number) v.handles) → FitsEnd v n o
    → HoldsOwn (after_call v n payload o) q k
    → HoldsOwn v q k ⊎ (has_number k (serials_of_outcome q o) ≡ true)
own-before v n payload (Tells reply) q k hs fits p = inl p
own-before v n payload (Loans h) q k hs fits p = elim (plus-holds v (holding h payload) q k (same-holds _ (plus v (holding h payload)) q k refl p))
    as (λ u. HoldsOwn v q k ⊎ (has_number k (serials_of_loan h true q) ≡ true)) [
      | inl r ↦ inl r
      | inr r ↦ inr (made-serial h q k r.0 r.2)
    ]
own-before v n payload (Fills h) q k hs fits p =
    inl (swapped-holds v n h fits.old q k hs fits.among fits.port (own-loan fits.old.kind fits.was_loan) fits.serial p)
own-before v n payload (Sends h true count') q k hs fits p =
    either (λ (u : View). HoldsOwn (lends_one u h.port) q k → HoldsOwn v q k ⊎ (has_number k (serials_of_loan h true q) ≡ true)) (is_request_loan h.kind)
    (plus (counted v) (sent_handle h count')) v
    (λ e r. elim (plus-holds v (sent_handle h count') q k (same-holds _ (plus v (sent_handle h count')) q k refl r))
    as (λ u. HoldsOwn v q k ⊎ (has_number k (serials_of_loan h true q) ≡ true)) [
      | inl t ↦ inl t
      | inr t ↦ inr (made-serial h q k t.0 t.2)
    ])
    (λ e r. inl (same-holds _ v q k refl r)) p
own-before v n payload (Sends h false count') q k hs fits p =
    inl (either (λ (u : View). HoldsOwn u q k → HoldsOwn v q k) (is_request_loan h.kind) (swapped v (sent_handle h count')) (less v h)
    (λ e r. swapped-holds v n (sent_handle h count') h q k hs fits.stands refl (own-loan h.kind fits.loan) refl r) (λ e r. less-holds v h q k r) p)
own-before v n payload (FailsToSend h true refusal) q k hs fits p = inl (same-holds _ v q k refl p)
own-before v n payload (FailsToSend h false refusal) q k hs fits p = inl (less-holds v h q k p)
own-before v n payload (Receives x w m) q k hs fits p = elim (plus-holds v (taken_handle v n x m) q k (same-holds _ (plus v (taken_handle v n x m)) q k refl p))
    as (λ u. HoldsOwn v q k ⊎ (false ≡ true)) [
      | inl r ↦ inl r
      | inr r ↦ absurd (true≢false (sym r.1 ∙ taken-not-own (is_client x.role)))
    ]
own-before v n payload (Drops h) q k hs fits p =
    inl (either (λ (u : View). HoldsOwn u q k → HoldsOwn v q k) (is_received h.kind) _ (less v h)
    (λ e r. less-holds v h q k (same-holds _ (less v h) q k refl r)) (λ e r. less-holds v h q k r) p)
own-before v n payload (DropsPort port) q k hs fits p = inl p
own-before v n payload (Forgets dead) q k hs fits p =
    inl (either (λ (u : View). HoldsOwn u q k → HoldsOwn v q k) (has_number dead v.forgot) v (record v { forgot = v.forgot ++ dead ∷ [] })
    (λ e r. r) (λ e r. same-holds _ v q k refl r) p)

-- loans only grow
pub after-loans : (v : View) (n : ℕ) (payload : List ℕ) (o : Outcome) (q : ℕ) → FitsEnd v n o → v.loans q ≤ (after_call v n payload o).loans q
after-loans v n payload (Tells reply) q fits = omega arith
after-loans v n payload (Loans h) q fits = more-loans v.loans h.port q
after-loans v n payload (Fills h) q fits = omega arith
after-loans v n payload (Sends h true count') q fits =
    either (λ (u : View). v.loans q ≤ (lends_one u h.port).loans q) (is_request_loan h.kind) (plus (counted v) (sent_handle h count')) v
    (λ e. more-loans v.loans h.port q) (λ e. more-loans v.loans h.port q)
after-loans v n payload (Sends h false count') q fits =
    either (λ (u : View). v.loans q ≤ u.loans q) (is_request_loan h.kind) (swapped v (sent_handle h count')) (less v h) (λ e. same (v.loans q))
    (λ e. same (v.loans q))
  where
    same : (a : ℕ) → a ≤ a
    same a = omega arith
after-loans v n payload (FailsToSend h true refusal) q fits = more-loans v.loans h.port q
after-loans v n payload (FailsToSend h false refusal) q fits = omega arith
after-loans v n payload (Receives x w m) q fits = omega arith
after-loans v n payload (Drops h) q fits =
    either (λ (u : View). v.loans q ≤ u.loans q) (is_received h.kind) _ (less v h) (λ e. same (v.loans q)) (λ e. same (v.loans q))
  where
    same : (a : ℕ) → a ≤ a
    same a = omega arith
after-loans v n payload (DropsPort port) q fits = omega arith
after-loans v n payload (Forgets dead) q fits =
    either (λ (u : View). v.loans q ≤ u.loans q) (has_number dead v.forgot) v (record v { forgot = v.forgot ++ dead ∷ [] }) (λ e. same (v.loans q))
    (λ e. same (v.loans q))
  where
    same : (a : ℕ) → a ≤ a
    same a = omega arith

-- and the one that the call held counts among them
pub after-lent : (loans : ℕ → ℕ) (h : Handle) (q k : ℕ) → has_number k (serials_of_loan h true q) ≡ true → loans q < put_at loans h.port (loans h.port + 1) q
after-lent loans h q k e =
    subst (λ i. loans i < put_at loans h.port (loans h.port + 1) i) (loan-serial h q k e).0
    (subst (λ a. loans h.port < a) (sym (put_at-here loans h.port (loans h.port + 1))) (next (loans h.port)))
  where
    next : (a : ℕ) → a < a + 1
    next a = omega arith

pub after-more : (v : View) (n : ℕ) (payload : List ℕ) (o : Outcome) (q k : ℕ) → has_number k (serials_of_outcome q o) ≡ true
    → v.loans q < (after_call v n payload o).loans q
after-more v n payload (Loans h) q k e = after-lent v.loans h q k e
after-more v n payload (Sends h true count') q k e =
    either (λ (u : View). v.loans q < (lends_one u h.port).loans q) (is_request_loan h.kind) (plus (counted v) (sent_handle h count')) v
    (λ u. after-lent v.loans h q k e) (λ u. after-lent v.loans h q k e)
after-more v n payload (FailsToSend h true refusal) q k e = after-lent v.loans h q k e
after-more v n payload (Sends h false count') q k e = absurd (true≢false (sym e))
after-more v n payload (FailsToSend h false refusal) q k e = absurd (true≢false (sym e))
after-more v n payload o q k e = absurd (true≢false (sym e))
