-- The end of a call keeps what holds of handles, and gives no right to deliver a message again.
use Rattle.std.specs.Prelude.{◌≡◌, ℕ, ◌+◌, ◌-◌, ◌<◌, ◌≤◌, Bool, true, false, if◌then◌else◌, List, [], ◌∷◌, ◌++◌, ◌⊎◌, refl}
use Rattle.std.proofs.Common.{sym, subst, ap, ◌∙◌, arith, true≢false, inl, inr}
use Rattle.iox_model.specs.declared.kind.Kind.{Kind}
use Rattle.iox_model.specs.declared.kind.Kind.TheVariants.{ActiveRequest, Response}
use Rattle.iox_model.specs.declared.way.Way.{Way}
use Rattle.iox_model.specs.Doings.{Receiver, Outcome, Tells, Loans, Fills, Sends, FailsToSend, Receives, Drops, DropsPort, Forgets}
use Rattle.iox_model.specs.Settings.{is_client}
use Rattle.iox_model.specs.States.{Handle}
use Rattle.iox_model.specs.Handles.{is_request_loan, is_received, way_of}
use Rattle.iox_model.specs.Maps.{has_number, put_at, put}
use Rattle.iox_model.specs.Messages.{Message}
use Rattle.iox_model.specs.Counts.{sent_handle, holding}
use Rattle.iox_laws.proofs.WeaveLaws.MapLemmas.{either}
use Rattle.iox_laws.proofs.WeaveLaws.WholeLemmas.{put_at-here}
use Rattle.iox_laws.proofs.WeaveLedger.Orders.{at-most}
use Rattle.iox_laws.proofs.WeaveLedger.Lists.{IsAmong, among-last}
use Rattle.iox_laws.proofs.WeaveLedger.Views.{View, plus, counted, lends_one, swapped, less, taken_handle, after_call}
use Rattle.iox_laws.proofs.WeaveLedger.Senders.{is_loan, IsMade, FitsHandles, FitsLoan, IsFilled, FitsOutcome}
use Rattle.iox_laws.proofs.WeaveLedger.HandlesKept.{with-among, without-number, rests, more-loans, lends-fits, less-fits, IsNew, plus-fits, Replaces, swapped-fits}

not_less : (k : ℕ) → k < k → ⊥
not_less k p = omega arith

taken-no_loan : (v : View) (n : ℕ) (x : Receiver) (m : Message) → is_loan (taken_handle v n x m).kind ≡ true → ⊥
taken-no_loan v n x m e =
    true≢false (sym e ∙ either (λ (k : Kind). is_loan k ≡ false) (is_client x.role) Response ActiveRequest (λ u. refl) (λ u. refl))

-- ---- handles stay as they have to be

new-loan : (v : View) (n : ℕ) (h : Handle) (payload : List ℕ) → FitsHandles v n → FitsLoan v n h true → IsNew (lends_one v h.port) (holding h payload)
new-loan v n h payload fits p = (
  record { sender = p.made.sender; lane = p.made.lane; role = p.made.role },
  subst (λ k. h.message.serial < k) (sym (put_at-here v.loans h.port (v.loans h.port + 1)))
      (subst (λ k. k < v.loans h.port + 1) (sym p.stands.0) (omega arith)),
  λ g a l port serial. not_less (v.loans h.port)
      (subst (λ k. k < v.loans h.port) (serial ∙ p.stands.0) (subst (λ q. g.message.serial < v.loans q) port (fits.lent g a l))),
)

filled-replaces : (v : View) (n : ℕ) (h : Handle) → IsFilled v n h → Replaces v n h
filled-replaces v n h p = record {
  old = p.old;
  among = p.among;
  number = p.number;
  port = p.port;
  of_node = p.of_node;
  loan = λ l. (p.was_loan, p.serial, p.made);
}

sent-replaces : (v : View) (n count : ℕ) (h : Handle) → FitsLoan v n h false → Replaces v n (sent_handle h count)
sent-replaces v n count h p = record {
  old = h;
  among = p.stands;
  number = refl;
  port = refl;
  of_node = p.of_node;
  loan = λ l. absurd (true≢false (sym l));
}

pub after-fits : (v : View) (n : ℕ) (payload : List ℕ) (o : Outcome) → FitsHandles v n → FitsOutcome v n o → FitsHandles (after_call v n payload o) n
after-fits v n payload (Tells reply) fits p = fits
after-fits v n payload (Loans h) fits p =
    plus-fits (lends_one v h.port) n (holding h payload) (lends-fits v n h.port fits) p.stands.1 p.of_node p.of_port (λ l. new-loan v n h payload fits p)
after-fits v n payload (Fills h) fits p = swapped-fits v n h fits (filled-replaces v n h p)
after-fits v n payload (Sends h true count) fits p = by_case (is_request_loan h.kind)
  where
    by_case : (b : Bool) → FitsHandles (lends_one (if b then plus (counted v) (sent_handle h count) else v) h.port) n
    by_case true =
        plus-fits (lends_one v h.port) n (sent_handle h count) (lends-fits v n h.port fits) p.stands.1 p.of_node p.of_port (λ l. absurd (true≢false (sym l)))
    by_case false = lends-fits v n h.port fits
after-fits v n payload (Sends h false count) fits p =
    either (λ (u : View). FitsHandles u n) (is_request_loan h.kind) (swapped v (sent_handle h count)) (less v h)
    (λ u. swapped-fits v n (sent_handle h count) fits (sent-replaces v n count h p)) (λ u. less-fits v n h fits)
after-fits v n payload (FailsToSend h true refusal) fits p = lends-fits v n h.port fits
after-fits v n payload (FailsToSend h false refusal) fits p = less-fits v n h fits
after-fits v n payload (Receives x w m) fits p =
    rests (plus (counted v) (taken_handle v n x m)) n (put v.borrowed w (v.borrowed w + 1)) v.forgot
    (plus-fits v n (taken_handle v n x m) fits refl refl p.0 (λ l. absurd (taken-no_loan v n x m l)))
after-fits v n payload (Drops h) fits p =
    either (λ (u : View). FitsHandles u n) (is_received h.kind)
    (record (less v h) { borrowed = put v.borrowed (way_of h) (v.borrowed (way_of h) - 1) }) (less v h)
    (λ u. rests (less v h) n (put v.borrowed (way_of h) (v.borrowed (way_of h) - 1)) v.forgot (less-fits v n h fits)) (λ u. less-fits v n h fits)
after-fits v n payload (DropsPort port) fits p = absurd p
after-fits v n payload (Forgets dead) fits p =
    either (λ (u : View). FitsHandles u n) (has_number dead v.forgot) v (record v { forgot = v.forgot ++ dead ∷ [] }) (λ u. fits)
    (λ u. rests v n v.borrowed (v.forgot ++ dead ∷ []) fits)

-- ---- which serials the port may still deliver: those of its loans, and of loans to come

pub record IsLoaned (v : View) (port k : ℕ) : Type 0 where
  pub handle : Handle
  pub among : IsAmong handle v.handles
  pub loan : is_loan handle.kind ≡ true
  pub of_port : handle.port ≡ port
  pub serial : handle.message.serial ≡ k

abbrev pub MaySend : View → ℕ → ℕ → Type 0
MaySend v port k = (v.loans port ≤ k) ⊎ IsLoaned v port k

-- the serial of a message that was sent
abbrev pub IsSent : Outcome → ℕ → ℕ → Type 0
IsSent (Sends h copied count) port k = (h.port ≡ port) × (h.message.serial ≡ k)
IsSent o port k = ⊥

lends-sends : (v : View) (p port k : ℕ) → MaySend (lends_one v p) port k → MaySend v port k
lends-sends v p port k (inl e) = inl (at-most (v.loans port) (put_at v.loans p (v.loans p + 1) port) k (more-loans v.loans p port) e)
lends-sends v p port k (inr l) = inr (record { handle = l.handle; among = l.among; loan = l.loan; of_port = l.of_port; serial = l.serial })

less-sends : (v : View) (h : Handle) (port k : ℕ) → MaySend (less v h) port k → MaySend v port k
less-sends v h port k (inl e) = inl e
less-sends v h port k (inr l) =
    inr (record { handle = l.handle; among = (without-number h l.handle v.handles l.among).0; loan = l.loan; of_port = l.of_port; serial = l.serial })

plus-sends : (v : View) (h : Handle) (port k : ℕ) → MaySend (plus (counted v) h) port k
    → MaySend v port k ⊎ ((is_loan h.kind ≡ true) × (h.port ≡ port) × (h.message.serial ≡ k))
plus-sends v h port k (inl e) = inl (inl e)
plus-sends v h port k (inr l) =
    elim (among-last l.handle h v.handles l.among) as (λ u. MaySend v port k ⊎ ((is_loan h.kind ≡ true) × (h.port ≡ port) × (h.message.serial ≡ k))) [
      | inl q ↦ inl (inr (record { handle = l.handle; among = q; loan = l.loan; of_port = l.of_port; serial = l.serial }))
      | inr e ↦ inr (
        subst (λ (g : Handle). is_loan g.kind ≡ true) e l.loan,
        sym (ap (λ (g : Handle). g.port) e) ∙ l.of_port,
        sym (ap (λ (g : Handle). g.message.serial) e) ∙ l.serial,
      )
    ]

-- what is added is no loan
plus-no_loan : (v : View) (h : Handle) (port k : ℕ) → (is_loan h.kind ≡ true → ⊥) → MaySend (plus (counted v) h) port k → MaySend v port k
plus-no_loan v h port k nay q = elim (plus-sends v h port k q) as (λ u. MaySend v port k) [ inl r ↦ r | inr r ↦ absurd (nay r.0) ]

swapped-sends : (v : View) (n : ℕ) (h : Handle) (port k : ℕ) → FitsHandles v n → Replaces v n h → MaySend (swapped v h) port k → MaySend v port k
swapped-sends v n h port k fits r (inl e) = inl e
swapped-sends v n h port k fits r (inr l) = elim (with-among h l.handle v.handles fits.apart l.among) as (λ u. MaySend v port k) [
  | inl e ↦ inr (of_old (r.loan (subst (λ (g : Handle). is_loan g.kind ≡ true) e l.loan)) e)
  | inr q ↦ inr (record { handle = l.handle; among = q.0; loan = l.loan; of_port = l.of_port; serial = l.serial })
]
  where
    of_old : (is_loan r.old.kind ≡ true) × (h.message.serial ≡ r.old.message.serial) × IsMade v.ports h → l.handle ≡ h → IsLoaned v port k
    of_old q e = record {
      handle = r.old;
      among = r.among;
      loan = q.0;
      of_port = sym r.port ∙ sym (ap (λ (g : Handle). g.port) e) ∙ l.of_port;
      serial = sym q.1 ∙ sym (ap (λ (g : Handle). g.message.serial) e) ∙ l.serial;
    }

-- what rests only on handles and loans
same-sends : (v : View) (borrowed : Way → ℕ) (forgot : List ℕ) (port k : ℕ) → MaySend (record v { borrowed = borrowed; forgot = forgot }) port k
    → MaySend v port k
same-sends v borrowed forgot port k (inl e) = inl e
same-sends v borrowed forgot port k (inr l) = inr (record { handle = l.handle; among = l.among; loan = l.loan; of_port = l.of_port; serial = l.serial })

pub after-sends : (v : View) (n : ℕ) (payload : List ℕ) (o : Outcome) (port k : ℕ) → FitsHandles v n → FitsOutcome v n o
    → MaySend (after_call v n payload o) port k → MaySend v port k
after-sends v n payload (Tells reply) port k fits p q = q
after-sends v n payload (Loans h) port k fits p q =
    elim (plus-sends (lends_one v h.port) (holding h payload) port k q) as (λ u. MaySend v port k) [
      | inl r ↦ lends-sends v h.port port k r
      | inr r ↦ inl (next (v.loans port) (ap v.loans (sym r.1) ∙ sym p.stands.0 ∙ r.2))
    ]
  where
    next : (a : ℕ) → a ≡ k → a ≤ k
    next a e = omega arith
after-sends v n payload (Fills h) port k fits p q = swapped-sends v n h port k fits (filled-replaces v n h p) q
after-sends v n payload (Sends h true count) port k fits p q = by_case (is_request_loan h.kind) q
  where
    by_case : (b : Bool) → MaySend (lends_one (if b then plus (counted v) (sent_handle h count) else v) h.port) port k → MaySend v port k
    by_case true r = lends-sends v h.port port k (plus-no_loan (lends_one v h.port) (sent_handle h count) port k (λ e. true≢false (sym e)) r)
    by_case false r = lends-sends v h.port port k r
after-sends v n payload (Sends h false count) port k fits p q =
    either (λ (u : View). MaySend u port k → MaySend v port k) (is_request_loan h.kind) (swapped v (sent_handle h count)) (less v h)
    (λ u. swapped-sends v n (sent_handle h count) port k fits (sent-replaces v n count h p)) (λ u. less-sends v h port k) q
after-sends v n payload (FailsToSend h true refusal) port k fits p q = lends-sends v h.port port k q
after-sends v n payload (FailsToSend h false refusal) port k fits p q = less-sends v h port k q
after-sends v n payload (Receives x w m) port k fits p q =
    plus-no_loan v (taken_handle v n x m) port k (taken-no_loan v n x m)
    (same-sends (plus (counted v) (taken_handle v n x m)) (put v.borrowed w (v.borrowed w + 1)) v.forgot port k q)
after-sends v n payload (Drops h) port k fits p q =
    either (λ (u : View). MaySend u port k → MaySend v port k) (is_received h.kind)
    (record (less v h) { borrowed = put v.borrowed (way_of h) (v.borrowed (way_of h) - 1) }) (less v h)
    (λ u r. less-sends v h port k (same-sends (less v h) (put v.borrowed (way_of h) (v.borrowed (way_of h) - 1)) v.forgot port k r))
    (λ u. less-sends v h port k) q
after-sends v n payload (DropsPort port') port k fits p q = absurd p
after-sends v n payload (Forgets dead) port k fits p q =
    either (λ (u : View). MaySend u port k → MaySend v port k) (has_number dead v.forgot) v (record v { forgot = v.forgot ++ dead ∷ [] }) (λ u r. r)
    (λ u. same-sends v v.borrowed (v.forgot ++ dead ∷ []) port k) q

-- ---- once it is sent, it is sent no more

not_more : (k : ℕ) → k + 1 ≤ k → ⊥
not_more k p = omega arith

no_more-lent : (v : View) (n : ℕ) (h : Handle) (port k : ℕ) → FitsHandles v n → FitsLoan v n h true → h.port ≡ port → h.message.serial ≡ k
    → MaySend (lends_one v h.port) port k → ⊥
no_more-lent v n h port k fits p e f (inl q) =
    not_more k (subst (λ a. a ≤ k) (ap (put_at v.loans h.port (v.loans h.port + 1)) (sym e) ∙ put_at-here v.loans h.port (v.loans h.port + 1)
    ∙ ap (λ a. a + 1) (sym p.stands.0 ∙ f)) q)
no_more-lent v n h port k fits p e f (inr l) =
    not_less k (subst (λ a. a < k) l.serial
    (subst (λ a. l.handle.message.serial < a) (ap v.loans (l.of_port ∙ sym e) ∙ sym p.stands.0 ∙ f) (fits.lent l.handle l.among l.loan)))

pub after-sent : (v : View) (n : ℕ) (payload : List ℕ) (o : Outcome) (port k : ℕ) → FitsHandles v n → FitsOutcome v n o
    → IsSent o port k → MaySend (after_call v n payload o) port k → ⊥
after-sent v n payload (Sends h true count) port k fits p sent q = by_case (is_request_loan h.kind) q
  where
    by_case : (b : Bool) → MaySend (lends_one (if b then plus (counted v) (sent_handle h count) else v) h.port) port k → ⊥
    by_case true r =
        no_more-lent v n h port k fits p sent.0 sent.1 (plus-no_loan (lends_one v h.port) (sent_handle h count) port k (λ e. true≢false (sym e)) r)
    by_case false r = no_more-lent v n h port k fits p sent.0 sent.1 r
after-sent v n payload (Sends h false count) port k fits p sent q = by_case (is_request_loan h.kind) q
  where
    other : (g : Handle) → IsAmong g v.handles → is_loan g.kind ≡ true → g.port ≡ port → g.message.serial ≡ k → (g.number ≡ h.number → ⊥) → ⊥
    other g a l e f nay = nay (fits.alone g h a p.stands l p.loan (e ∙ sym sent.0) (f ∙ sym sent.1))

    before : v.loans port ≤ k → ⊥
    before e = first (subst (λ a. a < v.loans port) sent.1 (subst (λ a. h.message.serial < v.loans a) sent.0 (fits.lent h p.stands p.loan))) e
      where
        first : k < v.loans port → v.loans port ≤ k → ⊥
        first p q = omega arith

    by_case : (b : Bool) → MaySend (if b then swapped v (sent_handle h count) else less v h) port k → ⊥
    by_case true (inl e) = before e
    by_case true (inr l) = elim (with-among (sent_handle h count) l.handle v.handles fits.apart l.among) as (λ u. ⊥) [
      | inl e ↦ true≢false (sym (subst (λ (g : Handle). is_loan g.kind ≡ true) e l.loan))
      | inr r ↦ other l.handle r.0 l.loan l.of_port l.serial r.1
    ]
    by_case false (inl e) = before e
    by_case false (inr l) =
        let r : IsAmong l.handle v.handles × (l.handle.number ≡ h.number → ⊥) = without-number h l.handle v.handles l.among in
        other l.handle r.0 l.loan l.of_port l.serial r.1
after-sent v n payload o port k fits p sent q = absurd sent
