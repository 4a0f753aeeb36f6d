-- How many handles of each kind a port has, and that a call under way finds its counts as it did at
-- its tests.
use Rattle.std.specs.Prelude.{◌≡◌, ℕ, ◌+◌, ◌*◌, ◌-◌, ◌<◌, ◌≤◌, Bool, true, false, ◌&&◌, ◌||◌, if◌then◌else◌, ◌==◌, List, [], ◌∷◌, ◌++◌, length, map, filter, Some, find, ⊤, refl}
use Rattle.std.proofs.Common.{sym, subst, ap, ◌∙◌, arith, true≢false, eqb-true, inl, inr}
use Rattle.iox_model.specs.declared.kind.Kind.{Kind}
use Rattle.iox_model.specs.declared.kind.Kind.TheVariants.{RequestMutUninit, RequestMut, ResponseMutUninit, ResponseMut, PendingResponse, ActiveRequest, Response}
use Rattle.iox_model.specs.declared.kind.Kind.TheVariants as kinds
use Rattle.iox_model.specs.declared.way.Way.{Way}
use Rattle.iox_model.specs.declared.reply.Refusal.TheVariants.{OutOfMemory}
use Rattle.iox_model.specs.declared.reply.Reply.TheVariants.{Refused}
use Rattle.iox_model.specs.Commands.{Refusal, Reply}
use Rattle.iox_model.specs.Doings.{Receiver, Outcome, Tells, Loans, Fills, Sends, FailsToSend, Receives, Drops, DropsPort, Forgets, Doing, Ended, Loaning, Asking, Emptying, Looking, Opening, Delivering, Evicted, Visiting, Again, Judging, Stale}
use Rattle.iox_model.specs.Settings.{is_client}
use Rattle.iox_model.specs.States.{Port, Handle, Fixed}
use Rattle.iox_model.specs.Handles.{is_request_loan, is_response_loan, is_received, same_kind, count_of, way_of}
use Rattle.iox_model.specs.Maps.{has_number, put}
use Rattle.iox_model.specs.Messages.{Message}
use Rattle.iox_model.specs.Names.{is_port}
use Rattle.iox_model.specs.Counts.{sent_handle, holding}
use Rattle.iox_laws.proofs.WeaveLaws.MapLemmas.{either}
use Rattle.iox_laws.proofs.WeaveLedger.Truths.{and-flip}
use Rattle.iox_laws.proofs.WeaveLedger.Tallies.{filter-twice, filter-same}
use Rattle.iox_laws.proofs.WeaveLedger.Counts.{count-with, count, one_if, count-last, count-less}
use Rattle.iox_laws.proofs.WeaveLedger.Orders.{at-most}
use Rattle.iox_laws.proofs.WeaveLedger.Lists.{IsAmong, NoRepeats, among-last}
use Rattle.iox_laws.proofs.WeaveLedger.Views.{View, view, IsAt, role_in, plus, counted, lends_one, swapped, less, taken_handle, after_call}
use Rattle.iox_laws.proofs.WeaveLedger.Senders.{is_loan, FitsLoan, IsFilled, FitsOutcome}
use Rattle.iox_laws.proofs.WeaveLedger.HandlesKept.{with-among, without-number}

-- ---- kinds

-- a handle of a client, and no port
abbrev pub is_of_client : Kind → Bool
is_of_client k = is_request_loan k || (same_kind k PendingResponse || same_kind k Response)

abbrev pub is_pending : Kind → Bool
is_pending k = same_kind k PendingResponse

-- a handle suits its port
abbrev pub Suits : List Port → Kind → ℕ → Type 0
Suits ports k port = (is_port k ≡ false) × (is_of_client k ≡ is_client (role_in ports port))

-- what is loaned is no port, and not pending, and a request's is a client's
pub record IsLoanKind (k : Kind) : Type 0 where
  pub no_port : is_port k ≡ false
  pub no_pending : is_pending k ≡ false
  pub of_client : is_of_client k ≡ is_request_loan k

pub loan-kind : (k : Kind) → is_loan k ≡ true → IsLoanKind k
loan-kind kinds.Client e = absurd (true≢false (sym e))
loan-kind kinds.Server e = absurd (true≢false (sym e))
loan-kind RequestMutUninit e = record { no_port = refl; no_pending = refl; of_client = refl }
loan-kind RequestMut e = record { no_port = refl; no_pending = refl; of_client = refl }
loan-kind ResponseMutUninit e = record { no_port = refl; no_pending = refl; of_client = refl }
loan-kind ResponseMut e = record { no_port = refl; no_pending = refl; of_client = refl }
loan-kind PendingResponse e = absurd (true≢false (sym e))
loan-kind ActiveRequest e = absurd (true≢false (sym e))
loan-kind Response e = absurd (true≢false (sym e))

-- ---- counts

-- how many handles of the port are of such a kind
abbrev pub counts : View → ℕ → (Kind → Bool) → ℕ
counts v port test = count (λ h. (h.port == port) && test h.kind) v.handles

pub count-both : {A : Type 0} (a b : A → Bool) (xs : List A) → count b (filter a xs) ≡ count (λ x. a x && b x) xs
count-both a b xs =
    ap length (filter-twice b a xs ∙ filter-same (λ x. b x && a x) (λ x. a x && b x) xs (λ x p. and-flip (b x) (a x)))

-- what the model counts is what the view counts
pub count-is : (f : Fixed) (n port : ℕ) (test : Kind → Bool) → IsAt f.ports port n → count_of f port test ≡ counts (view f n) port test
count-is f n port test at =
    ap (λ node. count (λ (h : Handle). test h.kind) (filter (λ (h : Handle). h.port == port) (f.handles node))) at
    ∙ count-both (λ (h : Handle). h.port == port) (λ h. test h.kind) (f.handles n)

-- ---- what holds of handles

pub record FitsKinds (v : View) : Type 0 where
  pub suits : (h : Handle) → IsAmong h v.handles → Suits v.ports h.kind h.port
  pub pending : (port : ℕ) → counts v port is_pending ≤ v.limits.active_requests

-- the port is there, and may have one more loan
pub record SpareLoan (v : View) (port : ℕ) : Type 0 where
  pub there : Port
  pub is : find (λ q. q.number == port) v.ports ≡ Some there
  pub client : is_client there.role ≡ true → counts v port is_request_loan < v.limits.loaned_requests
  pub server : is_client there.role ≡ false → counts v port is_response_loan < there.loaned_responses * v.limits.active_requests * v.limits.clients

-- a request that is sent may be one more that is pending
abbrev pub SparePending : View → Handle → Type 0
SparePending v h = is_request_loan h.kind ≡ true → counts v h.port is_pending < v.limits.active_requests

-- who receives is of its port's role
abbrev pub IsOfRole : View → Receiver → Type 0
IsOfRole v x = is_client (role_in v.ports x.port) ≡ is_client x.role

-- a call is refused for its pool only where that may be
abbrev pub RefusedIf : Type 0 → Refusal → Type 0
RefusedIf out OutOfMemory = out
RefusedIf out r = ⊤

abbrev pub TellsIf : Type 0 → Reply → Type 0
TellsIf out (Refused r) = RefusedIf out r
TellsIf out reply = ⊤

-- `gone` says who may be forgotten, and `out` whether the pool may refuse
abbrev pub SpareOutcome : View → (ℕ → Type 0) → Type 0 → Outcome → Type 0
SpareOutcome v gone out (Tells reply) = TellsIf out reply
SpareOutcome v gone out (Sends h copied count) = SparePending v h
SpareOutcome v gone out (FailsToSend h copied refusal) = RefusedIf out refusal
SpareOutcome v gone out (Receives x w m) = IsOfRole v x
SpareOutcome v gone out (Forgets dead) = gone dead
SpareOutcome v gone out o = ⊤

abbrev pub SpareDoing : View → (ℕ → Type 0) → Type 0 → Doing → Type 0
SpareDoing v gone out (Ended o) = SpareOutcome v gone out o
SpareDoing v gone out (Loaning copies h left) = SpareLoan v h.port
SpareDoing v gone out (Asking x) = SparePending v x.loan
SpareDoing v gone out (Emptying x left) = SparePending v x.loan
SpareDoing v gone out (Looking x left full) = SparePending v x.loan
SpareDoing v gone out (Opening x left full) = SparePending v x.loan
SpareDoing v gone out (Delivering x last left count) = SparePending v x.loan
SpareDoing v gone out (Evicted x w left count) = SparePending v x.loan
SpareDoing v gone out (Visiting x left seen) = IsOfRole v x
SpareDoing v gone out (Again x w left seen) = IsOfRole v x
SpareDoing v gone out (Judging x w m left seen) = IsOfRole v x
SpareDoing v gone out (Stale x w m left seen) = IsOfRole v x
SpareDoing v gone out d = ⊤

-- ---- an end of a call keeps it

-- what the end of a call asks of its loan, on a wire and on a hub
abbrev pub FitsEnd : View → ℕ → Outcome → Type 0
FitsEnd v n (Loans h) = FitsLoan v n h true
FitsEnd v n (Fills h) = IsFilled v n h
FitsEnd v n (Sends h copied count) = FitsLoan v n h copied
FitsEnd v n o = ⊤

pub fits-end : (v : View) (n : ℕ) (o : Outcome) → FitsOutcome v n o → FitsEnd v n o
fits-end v n (Loans h) p = p
fits-end v n (Fills h) p = p
fits-end v n (Sends h copied count) p = p
fits-end v n o p = tt

no_more : (a b : ℕ) → a ≤ b + 0 → a ≤ b
no_more a b p = omega arith

off : (b : Bool) → (b && false) ≡ false
off true = refl
off false = refl

-- what is not pending adds nothing
not-counted : (h : Handle) (port : ℕ) → is_pending h.kind ≡ false → ((h.port == port) && is_pending h.kind) ≡ false
not-counted h port e = ap (λ b. (h.port == port) && b) e ∙ off (h.port == port)

pub plus-kinds : (v : View) (h : Handle) → FitsKinds v → Suits v.ports h.kind h.port → is_pending h.kind ≡ false → FitsKinds (plus v h)
plus-kinds v h fits suits free = record {
  suits = λ g a. elim (among-last g h v.handles a) as (λ u. Suits v.ports g.kind g.port) [
    | inl b ↦ fits.suits g b
    | inr e ↦ subst (λ (k : Handle). Suits v.ports k.kind k.port) (sym e) suits
  ];
  pending = λ port. no_more (counts (plus v h) port is_pending) v.limits.active_requests
      (same (counts (plus v h) port is_pending) (counts v port is_pending) _ v.limits.active_requests
      (count-last (λ g. (g.port == port) && is_pending g.kind) v.handles h) (ap one_if (not-counted h port free)) (fits.pending port));
}
  where
    same : (a b c d : ℕ) → a ≡ b + c → c ≡ 0 → b ≤ d → a ≤ d + 0
    same a b c d p q r = omega arith

less-kinds : (v : View) (h : Handle) → FitsKinds v → FitsKinds (less v h)
less-kinds v h fits = record {
  suits = λ g a. fits.suits g (without-number h g v.handles a).0;
  pending = λ port. at-most _ _ _ (count-less (λ g. (g.port == port) && is_pending g.kind) h v.handles) (fits.pending port);
}

-- one more is pending, where one more may be
one-pending : (v : View) (h : Handle) (count' : ℕ) (port : ℕ) → SparePending v h → is_request_loan h.kind ≡ true → FitsKinds v
    → counts v port is_pending + one_if ((h.port == port) && true) ≤ v.limits.active_requests
one-pending v h count' port spare e fits = by_case (h.port == port) refl
  where
    more : (a b : ℕ) → a < b → a + 1 ≤ b
    more a b p = omega arith

    same : (a b : ℕ) → a ≤ b → a + 0 ≤ b
    same a b p = omega arith

    by_case : (b : Bool) → (h.port == port) ≡ b → counts v port is_pending + one_if (b && true) ≤ v.limits.active_requests
    by_case true is = more _ _ (subst (λ k. counts v k is_pending < v.limits.active_requests) (eqb-true h.port port is) (spare e))
    by_case false is = same _ _ (fits.pending port)

sent-suits : (v : View) (n : ℕ) (h : Handle) (copied : Bool) (count' : ℕ) → FitsLoan v n h copied → is_request_loan h.kind ≡ true
    → Suits v.ports (sent_handle h count').kind h.port
sent-suits v n h copied count' p e = (refl, sym e ∙ p.made.role)

sent-plus : (v : View) (n : ℕ) (h : Handle) (copied : Bool) (count' : ℕ) → FitsLoan v n h copied → SparePending v h → is_request_loan h.kind ≡ true
    → FitsKinds v
    → FitsKinds (plus v (sent_handle h count'))
sent-plus v n h copied count' p spare e fits = record {
  suits = λ g a. elim (among-last g (sent_handle h count') v.handles a) as (λ u. Suits v.ports g.kind g.port) [
    | inl b ↦ fits.suits g b
    | inr is ↦ subst (λ (k : Handle). Suits v.ports k.kind k.port) (sym is) (sent-suits v n h copied count' p e)
  ];
  pending = λ port. subst (λ n. n ≤ v.limits.active_requests) (sym (count-last (λ g. (g.port == port) && is_pending g.kind) v.handles (sent_handle h count')))
      (one-pending v h count' port spare e fits);
}

sent-swapped : (v : View) (n : ℕ) (h : Handle) (count' : ℕ) → NoRepeats (map (λ k. k.number) v.handles) → FitsLoan v n h false → SparePending v h
    → is_request_loan h.kind ≡ true → FitsKinds v
    → FitsKinds (swapped v (sent_handle h count'))
sent-swapped v n h count' hs p spare e fits = record {
  suits = λ g a. elim (with-among (sent_handle h count') g v.handles hs a) as (λ u. Suits v.ports g.kind g.port) [
    | inl is ↦ subst (λ (k : Handle). Suits v.ports k.kind k.port) (sym is) (sent-suits v n h false count' p e)
    | inr b ↦ fits.suits g b.0
  ];
  pending = λ port. at-most _ _ _ (count-with (λ g. (g.port == port) && is_pending g.kind) (sent_handle h count') v.handles)
      (one-pending v h count' port spare e fits);
}

filled-kinds : (v : View) (n : ℕ) (h : Handle) → NoRepeats (map (λ k. k.number) v.handles) → is_loan h.kind ≡ true
    → is_request_loan h.kind ≡ is_client (role_in v.ports h.port) → FitsKinds v
    → FitsKinds (swapped v h)
filled-kinds v n h hs loan role fits = record {
  suits = λ g a. elim (with-among h g v.handles hs a) as (λ u. Suits v.ports g.kind g.port) [
    | inl is ↦ subst (λ (k : Handle). Suits v.ports k.kind k.port) (sym is) ((loan-kind h.kind loan).no_port, (loan-kind h.kind loan).of_client ∙ role)
    | inr b ↦ fits.suits g b.0
  ];
  pending = λ port. same (counts (swapped v h) port is_pending) (counts v port is_pending) _ v.limits.active_requests
      (count-with (λ g. (g.port == port) && is_pending g.kind) h v.handles) (ap one_if (not-counted h port (loan-kind h.kind loan).no_pending))
      (fits.pending port);
}
  where
    same : (a b c d : ℕ) → a ≤ b + c → c ≡ 0 → b ≤ d → a ≤ d
    same a b c d p q r = omega arith

-- what nothing of kinds rests on may change
others-kinds : (v : View) (next : ℕ) (loans : ℕ → ℕ) (borrowed : Way → ℕ) (forgot : List ℕ) → FitsKinds v
    → FitsKinds (record v { next = next; loans = loans; borrowed = borrowed; forgot = forgot })
others-kinds v next loans borrowed forgot fits = record { suits = fits.suits; pending = fits.pending }

pub taken-suits : (v : View) (n : ℕ) (x : Receiver) (m : Message) → IsOfRole v x → Suits v.ports (taken_handle v n x m).kind x.port
taken-suits v n x m e = (no-port (is_client x.role), of-client (is_client x.role) ∙ sym e)
  where
    no-port : (b : Bool) → is_port (if b then Response else ActiveRequest) ≡ false
    no-port true = refl
    no-port false = refl

    of-client : (b : Bool) → is_of_client (if b then Response else ActiveRequest) ≡ b
    of-client true = refl
    of-client false = refl

pub taken-free : (b : Bool) → is_pending (if b then Response else ActiveRequest) ≡ false
taken-free true = refl
taken-free false = refl

pub after-kinds : (v : View) (gone : ℕ → Type 0) (out : Type 0) (n : ℕ) (payload : List ℕ) (o : Outcome) → NoRepeats (map (λ k. k.number) v.handles)
    → FitsEnd v n o
    → SpareOutcome v gone out o → FitsKinds v
    → FitsKinds (after_call v n payload o)
after-kinds v gone out n payload (Tells reply) hs p spare fits = fits
after-kinds v gone out n payload (Loans h) hs p spare fits =
    others-kinds (plus v (holding h payload)) (v.next + 1) (lends_one (plus (counted v) (holding h payload)) h.port).loans v.borrowed v.forgot
    (plus-kinds v (holding h payload) fits ((loan-kind h.kind p.loan).no_port, (loan-kind h.kind p.loan).of_client ∙ p.made.role)
    (loan-kind h.kind p.loan).no_pending)
after-kinds v gone out n payload (Fills h) hs p spare fits = filled-kinds v n h hs p.is_loan_still p.made.role fits
after-kinds v gone out n payload (Sends h true count') hs p spare fits =
    either (λ (u : View). FitsKinds (lends_one u h.port)) (is_request_loan h.kind) (plus (counted v) (sent_handle h count')) v
    (λ e. others-kinds (plus v (sent_handle h count')) (v.next + 1) (lends_one v h.port).loans v.borrowed v.forgot (sent-plus v n h true count' p spare e fits))
    (λ e. others-kinds v v.next (lends_one v h.port).loans v.borrowed v.forgot fits)
after-kinds v gone out n payload (Sends h false count') hs p spare fits =
    either FitsKinds (is_request_loan h.kind) (swapped v (sent_handle h count')) (less v h)
    (λ e. sent-swapped v n h count' hs p spare e fits) (λ e. less-kinds v h fits)
after-kinds v gone out n payload (FailsToSend h true refusal) hs p spare fits = others-kinds v v.next (lends_one v h.port).loans v.borrowed v.forgot fits
after-kinds v gone out n payload (FailsToSend h false refusal) hs p spare fits = less-kinds v h fits
after-kinds v gone out n payload (Receives x w m) hs p spare fits =
    others-kinds (plus v (taken_handle v n x m)) (v.next + 1) v.loans (put v.borrowed w (v.borrowed w + 1)) v.forgot
    (plus-kinds v (taken_handle v n x m) fits (taken-suits v n x m spare) (taken-free (is_client x.role)))
after-kinds v gone out n payload (Drops h) hs p spare fits =
    either FitsKinds (is_received h.kind) (record (less v h) { borrowed = put v.borrowed (way_of h) (v.borrowed (way_of h) - 1) }) (less v h)
    (λ u. others-kinds (less v h) v.next v.loans (put v.borrowed (way_of h) (v.borrowed (way_of h) - 1)) v.forgot (less-kinds v h fits))
    (λ u. less-kinds v h fits)
after-kinds v gone out n payload (DropsPort port) hs p spare fits = fits
after-kinds v gone out n payload (Forgets dead) hs p spare fits =
    either FitsKinds (has_number dead v.forgot) v (record v { forgot = v.forgot ++ dead ∷ [] }) (λ u. fits)
    (λ u. others-kinds v v.next v.loans v.borrowed (v.forgot ++ dead ∷ []) fits)
