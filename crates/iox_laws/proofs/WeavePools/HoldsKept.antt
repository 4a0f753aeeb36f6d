-- Each beat keeps a port's messages within its pool.
use Rattle.std.specs.Prelude.{◌≡◌, ℕ, suc, ◌+◌, ◌<◌, ◌≤◌, Bool, true, false, ◌||◌, if◌then◌else◌, List, [], ◌∷◌, length, Option, ◌⊎◌, refl}
use Rattle.std.specs.List.{range_with_len}
use Rattle.std.specs.Option.{option_map_or}
use Rattle.std.proofs.Common.{sym, ap, ◌∙◌, arith, true≢false, inl, inr}
use Rattle.iox_model.specs.declared.way.Way.{Way}
use Rattle.iox_model.specs.Doings.{Sending, Loans, Sends, FailsToSend, Doing, Ended, Asking, Emptying, Looking, Opening, Delivering, Evicted}
use Rattle.iox_model.specs.States.{Port, Handle, Fixed, State}
use Rattle.iox_model.specs.Maps.{has_number, same_way}
use Rattle.iox_model.specs.Moments.{Moment, Deliver}
use Rattle.iox_model.specs.Outstandings.{is_held, is_outstanding, is_kept}
use Rattle.iox_model.specs.Keeping.{serials_of_loan, under_way, kept_in}
use Rattle.iox_model.specs.Transitions.{next}
use Rattle.iox_model.specs.Weaves.{World}
use Rattle.iox_model.specs.Peers.{node_of_port}
use Rattle.iox_laws.proofs.WeaveLaws.MapLemmas.{same_way-true}
use Rattle.iox_laws.proofs.WeaveLedger.Orders.{at-most, same}
use Rattle.iox_laws.proofs.WeaveLedger.Ranges.{no-longer, range-apart, up-to}
use Rattle.iox_laws.proofs.WeaveLedger.Truths.{one_of, or-left, or-right}
use Rattle.iox_laws.proofs.WeaveLedger.Lists.{IsAmong, NoRepeats, filter-among, among-filter, way-among, among-number, no_repeats-filter}
use Rattle.iox_laws.proofs.WeaveLedger.Views.{View, view, IsAt, mine}
use Rattle.iox_laws.proofs.WeaveLedger.Senders.{FitsLoan, FitsDoing}
use Rattle.iox_laws.proofs.WeaveLedger.Phases.{target-of}
use Rattle.iox_laws.proofs.WeaveLedger.Had.{put_on}
use Rattle.iox_laws.proofs.WeaveLedger.Outs.{no-head, head-is}
use Rattle.iox_laws.proofs.WeavePools.Under.{UnderIs, LoanIs, none-so, loan-serial}

-- the port has it in a handle, or it is outstanding
abbrev pub keeps : State → ℕ → ℕ → Bool
keeps s q k = is_held s.fixed q k || is_outstanding s q k

-- what the call of the port's node holds of the port's
abbrev pub under_at : ℕ → Option Doing → List ℕ
under_at q o = option_map_or (under_way q) o []

abbrev pub under : World → ℕ → List ℕ
under v q = under_at q (v.doing (node_of_port v.state.fixed q))

-- a serial that the port loaned, or that its call holds
abbrev pub IsLent : World → ℕ → ℕ → Type 0
IsLent v q k = (k < v.state.fixed.loans q) ⊎ (has_number k (under v q) ≡ true)

pub record Keeping (v : World) (q : ℕ) (p : Port) : Type 0 where
  pub lent : (k : ℕ) → keeps v.state q k ≡ true → IsLent v q k
  pub fits : length (kept_in v q) ≤ p.pool

-- ---- what a beat may add

-- the call holds it already, or it is the next message, and the pool has one more
abbrev pub IsNext : World → ℕ → Port → ℕ → Type 0
IsNext w q p k =
    (has_number k (under w q) ≡ true) ⊎ ((k ≡ w.state.fixed.loans q) × (under w q ≡ []) × (length (kept_in w q) < p.pool))

pub record Follows (w u : World) (q : ℕ) (p : Port) : Type 0 where
  pub loans : w.state.fixed.loans q ≤ u.state.fixed.loans q
  pub kept : (k : ℕ) → keeps u.state q k ≡ true → (keeps w.state q k ≡ true) ⊎ (has_number k (under w q) ≡ true)
  pub call : (k : ℕ) → has_number k (under u q) ≡ true → IsNext w q p k
  pub under_is : (k : ℕ) → has_number k (under w q) ≡ true → k ≡ w.state.fixed.loans q
  pub stays : (k : ℕ) → has_number k (under w q) ≡ true → IsLent u q k

equal : (a b c : ℕ) → a ≡ b → b ≤ c → a ≤ c
equal a b c p q = omega arith

-- what is kept, and was loaned, is among the kept
in-kept : (w : World) (q k : ℕ) → is_kept w.state q (under w q) k ≡ true → k ≤ w.state.fixed.loans q → IsAmong k (kept_in w q)
in-kept w q k e p =
    among-filter (is_kept w.state q (under w q)) k (range_with_len 0 (w.state.fixed.loans q + 1)) (up-to (w.state.fixed.loans q) k p) e

pub kept-apart : (w : World) (q : ℕ) → NoRepeats (kept_in w q)
kept-apart w q =
    no_repeats-filter (is_kept w.state q (under w q)) (range_with_len 0 (w.state.fixed.loans q + 1)) (range-apart 0 (w.state.fixed.loans q + 1))

pub kept-is : (w : World) (q k : ℕ) → IsAmong k (kept_in w q) → is_kept w.state q (under w q) k ≡ true
kept-is w q k a = (filter-among (is_kept w.state q (under w q)) k (range_with_len 0 (w.state.fixed.loans q + 1)) a).1

-- the call's message is among the kept
under-kept : (w u : World) (q : ℕ) (p : Port) (k : ℕ) → Follows w u q p → has_number k (under w q) ≡ true → IsAmong k (kept_in w q)
under-kept w u q p k f e =
    in-kept w q k (or-left (has_number k (under w q)) (keeps w.state q k) e)
    (equal k (w.state.fixed.loans q) (w.state.fixed.loans q) (f.under_is k e) (same (w.state.fixed.loans q)))

keeps-kept : (w u : World) (q : ℕ) (p : Port) (k : ℕ) → Follows w u q p → Keeping w q p → (keeps w.state q k ≡ true)
    ⊎ (has_number k (under w q) ≡ true) → IsAmong k (kept_in w q)
keeps-kept w u q p k f keeping (inl e) = in-kept w q k (or-right (has_number k (under w q)) (keeps w.state q k) e) (lent-below (keeping.lent k e))
  where
    below : (a b : ℕ) → a < b → a ≤ b
    below a b p = omega arith

    lent-below : IsLent w q k → k ≤ w.state.fixed.loans q
    lent-below (inl l) = below k (w.state.fixed.loans q) l
    lent-below (inr h) = equal k (w.state.fixed.loans q) (w.state.fixed.loans q) (f.under_is k h) (same (w.state.fixed.loans q))
keeps-kept w u q p k f keeping (inr e) = under-kept w u q p k f e

-- a call holds nothing that it did not hold, or the pool has one more
all-old : (w u : World) (q : ℕ) (p : Port) → Follows w u q p
    → ((k : ℕ) → has_number k (under u q) ≡ true → has_number k (under w q) ≡ true) ⊎ (length (kept_in w q) < p.pool)
all-old w u q p f = by_list (under u q) f.call
  where
    nothing : (k : ℕ) (ks : List ℕ) → ks ≡ [] → has_number k ks ≡ true → ⊥
    nothing k ks e h = true≢false (sym h ∙ ap (has_number k) e)

    first : (x : ℕ) (xs : List ℕ) → has_number x (x ∷ xs) ≡ true
    first x xs = among-number x (x ∷ xs) (inl refl)

    by_list : (ks : List ℕ) → ((k : ℕ) → has_number k ks ≡ true → IsNext w q p k)
        → ((k : ℕ) → has_number k ks ≡ true → has_number k (under w q) ≡ true) ⊎ (length (kept_in w q) < p.pool)
    by_list [] each = inl (λ k e. absurd (true≢false (sym e)))
    by_list (x ∷ xs) each =
        elim (each x (first x xs)) as (λ z. ((k : ℕ) → has_number k (x ∷ xs) ≡ true → has_number k (under w q) ≡ true) ⊎ (length (kept_in w q) < p.pool)) [
          | inl e ↦ inl (λ k g. elim (each k g) as (λ z. has_number k (under w q) ≡ true) [ inl h ↦ h | inr h ↦ absurd (nothing x (under w q) h.1 e) ])
          | inr e ↦ inr e.2
        ]

-- So the port's messages stay within its pool.
pub follows-keeping : (w u : World) (q : ℕ) (p : Port) → Follows w u q p → Keeping w q p → Keeping u q p
follows-keeping w u q p f keeping = record {
  lent = λ k e. lent k (f.kept k e);
  fits = elim (all-old w u q p f) as (λ z. length (kept_in u q) ≤ p.pool) [
    | inl old ↦ at-most (length (kept_in u q)) (length (kept_in w q)) p.pool
        (no-longer (kept_in u q) (kept_in w q) apart (λ k a. keeps-kept w u q p k f keeping (was old k (split k a)))) keeping.fits
    | inr room ↦ one-more (length (kept_in u q)) (length (kept_in w q)) p.pool
        (no-longer (kept_in u q) (w.state.fixed.loans q ∷ kept_in w q) apart (λ k a. new k (split k a))) room
  ];
}
  where
    less : (a b c : ℕ) → a < b → b ≤ c → a < c
    less a b c p q = omega arith

    still : (k : ℕ) → IsLent w q k → IsLent u q k
    still k (inl l) = inl (less k (w.state.fixed.loans q) (u.state.fixed.loans q) l f.loans)
    still k (inr h) = f.stays k h

    lent : (k : ℕ) → (keeps w.state q k ≡ true) ⊎ (has_number k (under w q) ≡ true) → IsLent u q k
    lent k (inl e) = still k (keeping.lent k e)
    lent k (inr e) = f.stays k e

    apart : NoRepeats (kept_in u q)
    apart = kept-apart u q

    split : (k : ℕ) → IsAmong k (kept_in u q) → (has_number k (under u q) ≡ true) ⊎ (keeps u.state q k ≡ true)
    split k a = one_of (has_number k (under u q)) (keeps u.state q k) (kept-is u q k a)

    was : ((k : ℕ) → has_number k (under u q) ≡ true → has_number k (under w q) ≡ true) → (k : ℕ) → (has_number k (under u q) ≡ true)
        ⊎ (keeps u.state q k ≡ true)
        → (keeps w.state q k ≡ true) ⊎ (has_number k (under w q) ≡ true)
    was old k (inl e) = inr (old k e)
    was old k (inr e) = f.kept k e

    new : (k : ℕ) → (has_number k (under u q) ≡ true) ⊎ (keeps u.state q k ≡ true) → IsAmong k (w.state.fixed.loans q ∷ kept_in w q)
    new k (inr e) = inr (keeps-kept w u q p k f keeping (f.kept k e))
    new k (inl e) = elim (f.call k e) as (λ z. IsAmong k (w.state.fixed.loans q ∷ kept_in w q)) [
      | inl h ↦ inr (under-kept w u q p k f h)
      | inr h ↦ inl h.0
    ]

    one-more : (a b c : ℕ) → a ≤ suc b → b < c → a ≤ c
    one-more a b c p q = omega arith

-- ---- what a call holds

next-loan : (v : View) (n : ℕ) (h : Handle) (copied : Bool) → FitsLoan v n h copied → LoanIs (λ q k. k ≡ v.loans q) h copied
next-loan v n h true p q k e =
    let r : (h.port ≡ q) × (h.message.serial ≡ k) = loan-serial h q k e in
    sym r.1 ∙ p.stands.0 ∙ ap v.loans r.0
next-loan v n h false p q k e = absurd (true≢false (sym e))

-- it is the next of its port
pub under-fits : (v : View) (n : ℕ) (d : Doing) → FitsDoing v n d → UnderIs (λ q k. k ≡ v.loans q) d
under-fits v n (Ended (Loans h)) p = next-loan v n h true p
under-fits v n (Ended (Sends h copied count)) p = next-loan v n h copied p
under-fits v n (Ended (FailsToSend h copied refusal)) p = next-loan v n h copied p
under-fits v n (Asking x) p = next-loan v n x.loan x.copied p.loan
under-fits v n (Emptying x left) p = next-loan v n x.loan x.copied p.loan
under-fits v n (Looking x left full) p = next-loan v n x.loan x.copied p.loan
under-fits v n (Opening x left full) p = next-loan v n x.loan x.copied p.loan
under-fits v n (Delivering x last left count) p = next-loan v n x.loan x.copied (p.0).loan
under-fits v n (Evicted x w left count) p = next-loan v n x.loan x.copied (p.0).loan
under-fits v n d p = none-so (λ q k. k ≡ v.loans q)

pub loans-is : (f : Fixed) (q n : ℕ) → IsAt f.ports q n → (view f n).loans q ≡ f.loans q
loans-is f q n at = ap (λ (b : Bool). if b then f.loans q else 0) (mine f.ports q n at)

-- ---- what a delivery adds to the record

pub record IsPut (v : View) (n : ℕ) (d : Doing) (y : Way) (k : ℕ) : Type 0 where
  pub send : Sending
  pub sender : y.sender ≡ send.loan.port
  pub serial : send.loan.message.serial ≡ k
  pub loan : FitsLoan v n send.loan send.copied
  pub holds : (q : ℕ) → under_way q d ≡ serials_of_loan send.loan send.copied q

pub is-put : (s : State) (n : ℕ) (d : Doing) (m : Moment) (y : Way) (k : ℕ) → FitsDoing (view s.fixed n) n d → (next s n d m).condition → put_on y m ≡ k ∷ []
    → IsPut (view s.fixed n) n d y k
is-put s n (Delivering z last left count) (Deliver x m) y k p c e = by_case (same_way y x) (same_way-true y x) e
  where
    by_case : (b : Bool) → (b ≡ true → y ≡ x) → (if b then m.serial ∷ [] else []) ≡ k ∷ [] → IsPut (view s.fixed n) n (Delivering z last left count) y k
    by_case true is e = record {
      send = z;
      sender = ap (λ (w : Way). w.sender) (is refl) ∙ (target-of z x ((p.1).among x (way-among x left c.0))).0;
      serial = sym (ap (λ i. i.serial) c.1) ∙ head-is m.serial k e;
      loan = (p.0).loan;
      holds = λ q. refl;
    }
    by_case false is e = absurd (no-head k e)
is-put s n d (Deliver x m) y k p c e = absurd c
is-put s n d m y k p c e = absurd (no-head k e)
