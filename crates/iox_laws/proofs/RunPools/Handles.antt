-- The handles that the end of a call of a service leaves.
use Rattle.std.specs.Prelude.{◌≡◌, ℕ, ◌-◌, Bool, true, false, if◌then◌else◌, ◌==◌, List, [], ◌∷◌, ◌++◌, map, refl}
use Rattle.std.proofs.Common.{ap, ◌∙◌, eqb-true}
use Rattle.iox_model.specs.Counts.{with_handle, without_handle, added, changed, dropped, numbered, gives_up, called, with_fixed, sent_handle}
use Rattle.iox_model.specs.Counts.{received_handle, holding}
use Rattle.iox_model.specs.Doings.{Outcome, Tells, Loans, Fills, Sends, FailsToSend, Receives, Drops, DropsPort, Forgets}
use Rattle.iox_model.specs.Ends.{is_nothing, port_dropped, settled}
use Rattle.iox_model.specs.Expiries.{disconnected, is_last_gone, released}
use Rattle.iox_model.specs.Handles.{is_request_loan, is_received, way_of, new_number}
use Rattle.iox_model.specs.Maps.{put_at, put}
use Rattle.iox_model.specs.States.{Handle, Fixed, State}
use Rattle.iox_laws.proofs.WeaveLaws.MapLemmas.{either}
use Rattle.iox_laws.proofs.WeaveWorlds.Sound.{IsOwn, FitsOutcome}
use Rattle.iox_laws.proofs.WeaveLedger.Senders.{FitsLoan}
use Rattle.iox_laws.proofs.WeaveLedger.Views.{View, plus, counted, lends_one, swapped, less, after_call}
use Rattle.iox_laws.proofs.WeavePools.Spare.{FitsEnd}
use Rattle.iox_laws.proofs.RunLaws.Holding.{LoanFits, HoldsEnd}
use Rattle.iox_laws.proofs.RunLaws.Rests.{Rests, numbered-hub}
use Rattle.iox_laws.proofs.RunPools.Stands.{StandsBy, StandsEnd}

-- what a node has of what is fixed on a hub, where numbers and counts are not its own
abbrev pub hub_view : Fixed → ℕ → View
hub_view f n = record {
  ports = f.ports;
  limits = f.limits;
  handles = f.handles n;
  next = new_number f n;
  loans = f.loans;
  borrowed = f.borrowed;
  forgot = f.forgot n;
}

-- ---- the loan of a call that ends

loan_fits : (f : Fixed) (n : ℕ) (h : Handle) (copied : Bool) → IsOwn f n h → LoanFits f h copied → StandsBy f n h copied → FitsLoan (hub_view f n) n h copied
loan_fits f n h true own fits stands = record {
  of_node = own.0;
  of_port = (own.1).1;
  loan = fits.0;
  made = fits.1;
  stands = (stands, fits.2 ∙ ap (new_number f) own.0);
}
loan_fits f n h false own fits stands = record { of_node = own.0; of_port = (own.1).1; loan = fits.0; made = fits.1; stands = stands }

pub end_fits : (f : Fixed) (n : ℕ) (o : Outcome) → FitsOutcome f n o → HoldsEnd f o → StandsEnd f n o → FitsEnd (hub_view f n) n o
end_fits f n (Loans h) fits p q = loan_fits f n h true fits p q
end_fits f n (Fills h) fits p q = record {
  old = q.old;
  among = q.among;
  number = q.number;
  port = q.port;
  serial = q.serial;
  was_loan = q.was_loan;
  of_node = fits.0;
  is_loan_still = p.0;
  made = p.1;
}
end_fits f n (Sends h copied count) fits p q = loan_fits f n h copied fits p q
end_fits f n o fits p q = tt

-- ---- handles

-- a value is put where it stood
put_same : {A : Type 0} (f : ℕ → A) (n k : ℕ) → f k ≡ put_at f n (f n) k
put_same f n k = by_case (k == n) refl
  where
    by_case : (b : Bool) → (k == n) ≡ b → f k ≡ (if b then f n else f k)
    by_case true e = ap f (eqb-true k n e)
    by_case false e = refl

released_handles : (s : State) (port k : ℕ) → (released s port).fixed.handles k ≡ s.fixed.handles k
released_handles s port k =
    either (λ (t : State). t.fixed.handles k ≡ s.fixed.handles k) (is_last_gone s.fixed port) (disconnected s port) s (λ u. refl) (λ u. refl)

-- one handle of a node is gone
without_here : (f : Fixed) (h : Handle) (n k : ℕ) → h.node ≡ n → (dropped f h).handles k ≡ put_at f.handles n (without_handle h (f.handles n)) k
without_here f h n k e = ap (λ m. put_at f.handles m (without_handle h (f.handles m)) k) e

with_here : (f : Fixed) (h : Handle) (n k : ℕ) → h.node ≡ n → (changed f h).handles k ≡ put_at f.handles n (with_handle h (f.handles n)) k
with_here f h n k e = ap (λ m. put_at f.handles m (with_handle h (f.handles m)) k) e

plus_here : (f : Fixed) (h : Handle) (m n k : ℕ) → f.on_wire ≡ false → h.node ≡ n
    → (added (numbered f m) h).handles k ≡ put_at f.handles n (f.handles n ++ h ∷ []) k
plus_here f h m n k hub e =
    ap (λ (g : Fixed). (added g h).handles k) (numbered-hub f m hub) ∙ ap (λ i. put_at f.handles i (f.handles i ++ h ∷ []) k) e

pub settled_handles : (s : State) (n : ℕ) (payload : List ℕ) (o : Outcome) (k : ℕ) → Rests s.fixed → FitsOutcome s.fixed n o → StandsEnd s.fixed n o
    → (settled s n payload o).fixed.handles k ≡ put_at s.fixed.handles n (after_call (hub_view s.fixed n) n payload o).handles k
settled_handles s n payload (Tells reply) k r fits p =
    either (λ (t : State). t.fixed.handles k ≡ put_at s.fixed.handles n (s.fixed.handles n) k) (is_nothing reply) (with_fixed s (called s.fixed)) s
    (λ u. put_same s.fixed.handles n k) (λ u. put_same s.fixed.handles n k)
settled_handles s n payload (Loans h) k r fits p = plus_here s.fixed (holding h payload) n n k r.hub fits.0
settled_handles s n payload (Fills h) k r fits p = with_here s.fixed h n k fits.0
settled_handles s n payload (Sends h true count) k r fits p = by_case (is_request_loan h.kind)
  where
    by_case : (b : Bool) → (if b then added (numbered s.fixed h.node) (sent_handle h count) else s.fixed).handles k
        ≡ put_at s.fixed.handles n (lends_one (if b then plus (counted (hub_view s.fixed n)) (sent_handle h count) else hub_view s.fixed n) h.port).handles k
    by_case true = plus_here s.fixed (sent_handle h count) h.node n k r.hub fits.0
    by_case false = put_same s.fixed.handles n k
settled_handles s n payload (Sends h false count) k r fits p = by_case (is_request_loan h.kind)
  where
    by_case : (b : Bool)
        → (if b then with_fixed s (changed s.fixed (sent_handle h count)) else released (with_fixed s (dropped s.fixed h)) h.port).fixed.handles k
        ≡ put_at s.fixed.handles n (if b then swapped (hub_view s.fixed n) (sent_handle h count) else less (hub_view s.fixed n) h).handles k
    by_case true = with_here s.fixed (sent_handle h count) n k fits.0
    by_case false = released_handles (with_fixed s (dropped s.fixed h)) h.port k ∙ without_here s.fixed h n k fits.0
settled_handles s n payload (FailsToSend h true refusal) k r fits p = put_same s.fixed.handles n k
settled_handles s n payload (FailsToSend h false refusal) k r fits p =
    released_handles (with_fixed s (dropped s.fixed h)) h.port k ∙ without_here s.fixed h n k fits.0
settled_handles s n payload (Receives x w m) k r fits p = plus_here s.fixed (received_handle s.fixed n x m) n n k r.hub refl
settled_handles s n payload (Drops h) k r fits p =
    released_handles (with_fixed s (gives_up (dropped s.fixed h) h)) h.port k ∙ by_case (is_received h.kind)
  where
    of_node : h.node ≡ n
    of_node = ((r.handles n).each h p).of_node

    by_case : (b : Bool)
        → (if b then record (dropped s.fixed h) {
          borrowed = put (dropped s.fixed h).borrowed (way_of h)
              ((dropped s.fixed h).borrowed (way_of h) - 1);
        } else dropped s.fixed h).handles k
        ≡ put_at s.fixed.handles n
        (if b then record (less (hub_view s.fixed n) h) {
          borrowed = put (less (hub_view s.fixed n) h).borrowed (way_of h)
              ((less (hub_view s.fixed n) h).borrowed (way_of h) - 1);
        }
        else less (hub_view s.fixed n) h).handles k
    by_case true = without_here s.fixed h n k of_node
    by_case false = without_here s.fixed h n k of_node
settled_handles s n payload (DropsPort port) k r fits p =
    released_handles (with_fixed s (record (s.fixed) { ports = map (port_dropped port) s.fixed.ports })) port k ∙ put_same s.fixed.handles n k
settled_handles s n payload (Forgets dead) k r fits p = absurd p
