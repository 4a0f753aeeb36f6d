-- What the end of a call that forgets no node leaves: ports, at least as many loans, and what is outstanding.
use Rattle.std.specs.Prelude.{◌≤◌}
use Rattle.std.proofs.Common.{◌≡◌, ℕ, ◌+◌, ◌-◌, Bool, true, false, if◌then◌else◌, ◌==◌, List, refl, ap, sym, subst, ◌∙◌, arith, eqb-true}
use Rattle.iox_model.specs.Counts.{added, borrows, called, changed, dropped, gives_up, holding, lent, numbered, received_handle, sent_handle, with_fixed}
use Rattle.iox_model.specs.Doings.{Outcome, Tells, Loans, Fills, Sends, FailsToSend, Receives, Drops, DropsPort, Forgets}
use Rattle.iox_model.specs.Ends.{is_nothing, sent_copy, sent_loan, settled}
use Rattle.iox_model.specs.Handles.{is_received, is_request_loan, way_of}
use Rattle.iox_model.specs.Expiries.{released}
use Rattle.iox_model.specs.Maps.{put, put_at}
use Rattle.iox_model.specs.States.{Fixed, Handle, State}
use Rattle.iox_laws.proofs.WeaveLaws.MapLemmas.{either}
use Rattle.iox_laws.proofs.WeaveLaws.WireLemmas.{released-wire}
use Rattle.iox_wire_pools.specs.EndedSlots.{LeavesPorts}

-- the outcome forgets no node, and releases no port
abbrev pub ForgetsNone : Outcome → Type 0
ForgetsNone (Forgets dead) = ⊥
ForgetsNone (DropsPort port) = ⊥
ForgetsNone o = Unit {0}

-- the same ports, and no fewer loans
abbrev Grows : Fixed → Fixed → Type 0
Grows f g = (g.ports ≡ f.ports) × ((q : ℕ) → f.loans q ≤ g.loans q)

at_least : (n : ℕ) → n ≤ n
at_least n = omega arith

one_more : (n k : ℕ) → k ≡ n → k ≤ n + 1
one_more n k e = omega (arith, e)

same_le : (a b : ℕ) → a ≡ b → b ≤ a
same_le a b e = omega (arith, e)

same : (f : Fixed) → Grows f f
same f = (refl, λ q. at_least (f.loans q))

so : (f g : Fixed) → g.ports ≡ f.ports → g.loans ≡ f.loans → Grows f g
so f g ports loans = (ports, λ q. same_le (g.loans q) (f.loans q) (ap (λ (l : ℕ → ℕ). l q) loans))

-- one more loan of a port
lends : (f g : Fixed) (port : ℕ) → g.ports ≡ f.ports → g.loans ≡ f.loans → Grows f (lent g port)
lends f g port ports loans = (ports, λ q. by_case q (q == port) refl)
  where
    by_case : (q : ℕ) (b : Bool) → (q == port) ≡ b → f.loans q ≤ (if b then g.loans port + 1 else g.loans q)
    by_case q true is = one_more (g.loans port) (f.loans q) (ap (λ (l : ℕ → ℕ). l q) (sym loans) ∙ ap g.loans (eqb-true q port is))
    by_case q false is = same_le (g.loans q) (f.loans q) (ap (λ (l : ℕ → ℕ). l q) loans)

numbered_ports : (f : Fixed) (n : ℕ) → ((numbered f n).ports ≡ f.ports) × ((numbered f n).loans ≡ f.loans)
numbered_ports f n =
    either (λ (g : Fixed). (g.ports ≡ f.ports) × (g.loans ≡ f.loans)) f.on_wire (record f { handles_made = put_at f.handles_made n (f.handles_made n + 1) })
    (record f { next_number = f.next_number + 1 }) (λ u. (refl, refl)) (λ u. (refl, refl))

copied : (f : Fixed) (h : Handle) (count : ℕ) → ((sent_copy f h count).ports ≡ f.ports) × ((sent_copy f h count).loans ≡ f.loans)
copied f h count =
    either (λ (g : Fixed). (g.ports ≡ f.ports) × (g.loans ≡ f.loans)) (is_request_loan h.kind) (added (numbered f h.node) (sent_handle h count)) f
    (λ u. numbered_ports f h.node) (λ u. (refl, refl))

module _ (s : State) (wire : s.fixed.on_wire ≡ true) where
  of_fixed : (g : Fixed) → Grows s.fixed g → LeavesPorts s (with_fixed s g)
  of_fixed g grows = record { ports = grows.0; loans = grows.1; delivered = refl }

  of_released : (g : Fixed) (port : ℕ) → g.on_wire ≡ true → Grows s.fixed g → LeavesPorts s (released (with_fixed s g) port)
  of_released g port on grows = subst (LeavesPorts s) (sym (released-wire (with_fixed s g) port on)) (of_fixed g grows)

  called_too : (t : State) → LeavesPorts s t → LeavesPorts s (with_fixed t (called t.fixed))
  called_too t leaves = record { ports = leaves.ports; loans = leaves.loans; delivered = leaves.delivered }

  given : (f : Fixed) (h : Handle) → f.on_wire ≡ true → ((gives_up f h).on_wire ≡ true) × Grows f (gives_up f h)
  given f h on =
      either (λ (g : Fixed). (g.on_wire ≡ true) × Grows f g) (is_received h.kind)
      (record f { borrowed = put f.borrowed (way_of h) (f.borrowed (way_of h) - 1) }) f (λ u. (on, (refl, λ q. at_least (f.loans q)))) (λ u. (on, same f))

  pub leaves_ports : (node : ℕ) (payload : List ℕ) (o : Outcome) → ForgetsNone o → LeavesPorts s (settled s node payload o)
  leaves_ports node payload (Tells reply) none =
      either (LeavesPorts s) (is_nothing reply) (with_fixed s (called s.fixed)) s (λ u. of_fixed (called s.fixed) (so s.fixed (called s.fixed) refl refl))
      (λ u. record { ports = refl; loans = λ q. at_least (s.fixed.loans q); delivered = refl })
  leaves_ports node payload (Loans h) none =
      let k = numbered_ports s.fixed node in
      let grows = lends s.fixed (added (numbered s.fixed node) (holding h payload)) h.port k.0 k.1 in
      of_fixed (called (lent (added (numbered s.fixed node) (holding h payload)) h.port)) (grows.0, grows.1)
  leaves_ports node payload (Fills h) none = of_fixed (changed s.fixed h) (so s.fixed (changed s.fixed h) refl refl)
  leaves_ports node payload (Sends h true count) none =
      let k = copied s.fixed h count in
      let grows = lends s.fixed (sent_copy s.fixed h count) h.port k.0 k.1 in
      of_fixed (called (called (lent (sent_copy s.fixed h count) h.port))) (grows.0, grows.1)
  leaves_ports node payload (Sends h false count) none =
      called_too (sent_loan s h count)
      (either (LeavesPorts s) (is_request_loan h.kind) (with_fixed s (changed s.fixed (sent_handle h count))) (released (with_fixed s (dropped s.fixed h)) h.port)
      (λ u. of_fixed (changed s.fixed (sent_handle h count)) (so s.fixed (changed s.fixed (sent_handle h count)) refl refl))
      (λ u. of_released (dropped s.fixed h) h.port wire (so s.fixed (dropped s.fixed h) refl refl)))
  leaves_ports node payload (FailsToSend h true refusal) none =
      let grows = lends s.fixed s.fixed h.port refl refl in of_fixed (called (lent s.fixed h.port)) (grows.0, grows.1)
  leaves_ports node payload (FailsToSend h false refusal) none = of_released (dropped s.fixed h) h.port wire (so s.fixed (dropped s.fixed h) refl refl)
  leaves_ports node payload (Receives x w m) none =
      let k = numbered_ports s.fixed node in
      let g = called (borrows (added (numbered s.fixed node) (received_handle s.fixed node x m)) w) in of_fixed g (so s.fixed g k.0 k.1)
  leaves_ports node payload (Drops h) none =
      let k = given (dropped s.fixed h) h wire in of_released (gives_up (dropped s.fixed h) h) h.port k.0 (k.1.0, k.1.1)
  leaves_ports node payload (DropsPort port) none = absurd none
  leaves_ports node payload (Forgets dead) none = absurd none
