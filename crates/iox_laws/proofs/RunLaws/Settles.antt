-- The end of a call of a service leaves what rests.
use Rattle.std.specs.Prelude.{◌≡◌, ℕ, ◌+◌, ◌-◌, Bool, true, false, if◌then◌else◌, nat_le, List, map, refl}
use Rattle.std.proofs.Common.{sym, subst, ap, ◌∙◌}
use Rattle.iox_model.specs.Expiries.{released}
use Rattle.iox_model.specs.Forgetting.{has_forgotten, forgets}
use Rattle.iox_model.specs.Doings.{Outcome, Tells, Loans, Fills, Sends, FailsToSend, Receives, Drops, DropsPort, Forgets}
use Rattle.iox_model.specs.States.{Handle, Fixed, State}
use Rattle.iox_model.specs.Handles.{is_request_loan, is_received, way_of, new_number}
use Rattle.iox_model.specs.Maps.{put}
use Rattle.iox_model.specs.Ends.{sent_loan, sent_copy, is_nothing, port_dropped, settled}
use Rattle.iox_model.specs.Counts.{added, changed, dropped, numbered, lent, called, borrows, gives_up, with_fixed, received_handle, sent_handle, holding}
use Rattle.iox_laws.proofs.WeaveLaws.MapLemmas.{either}
use Rattle.iox_laws.proofs.WeaveWorlds.Settled.{of_own}
use Rattle.iox_laws.proofs.WeaveWorlds.Sound.{IsOwn, IsPortOf, FitsOutcome}
use Rattle.iox_laws.proofs.RunLaws.Rests.{Rests, Rested, numbered-hub, rests_same, adds, changes, drops}
use Rattle.iox_laws.proofs.RunLaws.Gone.{released_rests, with_rests, value_rests}
use Rattle.iox_laws.proofs.RunLaws.Holding.{HoldsEnd}
use Rattle.iox_laws.proofs.WeaveLedger.Orders.{le-refl, le-next}

next-hub : (f : Fixed) (node : ℕ) → Rests f → new_number f node ≡ f.next_number
next-hub f node r = ap (λ (b : Bool). if b then f.next_number + f.handles_made node else f.next_number) r.hub

-- what is fixed, with the same ports and limits, and numbers that only grew
record Grows (f g : Fixed) : Type 0 where
  pub ports : g.ports ≡ f.ports
  pub limits : g.limits ≡ f.limits
  pub next : nat_le f.next_number g.next_number ≡ true
  pub rests : Rests g

grown : (s : State) (g : Fixed) → Rested s → Grows s.fixed g → Rested (with_fixed s g)
grown s g r w = with_rests s g r w.rests w.ports w.limits w.next

stays : (f : Fixed) → Rests f → Grows f f
stays f r = record { ports = refl; limits = refl; next = le-refl f.next_number; rests = r }

-- counts are no matter
counts : (f g h : Fixed) → h.on_wire ≡ g.on_wire → h.ports ≡ g.ports → h.next_number ≡ g.next_number → h.handles ≡ g.handles → h.limits ≡ g.limits
    → Grows f g → Grows f h
counts f g h wire ports next handles limits w = record {
  ports = ports ∙ w.ports;
  limits = limits ∙ w.limits;
  next = subst (λ n. nat_le f.next_number n ≡ true) (sym next) w.next;
  rests = rests_same g h wire ports next handles w.rests;
}

adds_one : (f : Fixed) (h : Handle) → Rests f → IsPortOf f h.node h.port → h.number ≡ f.next_number → Grows f (added (numbered f h.node) h)
adds_one f h r own new = record {
  ports = ap (λ (g : Fixed). g.ports) (numbered-hub f h.node r.hub);
  limits = ap (λ (g : Fixed). g.limits) (numbered-hub f h.node r.hub);
  next = subst (λ (g : Fixed). nat_le f.next_number g.next_number ≡ true) (sym (numbered-hub f h.node r.hub)) (le-next f.next_number);
  rests = adds f h r own new;
}

less_of : (f : Fixed) (h : Handle) → Rests f → Grows f (dropped f h)
less_of f h r = record { ports = refl; limits = refl; next = le-refl f.next_number; rests = drops f h r }

given : (f g : Fixed) (h : Handle) → Grows f g → Grows f (gives_up g h)
given f g h w =
    either (Grows f) (is_received h.kind) (record g { borrowed = put g.borrowed (way_of h) (g.borrowed (way_of h) - 1) }) g
    (λ u. counts f g (record g { borrowed = put g.borrowed (way_of h) (g.borrowed (way_of h) - 1) }) refl refl refl refl refl w) (λ u. w)

sent_copy_grows : (f : Fixed) (node : ℕ) (h : Handle) (count : ℕ) → Rests f → IsOwn f node h → h.number ≡ new_number f h.node → Grows f (sent_copy f h count)
sent_copy_grows f node h count r own new =
    either (Grows f) (is_request_loan h.kind) (added (numbered f h.node) (sent_handle h count)) f
    (λ u. adds_one f (sent_handle h count) r (of_own f node h own) (new ∙ next-hub f h.node r)) (λ u. stays f r)

sent_loan_rests : (s : State) (node : ℕ) (h : Handle) (count : ℕ) → Rested s → IsOwn s.fixed node h → Rested (sent_loan s h count)
sent_loan_rests s node h count r own =
    either Rested (is_request_loan h.kind) (with_fixed s (changed s.fixed (sent_handle h count))) (released (with_fixed s (dropped s.fixed h)) h.port)
    (λ u. grown s (changed s.fixed (sent_handle h count)) r (record {
      ports = refl;
      limits = refl;
      next = le-refl s.fixed.next_number;
      rests = changes s.fixed (sent_handle h count) r.fixed (of_own s.fixed node h own);
    }))
    (λ u. released_rests (with_fixed s (dropped s.fixed h)) h.port (grown s (dropped s.fixed h) r (less_of s.fixed h r.fixed)))

pub dropped_rests : (s : State) (h : Handle) → Rested s → Rested (with_fixed s (dropped s.fixed h))
dropped_rests s h r = grown s (dropped s.fixed h) r (less_of s.fixed h r.fixed)

pub given_rests : (s : State) (h : Handle) → Rested s → Rested (with_fixed s (gives_up (dropped s.fixed h) h))
given_rests s h r = grown s (gives_up (dropped s.fixed h) h) r (given s.fixed (dropped s.fixed h) h (less_of s.fixed h r.fixed))

called_rests : (s : State) → Rested s → Rested (with_fixed s (called s.fixed))
called_rests s r = grown s (called s.fixed) r (counts s.fixed s.fixed (called s.fixed) refl refl refl refl refl (stays s.fixed r.fixed))

pub settled_rests : (s : State) (node : ℕ) (payload : List ℕ) (o : Outcome) → Rested s → FitsOutcome s.fixed node o
    → HoldsEnd s.fixed o → Rested (settled s node payload o)
settled_rests s node payload (Tells reply) r fits new =
    either Rested (is_nothing reply) (with_fixed s (called s.fixed)) s (λ u. called_rests s r) (λ u. r)
settled_rests s node payload (Loans h) r fits new =
    let g : Fixed = added (numbered s.fixed node) (holding h payload) in
    grown s (called (lent g h.port)) r
    (counts s.fixed g (called (lent g h.port)) refl refl refl refl refl
    (subst (λ n. Grows s.fixed (added (numbered s.fixed n) (holding h payload))) fits.0
    (adds_one s.fixed (holding h payload) r.fixed (of_own s.fixed node h fits) (new.2 ∙ next-hub s.fixed h.node r.fixed))))
settled_rests s node payload (Fills h) r fits new =
    grown s (changed s.fixed h) r (record {
      ports = refl;
      limits = refl;
      next = le-refl s.fixed.next_number;
      rests = changes s.fixed h r.fixed (of_own s.fixed node h fits);
    })
settled_rests s node payload (Sends h true count) r fits new =
    let g : Fixed = sent_copy s.fixed h count in
    grown s (called (called (lent g h.port))) r
    (counts s.fixed g (called (called (lent g h.port))) refl refl refl refl refl (sent_copy_grows s.fixed node h count r.fixed fits new.2))
settled_rests s node payload (Sends h false count) r fits new = called_rests (sent_loan s h count) (sent_loan_rests s node h count r fits)
settled_rests s node payload (FailsToSend h true refusal) r fits new =
    grown s (called (lent s.fixed h.port)) r (counts s.fixed s.fixed (called (lent s.fixed h.port)) refl refl refl refl refl (stays s.fixed r.fixed))
settled_rests s node payload (FailsToSend h false refusal) r fits new =
    released_rests (with_fixed s (dropped s.fixed h)) h.port (grown s (dropped s.fixed h) r (less_of s.fixed h r.fixed))
settled_rests s node payload (Receives x w m) r fits new =
    let h : Handle = received_handle s.fixed node x m in
    let g : Fixed = added (numbered s.fixed node) h in
    grown s (called (borrows g w)) r
    (counts s.fixed g (called (borrows g w)) refl refl refl refl refl (adds_one s.fixed h r.fixed fits.0 (next-hub s.fixed node r.fixed)))
settled_rests s node payload (Drops h) r fits new =
    released_rests (with_fixed s (gives_up (dropped s.fixed h) h)) h.port
    (given_rests s h r)
settled_rests s node payload (DropsPort port) r fits new =
    released_rests (with_fixed s (record (s.fixed) { ports = map (port_dropped port) s.fixed.ports })) port (value_rests s port r)
settled_rests s node payload (Forgets dead) r fits new =
    either Rested (has_forgotten s.fixed node dead) s (forgets s node dead) (λ u. r)
    (λ u. record {
      fixed = rests_same s.fixed (forgets s node dead).fixed refl refl refl refl r.fixed;
      within = r.within;
      unused = r.unused;
    })
