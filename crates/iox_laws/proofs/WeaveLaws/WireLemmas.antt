-- On a wire the end of a call changes no list of messages.
use Rattle.std.specs.Prelude.{◌≡◌, ℕ, ◌+◌, ◌-◌, Bool, true, false, not, ◌&&◌, if◌then◌else◌, ◌==◌, List, map, refl}
use Rattle.std.specs.List.{list_any}
use Rattle.std.proofs.Common.{sym, subst, ap, ◌∙◌}
use Rattle.iox_model.specs.Expiries.{disconnected, released}
use Rattle.iox_model.specs.Forgetting.{has_forgotten, forgets}
use Rattle.iox_model.specs.Doings.{Outcome, Tells, Loans, Fills, Sends, FailsToSend, Receives, Drops, DropsPort, Forgets}
use Rattle.iox_model.specs.Weaves.{IsBeat, World, Beat, Begins, Makes, Ends, Dies}
use Rattle.iox_model.specs.States.{Handle, Fixed, State}
use Rattle.iox_model.specs.Handles.{is_request_loan, is_received, handles_of, way_of}
use Rattle.iox_model.specs.Maps.{is_empty, put_at, put}
use Rattle.iox_model.specs.Ends.{sent_loan, sent_copy, is_nothing, port_dropped, settled}
use Rattle.iox_model.specs.Counts.{added, changed, dropped, numbered, lent, called, borrows, gives_up, with_fixed, received_handle, sent_handle, holding}
use Rattle.iox_laws.proofs.WeaveLaws.MapLemmas.{either}
use Rattle.iox_laws.proofs.WeaveLaws.WholeLemmas.{moved-fixed}

pub released-wire : (s : State) (port : ℕ) → s.fixed.on_wire ≡ true → released s port ≡ s
released-wire s port e =
    ap (λ (b : Bool). if not b && (not (list_any (λ p. (p.number == port) && p.held) s.fixed.ports) && is_empty (handles_of s.fixed port))
    then disconnected s port else s) e

-- what is waiting, what was given back, what is in hand and what is named is the same, and the wire is open
pub record Same (s t : State) : Type 0 where
  pub waiting : t.waiting ≡ s.waiting
  pub returned : t.returned ≡ s.returned
  pub in_hand : t.in_hand ≡ s.in_hand
  pub request_state : t.request_state ≡ s.request_state
  pub on_wire : t.fixed.on_wire ≡ s.fixed.on_wire

pub same_fixed : (s : State) (f : Fixed) → f.on_wire ≡ s.fixed.on_wire → Same s (with_fixed s f)
same_fixed s f e = record { waiting = refl; returned = refl; in_hand = refl; request_state = refl; on_wire = e }

gives_up-wire : (f : Fixed) (h : Handle) → (gives_up f h).on_wire ≡ f.on_wire
gives_up-wire f h =
    either (λ (g : Fixed). g.on_wire ≡ f.on_wire) (is_received h.kind)
    (record f { borrowed = put f.borrowed (way_of h) (f.borrowed (way_of h) - 1) }) f (λ u. refl) (λ u. refl)

numbered-wire : (f : Fixed) (node : ℕ) → (numbered f node).on_wire ≡ f.on_wire
numbered-wire f node =
    either (λ (g : Fixed). g.on_wire ≡ f.on_wire) f.on_wire (record f { handles_made = put_at f.handles_made node (f.handles_made node + 1) })
    (record f { next_number = f.next_number + 1 }) (λ u. refl) (λ u. refl)

-- a release of the port, which stays
released_same : (s : State) (f : Fixed) (port : ℕ) → f.on_wire ≡ s.fixed.on_wire → s.fixed.on_wire ≡ true → Same s (released (with_fixed s f) port)
released_same s f port e wire = subst (Same s) (sym (released-wire (with_fixed s f) port (e ∙ wire))) (same_fixed s f e)

sent_copy-wire : (f : Fixed) (h : Handle) (count : ℕ) → (sent_copy f h count).on_wire ≡ f.on_wire
sent_copy-wire f h count =
    either (λ (g : Fixed). g.on_wire ≡ f.on_wire) (is_request_loan h.kind) (added (numbered f h.node) (sent_handle h count)) f
    (λ u. numbered-wire f h.node) (λ u. refl)

sent_same : (s : State) (h : Handle) (count : ℕ) → s.fixed.on_wire ≡ true → Same s (sent_loan s h count)
sent_same s h count wire =
    either (Same s) (is_request_loan h.kind) (with_fixed s (changed s.fixed (sent_handle h count))) (released (with_fixed s (dropped s.fixed h)) h.port)
    (λ u. same_fixed s (changed s.fixed (sent_handle h count)) refl) (λ u. released_same s (dropped s.fixed h) h.port refl wire)

pub settled_same : (s : State) (node : ℕ) (payload : List ℕ) (o : Outcome) → s.fixed.on_wire ≡ true → Same s (settled s node payload o)
settled_same s node payload (Tells reply) wire =
    either (Same s) (is_nothing reply) (with_fixed s (called s.fixed)) s (λ u. same_fixed s (called s.fixed) refl) (λ u. same_fixed s s.fixed refl)
settled_same s node payload (Loans h) wire =
    same_fixed s (called (lent (added (numbered s.fixed node) (holding h payload)) h.port)) (numbered-wire s.fixed node)
settled_same s node payload (Fills h) wire = same_fixed s (changed s.fixed h) refl
settled_same s node payload (Sends h true count) wire =
    same_fixed s (called (called (lent (sent_copy s.fixed h count) h.port))) (sent_copy-wire s.fixed h count)
settled_same s node payload (Sends h false count) wire =
    let t : State = sent_loan s h count in
    let p : Same s t = sent_same s h count wire in
    record { waiting = p.waiting; returned = p.returned; in_hand = p.in_hand; request_state = p.request_state; on_wire = p.on_wire }
settled_same s node payload (FailsToSend h true refusal) wire = same_fixed s (called (lent s.fixed h.port)) refl
settled_same s node payload (FailsToSend h false refusal) wire = released_same s (dropped s.fixed h) h.port refl wire
settled_same s node payload (Receives x w m) wire =
    same_fixed s (called (borrows (added (numbered s.fixed node) (received_handle s.fixed node x m)) w)) (numbered-wire s.fixed node)
settled_same s node payload (Drops h) wire =
    released_same s (gives_up (dropped s.fixed h) h) h.port (gives_up-wire (dropped s.fixed h) h) wire
settled_same s node payload (DropsPort port) wire =
    released_same s (record (s.fixed) { ports = map (port_dropped port) s.fixed.ports }) port refl wire
settled_same s node payload (Forgets dead) wire =
    either (Same s) (has_forgotten s.fixed node dead) s (forgets s node dead) (λ u. same_fixed s s.fixed refl)
    (λ u. record { waiting = refl; returned = refl; in_hand = refl; request_state = refl; on_wire = refl })

-- the wire stays open
pub beat-wire : (w v : World) (b : Beat) → IsBeat w b v → w.state.fixed.on_wire ≡ true → v.state.fixed.on_wire ≡ true
beat-wire w v (Begins node call c) beat e = ap (λ (u : World). u.state.fixed.on_wire) beat.2 ∙ e
beat-wire w v (Makes node m) beat e =
    ap (λ (u : World). u.state.fixed.on_wire) beat.5 ∙ ap (λ (f : Fixed). f.on_wire) (moved-fixed w.state m) ∙ e
beat-wire w v (Ends node reply payload) beat e =
    ap (λ (u : World). u.state.fixed.on_wire) beat.7 ∙ (settled_same w.state node payload beat.3 e).on_wire ∙ e
beat-wire w v (Dies node) beat e = ap (λ (u : World). u.state.fixed.on_wire) beat.1 ∙ e
