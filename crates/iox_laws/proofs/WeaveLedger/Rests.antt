-- The end of a call changes nothing of what was delivered, and only a Forget changes who is forgotten.
use Rattle.std.specs.Prelude.{◌≡◌, ℕ, ◌+◌, Bool, true, false, if◌then◌else◌, List, ◌⊎◌, refl}
use Rattle.std.proofs.Common.{sym, subst, ap, inl, inr}
use Rattle.iox_model.specs.Doings.{Outcome, Tells, Loans, Fills, Sends, FailsToSend, Receives, Drops, DropsPort, Forgets}
use Rattle.iox_model.specs.States.{Handle, Fixed, State}
use Rattle.iox_model.specs.Forgetting.{has_forgotten, forgets}
use Rattle.iox_model.specs.Expiries.{released}
use Rattle.iox_model.specs.Handles.{is_request_loan, is_received}
use Rattle.iox_model.specs.Maps.{put_at}
use Rattle.iox_model.specs.Counts.{added, changed, dropped, numbered, lent, called, borrows, gives_up, with_fixed, received_handle, sent_handle, holding}
use Rattle.iox_model.specs.Ends.{sent_copy, is_nothing, settled}
use Rattle.iox_laws.proofs.WeaveLaws.MapLemmas.{either}
use Rattle.iox_laws.proofs.WeaveLaws.WireLemmas.{released-wire}
use Rattle.iox_laws.proofs.WeaveLedger.Views.{view}
use Rattle.iox_laws.proofs.WeaveLedger.Senders.{FitsOutcome}

pub record KeepsRest (s u : State) : Type 0 where
  pub delivered : u.delivered ≡ s.delivered
  pub forgot : u.fixed.forgot ≡ s.fixed.forgot
  pub expired : u.fixed.expired ≡ s.fixed.expired

of_fixed : (s : State) (f : Fixed) → f.forgot ≡ s.fixed.forgot → f.expired ≡ s.fixed.expired → KeepsRest s (with_fixed s f)
of_fixed s f e x = record { delivered = refl; forgot = e; expired = x }

of_released : (s : State) (f : Fixed) (port : ℕ) → f.on_wire ≡ true → f.forgot ≡ s.fixed.forgot → f.expired ≡ s.fixed.expired
    → KeepsRest s (released (with_fixed s f) port)
of_released s f port wire e x = subst (KeepsRest s) (sym (released-wire (with_fixed s f) port wire)) (of_fixed s f e x)

numbered-forgot : (f : Fixed) (n : ℕ) → (numbered f n).forgot ≡ f.forgot
numbered-forgot f n =
    either (λ (g : Fixed). g.forgot ≡ f.forgot) f.on_wire (record f { handles_made = put_at f.handles_made n (f.handles_made n + 1) })
    (record f { next_number = f.next_number + 1 }) (λ u. refl) (λ u. refl)

copy-forgot : (f : Fixed) (h : Handle) (count : ℕ) → (sent_copy f h count).forgot ≡ f.forgot
copy-forgot f h count =
    either (λ (g : Fixed). g.forgot ≡ f.forgot) (is_request_loan h.kind) (added (numbered f h.node) (sent_handle h count)) f
    (λ u. numbered-forgot f h.node) (λ u. refl)

numbered-expired : (f : Fixed) (n : ℕ) → (numbered f n).expired ≡ f.expired
numbered-expired f n =
    either (λ (g : Fixed). g.expired ≡ f.expired) f.on_wire (record f { handles_made = put_at f.handles_made n (f.handles_made n + 1) })
    (record f { next_number = f.next_number + 1 }) (λ u. refl) (λ u. refl)

copy-expired : (f : Fixed) (h : Handle) (count : ℕ) → (sent_copy f h count).expired ≡ f.expired
copy-expired f h count =
    either (λ (g : Fixed). g.expired ≡ f.expired) (is_request_loan h.kind) (added (numbered f h.node) (sent_handle h count)) f
    (λ u. numbered-expired f h.node) (λ u. refl)

pub settled-rest : (s : State) (n : ℕ) (payload : List ℕ) (o : Outcome) → s.fixed.on_wire ≡ true → FitsOutcome (view s.fixed n) n o
    → KeepsRest s (settled s n payload o) ⊎ ((gone : ℕ) × (settled s n payload o ≡ forgets s n gone))
settled-rest s n payload (Tells reply) wire p =
    inl (either (KeepsRest s) (is_nothing reply) (with_fixed s (called s.fixed)) s (λ u. of_fixed s (called s.fixed) refl refl)
    (λ u. of_fixed s s.fixed refl refl))
settled-rest s n payload (Loans h) wire p =
    inl (of_fixed s (called (lent (added (numbered s.fixed n) (holding h payload)) h.port)) (numbered-forgot s.fixed n) (numbered-expired s.fixed n))
settled-rest s n payload (Fills h) wire p = inl (of_fixed s (changed s.fixed h) refl refl)
settled-rest s n payload (Sends h true count) wire p =
    inl (of_fixed s (called (called (lent (sent_copy s.fixed h count) h.port))) (copy-forgot s.fixed h count) (copy-expired s.fixed h count))
settled-rest s n payload (Sends h false count) wire p =
    inl (called-too (either (KeepsRest s) (is_request_loan h.kind) (with_fixed s (changed s.fixed (sent_handle h count)))
    (released (with_fixed s (dropped s.fixed h)) h.port) (λ u. of_fixed s (changed s.fixed (sent_handle h count)) refl refl)
    (λ u. of_released s (dropped s.fixed h) h.port wire refl refl)))
  where
    called-too : {u : State} → KeepsRest s u → KeepsRest s (with_fixed u (called u.fixed))
    called-too keeps = record { delivered = keeps.delivered; forgot = keeps.forgot; expired = keeps.expired }
settled-rest s n payload (FailsToSend h true refusal) wire p = inl (of_fixed s (called (lent s.fixed h.port)) refl refl)
settled-rest s n payload (FailsToSend h false refusal) wire p = inl (of_released s (dropped s.fixed h) h.port wire refl refl)
settled-rest s n payload (Receives x w m) wire p =
    inl (of_fixed s (called (borrows (added (numbered s.fixed n) (received_handle s.fixed n x m)) w)) (numbered-forgot s.fixed n) (numbered-expired s.fixed n))
settled-rest s n payload (Drops h) wire p =
    inl (of_released s (gives_up (dropped s.fixed h) h) h.port
    (either (λ (g : Fixed). g.on_wire ≡ true) (is_received h.kind) (record (dropped s.fixed h) { borrowed = _ }) (dropped s.fixed h) (λ u. wire) (λ u. wire))
    (either (λ (g : Fixed). g.forgot ≡ s.fixed.forgot) (is_received h.kind) (record (dropped s.fixed h) { borrowed = _ }) (dropped s.fixed h)
    (λ u. refl) (λ u. refl))
    (either (λ (g : Fixed). g.expired ≡ s.fixed.expired) (is_received h.kind) (record (dropped s.fixed h) { borrowed = _ }) (dropped s.fixed h)
    (λ u. refl) (λ u. refl)))
settled-rest s n payload (DropsPort port) wire p = absurd p
settled-rest s n payload (Forgets gone) wire p = by_case (has_forgotten s.fixed n gone)
  where
    by_case : (b : Bool) → KeepsRest s (if b then s else forgets s n gone) ⊎ ((k : ℕ) × ((if b then s else forgets s n gone) ≡ forgets s n k))
    by_case true = inl (of_fixed s s.fixed refl refl)
    by_case false = inr (gone, refl)

pub settled-expired : (s : State) (n : ℕ) (payload : List ℕ) (o : Outcome) → s.fixed.on_wire ≡ true → FitsOutcome (view s.fixed n) n o
    → (settled s n payload o).fixed.expired ≡ s.fixed.expired
settled-expired s n payload o wire p = elim (settled-rest s n payload o wire p) as (λ z. (settled s n payload o).fixed.expired ≡ s.fixed.expired) [
  | inl keeps ↦ keeps.expired
  | inr r ↦ ap (λ (t : State). t.fixed.expired) r.1
]
