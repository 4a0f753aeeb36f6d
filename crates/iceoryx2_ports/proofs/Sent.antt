-- A request that is sent changes nothing of what receivers have.
use Rattle.std.specs.Prelude.{◌≡◌, ℕ, Bool, true, false, if◌then◌else◌, List, Option, Some, None, refl}
use Rattle.std.proofs.Common.{sym, subst, ap, ◌∙◌, true≢false}
use Rattle.iox_model.specs.declared.reply.Reply.TheVariants as replies
use Rattle.iox_model.specs.declared.reply.Reply.TheVariants.{Sent}
use Rattle.iox_model.specs.Commands.{Call, Refusal, Reply}
use Rattle.iox_model.specs.Counts.{called, changed, dropped, sent_handle, with_fixed}
use Rattle.iox_model.specs.Doings.{Drops, DropsPort, FailsToSend, Fills, Forgets, Loans, Outcome, Receives, Sends, Tells}
use Rattle.iox_model.specs.Ends.{is_nothing, sent_loan, settled}
use Rattle.iox_model.specs.Expiries.{released}
use Rattle.iox_model.specs.Handles.{is_request_loan, new_number}
use Rattle.iox_model.specs.Names.{misnamed}
use Rattle.iox_model.specs.States.{Fixed, Handle, State}
use Rattle.iox_model.specs.WholeCalls.{IsDone, IsWholeCall, UnlessRefused, moved_by, replied, sent_reply, spent}
use Rattle.iox_laws.proofs.WeaveLaws.MapLemmas.{either}
use Rattle.iox_laws.proofs.WeaveLaws.WholeLemmas.{moved_by-fixed}
use Rattle.iox_laws.proofs.WeaveLedger.Truths.{by_cases}
use Rattle.iceoryx2_ports.proofs.Resting.{HaveAsBefore, have_same}

abbrev is_sent : Reply → Bool
is_sent (Sent n) = true
is_sent r = false

abbrev a_handle : ℕ → Reply
a_handle n = replies.Handle n

abbrev a_send : ℕ → Reply
a_send n = Sent n

no_handle : (n k : ℕ) → a_send k ≡ a_handle n → ⊥
no_handle n k e = true≢false (ap is_sent e)

-- how a loan ends that is sent as a request
request_has : (s : State) (h : Handle) (count : ℕ) → is_request_loan h.kind ≡ true → HaveAsBefore s.fixed (sent_loan s h count).fixed
request_has s h count request =
    either (λ (t : State). HaveAsBefore s.fixed t.fixed) (is_request_loan h.kind) (with_fixed s (changed s.fixed (sent_handle h count)))
    (released (with_fixed s (dropped s.fixed h)) h.port) (λ u. record { limits = refl; ports = refl; borrowed = refl })
    (λ response. absurd (true≢false (sym request ∙ response)))

-- no copy, and no response, answers to how many servers it went
is_request : (f : Fixed) (node : ℕ) (h : Handle) (copied : Bool) (k n : ℕ) → a_send k ≡ sent_reply f node h copied n
    → (is_request_loan h.kind ≡ true) × (copied ≡ false)
is_request f node h copied k n e =
    by_cases (is_request_loan h.kind)
    (λ request. (request, by_cases copied (λ c. absurd (no_handle (new_number f node) k (e ∙ shown true request ∙ copy true c))) (λ c. c)))
    (λ response. absurd (true≢false (ap is_sent (e ∙ shown false response))))
  where
    shown : (b : Bool) → is_request_loan h.kind ≡ b
        → sent_reply f node h copied n ≡ (if b then (if copied then a_handle (new_number f node) else a_send n) else replies.Done)
    shown b is = ap (λ (d : Bool). if d then (if copied then a_handle (new_number f node) else a_send n) else replies.Done) is

    copy : (b : Bool) → copied ≡ b → (if copied then a_handle (new_number f node) else a_send n) ≡ (if b then a_handle (new_number f node) else a_send n)
    copy b is = ap (λ (d : Bool). if d then a_handle (new_number f node) else a_send n) is

ends_sent : (s : State) (f : Fixed) (node : ℕ) (payload : List ℕ) (k : ℕ) (o : Outcome) → a_send k ≡ replied f node o → HaveAsBefore s.fixed (settled s node payload o).fixed
ends_sent s f node payload k (Tells reply) e =
    either (λ (t : State). HaveAsBefore s.fixed t.fixed) (is_nothing reply) (with_fixed s (called s.fixed)) s
    (λ u. record { limits = refl; ports = refl; borrowed = refl }) (λ u. have_same s.fixed)
ends_sent s f node payload k (Sends h copied n) e = step copied (is_request f node h copied k n e)
  where
    step : (c : Bool) → (is_request_loan h.kind ≡ true) × (c ≡ false) → HaveAsBefore s.fixed (settled s node payload (Sends h c n)).fixed
    step true is = absurd (true≢false is.1)
    step false is = let r : HaveAsBefore s.fixed (sent_loan s h n).fixed = request_has s h n is.0 in
        record { limits = r.limits; ports = r.ports; borrowed = r.borrowed }
ends_sent s f node payload k (Loans h) e = absurd (true≢false (ap is_sent e))
ends_sent s f node payload k (Fills h) e = absurd (true≢false (ap is_sent e))
ends_sent s f node payload k (FailsToSend h copied refusal) e = absurd (true≢false (ap is_sent e))
ends_sent s f node payload k (Receives x w m) e = absurd (true≢false (ap is_sent e))
ends_sent s f node payload k (Drops h) e = absurd (true≢false (ap is_sent e))
ends_sent s f node payload k (DropsPort port) e = absurd (true≢false (ap is_sent e))
ends_sent s f node payload k (Forgets dead) e = absurd (true≢false (ap is_sent e))

done_sent : (s t : State) (node : ℕ) (call : Call) (k : ℕ) → IsDone s node call (Sent k) t → HaveAsBefore s.fixed t.fixed
done_sent s t node call k done =
    let u : State = moved_by s done.2 in
    subst (λ (v : State). HaveAsBefore s.fixed v.fixed) (sym done.9)
    (subst (λ (g : Fixed). HaveAsBefore g (settled u node done.6 done.4).fixed) (moved_by-fixed s done.2)
    (ends_sent u s.fixed node done.6 k done.4 done.8))

unless_sent : (q : Option Refusal) (s t : State) (reply : Reply) (P : Type 0) → (P → HaveAsBefore s.fixed t.fixed) → UnlessRefused q s reply t P
    → HaveAsBefore s.fixed t.fixed
unless_sent (Some r) s t reply P f p = subst (λ (v : State). HaveAsBefore s.fixed v.fixed) (sym p.1) (have_same s.fixed)
unless_sent None s t reply P f p = f p

-- Where a request was sent, receivers have what they had.
pub sent_has : (s t : State) (node : ℕ) (call : Call) (k : ℕ) → IsWholeCall s node call (Sent k) t → HaveAsBefore s.fixed t.fixed
sent_has s t node call k =
    unless_sent (misnamed s.fixed node call) s t (Sent k) (UnlessRefused (spent s.fixed call) s (Sent k) t (IsDone s node call (Sent k) t))
    (unless_sent (spent s.fixed call) s t (Sent k) (IsDone s node call (Sent k) t) (done_sent s t node call k))
