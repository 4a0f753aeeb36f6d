-- What the copy of a request leaves: its message on the way to each server, and what receivers have as it was.
use Rattle.std.specs.Prelude.{◌≡◌, ℕ, Bool, true, false, List, Option, None, Some, refl}
use Rattle.std.specs.Option.{option_map_or}
use Rattle.std.proofs.Common.{sym, ap, subst, ◌∙◌, true≢false, inl, inr}
use Rattle.iox_model.specs.declared.call.Call.TheVariants.{SendCopy}
use Rattle.iox_model.specs.declared.kind.Role.{Role}
use Rattle.iox_model.specs.declared.kind.Role.TheVariants.{Client}
use Rattle.iox_model.specs.declared.reply.Refusal.TheVariants.{UnknownNumber, WrongLength}
use Rattle.iox_model.specs.declared.reply.Reply.TheVariants as replies
use Rattle.iox_model.specs.declared.way.Way.{Way}
use Rattle.iox_model.specs.Begins.{begins_at, start}
use Rattle.iox_model.specs.Commands.{Call, Refusal, Reply}
use Rattle.iox_model.specs.Counts.{added, numbered, sent_handle}
use Rattle.iox_model.specs.Doings.{Doing, FailsToSend, Outcome, Sends, Tells, refused}
use Rattle.iox_model.specs.Ends.{sent_copy, settled}
use Rattle.iox_model.specs.Handles.{Subject, ThePort, is_request_loan, subject}
use Rattle.iox_model.specs.Loans.{Choice, kind_of_loan, lending_ways, loan_of, memory_refusal, next_request, request_loan_refusal, unless_refused}
use Rattle.iox_model.specs.Names.{misnamed}
use Rattle.iox_model.specs.Peers.{is_connected_port}
use Rattle.iox_model.specs.Responses.{lending, lends_request}
use Rattle.iox_model.specs.Runs.{IsReachableState}
use Rattle.iox_model.specs.Settings.{is_count}
use Rattle.iox_model.specs.States.{Fixed, Handle, Port, State}
use Rattle.iox_model.specs.WholeCalls.{IsDone, IsWholeCall, UnlessRefused, left_by, moved_by, replied, sent_reply, spent}
use Rattle.iox_laws.proofs.WeaveLaws.MapLemmas.{either}
use Rattle.iox_laws.proofs.WeaveLaws.WholeLemmas.{moved_by-fixed}
use Rattle.iox_hub_laws.proofs.Arrivals.{EndsSo, Fits, IsRefusal}
use Rattle.iox_hub_laws.proofs.Moments.{ended_fits, moments_fit}
use Rattle.iox_hub_laws.proofs.Phases.{loaning_fits}
use Rattle.iox_hub_laws.proofs.Brought.{CameTo, LeavesSo, apart, done_leaves, goes_to, starts_quiet, to_client, to_servers, within}
use Rattle.iceoryx2_ports.proofs.Resting.{HaveAsBefore}
use Rattle.iox_laws.specs.CallFunctions.Copies.{copied_order}

module _ (z : State) (reached : IsReachableState z) (node n : ℕ) (p : Port) (client : p.role ≡ Client) (known : is_connected_port z.fixed p.number ≡ true)
    (k : ℕ) (words : List ℕ) where
  -- the loan that the copy makes on that lane
  abbrev pub loan_on : ℕ → Handle
  loan_on lane = loan_of z.fixed p (copied_order k words) p.number lane (next_request z.fixed p.number)

  is_request : (lane : ℕ) → is_request_loan (loan_on lane).kind ≡ true
  is_request lane = ap (λ (r : Role). is_request_loan (kind_of_loan r false)) client

  abbrev Fit : ℕ → Doing → Type 0
  Fit lane = Fits z node (loan_on lane) true (goes_to z reached node (loan_on lane) known true) z

  abbrev Leaves : ℕ → State → Reply → Type 0
  Leaves lane = LeavesSo z reached node (loan_on lane) known true

  unless_fits : (lane : ℕ) (r : Option Refusal) (d : Doing) → Fit lane d → Fit lane (unless_refused r d)
  unless_fits lane (Some r) d q = (starts_quiet z reached node (loan_on lane) known true, tt)
  unless_fits lane None d q = q

  lending_fits : (lane : ℕ) → Fit lane (lending z true (loan_on lane))
  lending_fits lane =
      let h : Handle = loan_on lane in
      loaning_fits z node h true (goes_to z reached node h known true) (to_servers z reached node h known true) (to_client z reached node h known true)
      (apart z reached node h known true) (within z reached node h known true) z true h (lending_ways z.fixed h)
      (starts_quiet z reached node h known true) refl refl refl

  request_fits : (c : Choice) → Fit c.lane (lends_request z c p (copied_order k words))
  request_fits c =
      unless_fits c.lane (request_loan_refusal z.fixed p k) (unless_refused (memory_refusal z c p.number) (lending z true (loan_on c.lane)))
      (unless_fits c.lane (memory_refusal z c p.number) (lending z true (loan_on c.lane)) (lending_fits c.lane))

  module _ (named : subject z.fixed node n ≡ Some (ThePort p)) (role : Role) (t : State) where
    abbrev copy : Call
    copy = SendCopy n (record { role = role; elements = Some k; words = words })

    begins : (c : Choice) → Fit c.lane (start z node c copy)
    begins c =
        subst (λ (o : Option Subject). Fit c.lane (option_map_or (begins_at z c copy) o (refused UnknownNumber)))
        (sym named)
        (either (Fit c.lane) (is_count z.fixed.limits.request k) (lends_request z c p (copied_order k words)) (refused WrongLength)
        (λ u. request_fits c) (λ u. (starts_quiet z reached node (loan_on c.lane) known true, tt)))

    numbered_has : (f : Fixed) (i : ℕ) → HaveAsBefore f (numbered f i)
    numbered_has f i =
        either (HaveAsBefore f) f.on_wire _ _ (λ u. record { limits = refl; ports = refl; borrowed = refl })
        (λ u. record { limits = refl; ports = refl; borrowed = refl })

    copy_has : (f : Fixed) (h : Handle) (count : ℕ) → HaveAsBefore f (sent_copy f h count)
    copy_has f h count =
        either (HaveAsBefore f) (is_request_loan h.kind) (added (numbered f h.node) (sent_handle h count)) f
        (λ u. let r : HaveAsBefore f (numbered f h.node) = numbered_has f h.node in record { limits = r.limits; ports = r.ports; borrowed = r.borrowed })
        (λ u. record { limits = refl; ports = refl; borrowed = refl })

    abbrev is_handle : Reply → Bool
    is_handle (replies.Handle i) = true
    is_handle r = false

    refusal_is_none : (r : Reply) → IsRefusal r → is_handle r ≡ true → ⊥
    refusal_is_none (replies.Refused x) q e = true≢false (sym e)
    refusal_is_none r q e = absurd q

    -- what is waiting on each way is as before a copy that is refused
    module _ (reply : Reply) (told : IsRefusal reply) where
      abbrev Stays : Type 0
      Stays = (w : Way) → t.waiting w ≡ z.waiting w

      stays_unless : (r : Option Refusal) (P : Type 0) → (P → Stays) → UnlessRefused r z reply t P → Stays
      stays_unless (Some r) P f q w = ap (λ (s : State). s.waiting w) q.1
      stays_unless None P f q w = f q w

      stays_as_left : (lane : ℕ) → Leaves lane t reply → Stays
      stays_as_left lane (inl r) w = r.1.waiting w
      stays_as_left lane (inr q) w = absurd (q.0 told)

      stays_once_done : IsDone z node copy reply t → Stays
      stays_once_done done =
          let c : Choice = done.0 in
          stays_as_left c.lane (done_leaves z reached node (loan_on c.lane) known true t copy reply done (begins c) (λ f. absurd (true≢false f)))

      pub refused_copy_stays : IsWholeCall z node copy reply t → Stays
      refused_copy_stays =
          stays_unless (misnamed z.fixed node copy)
          (UnlessRefused (spent z.fixed copy) z reply t
          (IsDone z node copy reply t))
          (stays_unless (spent z.fixed copy)
          (IsDone z node copy reply t) stays_once_done)

    module _ (reply : Reply) (told : is_handle reply ≡ true) where
      -- the loan on that lane is a pending response, of the number that the copy answers
      pub record IsMade (lane : ℕ) : Type 0 where
        pub count : ℕ
        pub handles : t.fixed.handles ≡ (sent_copy z.fixed (loan_on lane) count).handles
        pub answer : reply ≡ sent_reply z.fixed node (loan_on lane) true count

      -- A copy that is sent leaves its message on its ways, and what receivers have as it was.
      pub record IsCopied : Type 0 where
        pub lane : ℕ
        pub came : CameTo z reached node (loan_on lane) known true t
        pub have : HaveAsBefore z.fixed t.fixed
        pub made : IsMade lane

      ends_made : (s : State) (lane : ℕ) (o : Outcome) (payload : List ℕ) → s.fixed ≡ z.fixed → EndsSo z node (loan_on lane) true (goes_to z reached node (loan_on lane) known true) s o
          → reply ≡ replied z.fixed node o → t ≡ settled s node payload o → IsMade lane
      ends_made s lane (Sends l true count) payload same q e is = record {
        count = count;
        handles = ap (λ (v : State). v.fixed.handles) (is ∙ ap (λ (h : Handle). settled s node payload (Sends h true count)) q.0)
            ∙ ap (λ (f : Fixed). (sent_copy f (loan_on lane) count).handles) same;
        answer = e ∙ ap (λ (h : Handle). sent_reply z.fixed node h true count) q.0;
      }
      ends_made s lane (Sends l false count) payload same q e is = absurd (true≢false (sym q.1))
      ends_made s lane (FailsToSend l c r) payload same q e is = absurd (true≢false (sym told ∙ ap is_handle e))
      ends_made s lane (Tells r) payload same q e is = absurd (refusal_is_none r q.1 (sym (ap is_handle e) ∙ told))
      ends_made s lane o payload same q e is = absurd q

      ends_have : (s : State) (lane : ℕ) (o : Outcome) (payload : List ℕ) → s.fixed ≡ z.fixed → EndsSo z node (loan_on lane) true (goes_to z reached node (loan_on lane) known true) s o
          → reply ≡ replied z.fixed node o → HaveAsBefore z.fixed (settled s node payload o).fixed
      ends_have s lane (Sends l true count) payload same q e =
          let r : HaveAsBefore z.fixed (sent_copy s.fixed l count) = subst (λ (f : Fixed). HaveAsBefore f (sent_copy s.fixed l count)) same (copy_has s.fixed l count) in
          record { limits = r.limits; ports = r.ports; borrowed = r.borrowed }
      ends_have s lane (Sends l false count) payload same q e = absurd (true≢false (sym q.1))
      ends_have s lane (FailsToSend l c r) payload same q e = absurd (true≢false (sym told ∙ ap is_handle e))
      ends_have s lane (Tells r) payload same q e = absurd (refusal_is_none r q.1 (sym (ap is_handle e) ∙ told))
      ends_have s lane o payload same q e = absurd q

      done_copied : IsDone z node copy reply t → IsCopied
      done_copied done =
          let c : Choice = done.0 in
          let h : Handle = loan_on c.lane in
          let d : Doing = start z node c copy in
          let u : State = moved_by z done.2 in
          let o : EndsSo z node h true (goes_to z reached node h known true) u done.4 =
          ended_fits z node h true (goes_to z reached node h known true) (to_servers z reached node h known true) (to_client z reached node h known true)
          (apart z reached node h known true) (within z reached node h known true) u (left_by z node d done.2) done.4
          (moments_fit z node h true (goes_to z reached node h known true) (to_servers z reached node h known true) (to_client z reached node h known true)
          (apart z reached node h known true) (within z reached node h known true) z d done.2 done.3 (begins c)) done.5 in
          record {
            lane = c.lane;
            came = came c.lane (done_leaves z reached node h known true t copy reply done (begins c)
                (λ f. absurd (true≢false f)));
            have = subst (λ (v : State). HaveAsBefore z.fixed v.fixed) (sym done.9) (ends_have u c.lane done.4 done.6 (moved_by-fixed z done.2) o done.8);
            made = ends_made u c.lane done.4 done.6 (moved_by-fixed z done.2) o done.8 done.9;
          }
        where
          came : (lane : ℕ) → Leaves lane t reply → CameTo z reached node (loan_on lane) known true t
          came lane (inl r) = absurd (refusal_is_none reply r.0 told)
          came lane (inr (r, inl c)) = c
          came lane (inr (r, inr l)) = absurd (true≢false (sym (is_request lane) ∙ l.response))

      unless_copied : (r : Option Refusal) (P : Type 0) → (P → IsCopied) → UnlessRefused r z reply t P → IsCopied
      unless_copied (Some r) P f q = absurd (true≢false (sym told ∙ ap is_handle q.0))
      unless_copied None P f q = f q

      pub copied : IsWholeCall z node copy reply t → IsCopied
      copied =
          unless_copied (misnamed z.fixed node copy)
          (UnlessRefused (spent z.fixed copy) z reply t
          (IsDone z node copy reply t))
          (unless_copied (spent z.fixed copy)
          (IsDone z node copy reply t) done_copied)
