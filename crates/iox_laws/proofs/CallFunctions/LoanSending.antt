-- What `loan_sent_by` says is a whole call.
use Rattle.std.specs.Prelude.{◌≡◌, ℕ, Bool, true, false, if◌then◌else◌, List, [], ◌∷◌, map, Option, Some, None, refl}
use Rattle.std.specs.Option.{option_map_or}
use Rattle.std.proofs.Common.{subst, ap}
use Rattle.iox_model.specs.declared.kind.Role.TheVariants.{Server}
use Rattle.iox_model.specs.declared.call.Call.TheVariants.{Send}
use Rattle.iox_model.specs.declared.reply.Refusal.TheVariants.{UnknownNumber, WrongKind}
use Rattle.iox_model.specs.declared.reply.Reply.TheVariants.{Refused}
use Rattle.iox_model.specs.Begins.{begins_at}
use Rattle.iox_model.specs.Doings.{refused, Tells}
use Rattle.iox_model.specs.Handles.{is_request_loan, own_state, subject, Subject, ThePort, TheHandle}
use Rattle.iox_model.specs.Maps.{AreDistinctWays}
use Rattle.iox_model.specs.Messages.{request_way}
use Rattle.iox_model.specs.Peers.{role_at, others}
use Rattle.iox_model.specs.Requests.{sends_request}
use Rattle.iox_model.specs.Responses.{sends, sends_response}
use Rattle.iox_model.specs.Settings.{overflow_of}
use Rattle.iox_model.specs.States.{Handle, Fixed, State}
use Rattle.iox_laws.specs.CallFunctions.Answers.{NoneInHand, of_handle}
use Rattle.iox_laws.specs.CallFunctions.LoanSends.{requested, sent_of, sending_ways, MaySend, EachLoanSendIsWhole}
use Rattle.iox_laws.specs.CallFunctions.Overflows.{NotOver, sent_over_to}
use Rattle.iox_laws.specs.CallFunctions.Responses.{responded}
use Rattle.iox_laws.specs.CallFunctions.Sends.{sent_to}
use Rattle.iox_laws.proofs.CallFunctions.Leads.{NoPayload, Leads, at_end, one_of, is_whole, ample}
use Rattle.iox_laws.proofs.CallFunctions.Overflowing.{sent_over_to_leads}
use Rattle.iox_laws.proofs.CallFunctions.Responding.{responds_leads}
use Rattle.iox_laws.proofs.CallFunctions.Sent.{sent_to_leads}

-- of a request, and of a response, these are the ways
of_request : (f : Fixed) (h : Handle) → is_request_loan h.kind ≡ true → sending_ways f h ≡ map (request_way h.port) (others f h.node Server)
of_request f h e = ap (λ (b : Bool). if b then map (request_way h.port) (others f h.node Server) else own_state h ∷ []) e

of_response : (f : Fixed) (h : Handle) → is_request_loan h.kind ≡ false → sending_ways f h ≡ own_state h ∷ []
of_response f h e = ap (λ (b : Bool). if b then map (request_way h.port) (others f h.node Server) else own_state h ∷ []) e

requests_lead : (f : Fixed) (s : State) (node : ℕ) (h : Handle) (copied b : Bool) → is_request_loan h.kind ≡ true
    → overflow_of s.fixed.limits (role_at s.fixed h.port) ≡ b → NoneInHand s → MaySend s h
    → (let servers : List ℕ = others s.fixed h.node Server in
    Leads (NoPayload f) s node (sends_request s.fixed h copied servers) (if b then sent_over_to s h copied servers else sent_to s h copied servers))
requests_lead f s node h copied true request on hand may =
    sent_over_to_leads f s node h copied (others s.fixed h.node Server) request on hand
    (subst AreDistinctWays (of_request s.fixed h request) may.apart) (subst (NotOver s) (of_request s.fixed h request) (may.within on))
requests_lead f s node h copied false request plain hand may =
    sent_to_leads f s node h copied (others s.fixed h.node Server) request plain hand (subst AreDistinctWays (of_request s.fixed h request) may.apart)

pub loan_sends_lead : (f : Fixed) (s : State) (node : ℕ) (h : Handle) (copied : Bool) → NoneInHand s → MaySend s h
    → Leads (NoPayload f) s node (sends s.fixed h copied) (sent_of s h copied)
loan_sends_lead f s node h copied hand may =
    one_of (NoPayload f) s node (is_request_loan h.kind) (sends_request s.fixed h copied (others s.fixed h.node Server)) (sends_response s.fixed h copied)
    (requested s h copied) (responded s h copied)
    (λ e. requests_lead f s node h copied (overflow_of s.fixed.limits (role_at s.fixed h.port)) e refl hand may)
    (λ e. responds_leads f s node h copied e hand (λ on. subst (NotOver s) (of_response s.fixed h e) (may.within on)))

handle_sends_lead : (s : State) (node n : ℕ) (x : Option Subject) → NoneInHand s → ((h : Handle) → x ≡ Some (TheHandle h) → MaySend s h)
    → Leads (NoPayload s.fixed) s node (option_map_or (begins_at s ample (Send n)) x (refused UnknownNumber)) (of_handle s x (λ h. sent_of s h false))
handle_sends_lead s node n (Some (TheHandle h)) hand may = loan_sends_lead s.fixed s node h false hand (may h refl)
handle_sends_lead s node n (Some (ThePort p)) hand may = at_end (NoPayload s.fixed) s node (Tells (Refused WrongKind)) tt
handle_sends_lead s node n None hand may = at_end (NoPayload s.fixed) s node (Tells (Refused UnknownNumber)) tt

pub each_loan_send_is_whole : EachLoanSendIsWhole
each_loan_send_is_whole s node n hand may =
    let x : Option Subject = subject s.fixed node n in
    is_whole s node (Send n) ample (of_handle s x (λ h. sent_of s h false)) (refl, refl) (handle_sends_lead s node n x hand may)
