-- What `responded_by` says is a whole call.
use Rattle.std.specs.Prelude.{◌≡◌, ℕ, Bool, true, false, ◌&&◌, if◌then◌else◌, [], ◌∷◌, map, Option, refl}
use Rattle.std.specs.Option.{option_map_or}
use Rattle.std.proofs.Common.{sym, subst, ap, ◌∙◌}
use Rattle.iox_model.specs.declared.kind.Role.TheVariants.{Client, Server}
use Rattle.iox_model.specs.declared.way.Way.{Way}
use Rattle.iox_model.specs.declared.call.Call.TheVariants.{Send}
use Rattle.iox_model.specs.declared.reply.Refusal.TheVariants.{UnknownNumber}
use Rattle.iox_model.specs.Begins.{begins_at, start}
use Rattle.iox_model.specs.Doings.{refused, Sending, Sends, Doing, Ended, Asking}
use Rattle.iox_model.specs.Handles.{is_request_loan, own_state, Subject}
use Rattle.iox_model.specs.Maps.{has_number, AreDistinctWays}
use Rattle.iox_model.specs.Messages.{request_way, response_way, names}
use Rattle.iox_model.specs.Moments.{Look}
use Rattle.iox_model.specs.Peers.{role_at, others}
use Rattle.iox_model.specs.Requests.{targets, sending_of, emptying, sends_request}
use Rattle.iox_model.specs.Responses.{sends_response}
use Rattle.iox_model.specs.Settings.{overflow_of}
use Rattle.iox_model.specs.States.{Handle, Fixed, State}
use Rattle.iox_laws.proofs.WeaveLaws.MapLemmas.{same_way-refl}
use Rattle.iox_laws.specs.CallFunctions.Answers.{NoneInHand}
use Rattle.iox_laws.specs.CallFunctions.Overflows.{NotOver, sent_over}
use Rattle.iox_laws.specs.CallFunctions.Responses.{sent_either, responded, EachResponseSendIsWhole}
use Rattle.iox_laws.specs.CallFunctions.Sends.{sent}
use Rattle.iox_laws.proofs.CallFunctions.Leads.{NoPayload, Leads, at_end, one_more, one_of, is_whole, ample}
use Rattle.iox_laws.proofs.CallFunctions.Overflowing.{Overflow, over_leads}
use Rattle.iox_laws.proofs.CallFunctions.Sent.{sent_leads}

-- a response goes on one way
response_targets : (f : Fixed) (h : Handle) (copied : Bool) → is_request_loan h.kind ≡ false → targets (sending_of f h copied (h.client ∷ [])) ≡ own_state h ∷ []
response_targets f h copied response =
    ap (λ (b : Bool). if b then map (request_way h.port) (h.client ∷ []) else map (λ client. response_way client h.lane h.port) (h.client ∷ [])) response

either_leads : (f : Fixed) (s : State) (node : ℕ) (h : Handle) (copied b : Bool) → is_request_loan h.kind ≡ false
    → overflow_of s.fixed.limits (role_at s.fixed h.port) ≡ b → NoneInHand s → (b ≡ true → NotOver s (own_state h ∷ []))
    → (let x : Sending = sending_of s.fixed h copied (h.client ∷ []) in
    Leads (NoPayload f) s node (emptying x (targets x)) (if b then sent_over s x else sent s x))
either_leads f s node h copied true response on hand p =
    let to : targets (sending_of s.fixed h copied (h.client ∷ [])) ≡ own_state h ∷ [] = response_targets s.fixed h copied response in
    over_leads f s node (sending_of s.fixed h copied (h.client ∷ [])) on hand
    (subst (NotOver s) (sym to) (p refl)) (subst (Overflow s) (sym to) (on, tt)) (subst AreDistinctWays (sym to) (refl, tt))
either_leads f s node h copied false response plain hand p =
    let to : targets (sending_of s.fixed h copied (h.client ∷ [])) ≡ own_state h ∷ [] = response_targets s.fixed h copied response in
    sent_leads f s node (sending_of s.fixed h copied (h.client ∷ [])) plain hand (subst AreDistinctWays (sym to) (refl, tt))

pub responds_leads : (f : Fixed) (s : State) (node : ℕ) (h : Handle) (copied : Bool) → is_request_loan h.kind ≡ false → NoneInHand s
    → (overflow_of s.fixed.limits (role_at s.fixed h.port) ≡ true → NotOver s (own_state h ∷ []))
    → Leads (NoPayload f) s node (sends_response s.fixed h copied) (responded s h copied)
responds_leads f s node h copied response hand p = by_client (has_number h.client (others s.fixed h.node Client))
  where
    by_client : (a : Bool)
        → Leads (NoPayload f) s node (if a then Asking (sending_of s.fixed h copied (h.client ∷ [])) else Ended (Sends h copied 0))
        (if a && names (s.request_state (own_state h)) h.request then sent_either s (sending_of s.fixed h copied (h.client ∷ [])) else (Sends h copied 0, s))
    by_client false = at_end (NoPayload f) s node (Sends h copied 0) tt
    by_client true =
        let x : Sending = sending_of s.fixed h copied (h.client ∷ []) in
        let w : Way = own_state h in
        one_more (NoPayload f) s node (Asking x) (Look w (s.request_state w)) _ refl (same_way-refl w)
        (one_of (NoPayload f) s node (names (s.request_state w) h.request) (emptying x (targets x)) (Ended (Sends h copied 0)) (sent_either s x) (Sends h copied 0, s)
        (λ e. either_leads f s node h copied (overflow_of s.fixed.limits (role_at s.fixed h.port)) response refl hand p)
        (λ e. at_end (NoPayload f) s node (Sends h copied 0) tt))

pub each_response_send_is_whole : EachResponseSendIsWhole
each_response_send_is_whole s node n h is response hand p =
    let starts : start s node ample (Send n) ≡ sends_response s.fixed h false
    = ap (λ (y : Option Subject). option_map_or (begins_at s ample (Send n)) y (refused UnknownNumber)) is
    ∙ ap (λ (b : Bool). if b then sends_request s.fixed h false (others s.fixed h.node Server) else sends_response s.fixed h false) response in
    is_whole s node (Send n) ample (responded s h false) (refl, refl)
    (subst (λ (d : Doing). Leads (NoPayload s.fixed) s node d (responded s h false)) (sym starts) (responds_leads s.fixed s node h false response hand p))
