-- What `sent_by` says is a whole call.
use Rattle.std.specs.Prelude.{◌≡◌, ℕ, Bool, true, false, if◌then◌else◌, List, [], length, map, Option, Some, None, refl}
use Rattle.std.specs.List.{list_any}
use Rattle.std.specs.Option.{option_map_or}
use Rattle.std.proofs.Common.{sym, subst, ap, ◌∙◌}
use Rattle.iox_model.specs.declared.kind.Role.TheVariants.{Server}
use Rattle.iox_model.specs.declared.way.Way.{Way}
use Rattle.iox_model.specs.declared.call.Call.TheVariants.{Send}
use Rattle.iox_model.specs.declared.reply.Refusal.TheVariants.{UnknownNumber, ExceedsMaxActiveRequests, UnableToDeliver}
use Rattle.iox_laws.specs.CallFunctions.Answers.{NoneInHand}
use Rattle.iox_laws.specs.CallFunctions.Sends.{emptied, full_of, sent_past, sent_or_not, sent, sent_to, EachSendIsWhole}
use Rattle.iox_laws.proofs.CallFunctions.Leads.{NoPayload, Leads, at_end, one_of, is_whole, ample}
use Rattle.iox_laws.proofs.CallFunctions.Sending.{looked, sent_at, sent_walks}
use Rattle.iox_model.specs.Doings.{refused, Sending, Outcome, FailsToSend, Doing, Ended, Delivering}
use Rattle.iox_model.specs.States.{Handle, Fixed, State}
use Rattle.iox_model.specs.Requests.{targets, sending_of, emptying, is_active_spent, sends_request}
use Rattle.iox_model.specs.Handles.{is_request_loan, Subject, TheHandle}
use Rattle.iox_model.specs.Handles.{subject}
use Rattle.iox_model.specs.WholeCalls.{MayHold}
use Rattle.iox_model.specs.Maps.{not_in, AreDistinctWays}
use Rattle.iox_model.specs.Begins.{begins_at, start}
use Rattle.iox_model.specs.Messages.{request_way, response_way}
use Rattle.iox_model.specs.Settings.{overflow_of}
use Rattle.iox_model.specs.Transitions.{ends}
use Rattle.iox_model.specs.Responses.{sends_response}
use Rattle.iox_model.specs.Peers.{role_at, others}

-- the send may end where it stands then
looked_ends : (t : State) (x : Sending) (full : List Way) (u : State)
    → ends u (looked x full) ≡ Some (sent_or_not t x full).0
looked_ends t x full u =
    elim (list_any x.fails full) as (λ b. ends u (if b then Ended (FailsToSend x.loan x.copied UnableToDeliver) else Delivering x None [] (length (not_in full (targets x))))
    ≡ Some (if b then (FailsToSend x.loan x.copied UnableToDeliver, t) else sent_past t x full).0) [
      | true ↦ refl
      | false ↦ refl
    ]

looked_holds : (f : Fixed) (t : State) (x : Sending) (full : List Way) → MayHold f (sent_or_not t x full).0 []
looked_holds f t x full =
    elim (list_any x.fails full) as (λ b. MayHold f (if b then (FailsToSend x.loan x.copied UnableToDeliver, t) else sent_past t x full).0 []) [
      | true ↦ tt
      | false ↦ tt
    ]

pub sent_leads : (f : Fixed) (s : State) (node : ℕ) (x : Sending) → x.overflow ≡ false → NoneInHand s → AreDistinctWays (targets x)
    → Leads (NoPayload f) s node (emptying x (targets x)) (sent s x)
sent_leads f s node x plain hand apart =
    let t : State = emptied s (targets x) in
    let full : List Way = full_of t (targets x) [] in
    (sent_at s x, sent_walks s node x plain hand apart, looked_ends t x full (sent s x).1, looked_holds f t x full)

-- ---- a request

-- the ways of a request's send
pub request_targets : (f : Fixed) (h : Handle) (copied : Bool) (servers : List ℕ) → is_request_loan h.kind ≡ true
    → targets (sending_of f h copied servers) ≡ map (request_way h.port) servers
request_targets f h copied servers request =
    ap (λ (b : Bool). if b then map (request_way h.port) servers else map (λ client. response_way client h.lane h.port) servers) request

-- a request's send begins, unless as many are active as may be
pub unless_spent : (f : Fixed) (s : State) (node : ℕ) (h : Handle) (copied : Bool) (servers : List ℕ) (v : Outcome × State) → is_request_loan h.kind ≡ true
    → (let x : Sending = sending_of s.fixed h copied servers in Leads (NoPayload f) s node (emptying x (targets x)) v)
    → Leads (NoPayload f) s node (sends_request s.fixed h copied servers) (if is_active_spent s.fixed h then (FailsToSend h copied ExceedsMaxActiveRequests, s) else v)
unless_spent f s node h copied servers v request more =
    one_of (NoPayload f) s node (is_active_spent s.fixed h) (Ended (FailsToSend h copied ExceedsMaxActiveRequests))
    (emptying (sending_of s.fixed h copied servers) (map (request_way h.port) servers)) (FailsToSend h copied ExceedsMaxActiveRequests, s) v
    (λ e. at_end (NoPayload f) s node (FailsToSend h copied ExceedsMaxActiveRequests) tt)
    (λ e. subst (λ (ws : List Way). Leads (NoPayload f) s node (emptying (sending_of s.fixed h copied servers) ws) v) (request_targets s.fixed h copied servers request) more)

pub sent_to_leads : (f : Fixed) (s : State) (node : ℕ) (h : Handle) (copied : Bool) (servers : List ℕ) → is_request_loan h.kind ≡ true
    → overflow_of s.fixed.limits (role_at s.fixed h.port) ≡ false → NoneInHand s → AreDistinctWays (map (request_way h.port) servers)
    → Leads (NoPayload f) s node (sends_request s.fixed h copied servers) (sent_to s h copied servers)
sent_to_leads f s node h copied servers request plain hand apart =
    let x : Sending = sending_of s.fixed h copied servers in
    unless_spent f s node h copied servers (sent s x) request
    (sent_leads f s node x plain hand (subst AreDistinctWays (sym (request_targets s.fixed h copied servers request)) apart))

-- how the send of a request begins
pub request_starts : (s : State) (node n : ℕ) (h : Handle) → subject s.fixed node n ≡ Some (TheHandle h) → is_request_loan h.kind ≡ true
    → start s node ample (Send n) ≡ sends_request s.fixed h false (others s.fixed h.node Server)
request_starts s node n h is request =
    ap (λ (y : Option Subject). option_map_or (begins_at s ample (Send n)) y (refused UnknownNumber)) is
    ∙ ap (λ (b : Bool). if b then sends_request s.fixed h false (others s.fixed h.node Server) else sends_response s.fixed h false) request

pub each_send_is_whole : EachSendIsWhole
each_send_is_whole s node n h is request plain apart hand =
    let servers : List ℕ = others s.fixed h.node Server in
    is_whole s node (Send n) ample (sent_to s h false servers) (refl, refl)
    (subst (λ (d : Doing). Leads (NoPayload s.fixed) s node d (sent_to s h false servers)) (sym (request_starts s node n h is request))
    (sent_to_leads s.fixed s node h false servers request plain hand apart))
