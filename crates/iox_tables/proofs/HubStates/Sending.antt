-- The sends of loans, and hints, are the machine's whole calls.
use Rattle.std.specs.Prelude.{◌≡◌, ℕ, ◌<◌, ◌^◌, Bool, true, false, not, ◌||◌, if◌then◌else◌, nat_le, List, length, Option, Some, None, refl}
use Rattle.std.specs.List.{list_any}
use Rattle.std.specs.Option.{option_map_or}
use Rattle.std.proofs.Common.{sym, ap, ap₂, ◌∙◌, arith}
use Rattle.iox_model.specs.declared.kind.Kind.TheVariants.{PendingResponse, RequestMut, ResponseMut}
use Rattle.iox_model.specs.declared.kind.Role.{Role}
use Rattle.iox_model.specs.declared.kind.Role.TheVariants.{Client, Server}
use Rattle.iox_model.specs.declared.call.Call.TheVariants.{Send, SetHint}
use Rattle.iox_model.specs.declared.reply.Refusal.TheVariants.{CallsSpent, ExceedsMaxActiveRequests, UnableToDeliver, WrongKind}
use Rattle.iox_model.specs.declared.reply.Reply.TheVariants.{Done, Refused, Sent}
use Rattle.iox_model.specs.declared.way.RequestState.TheVariants.{Closed}
use Rattle.iox_model.specs.Commands.{Refusal, Reply}
use Rattle.iox_model.specs.Counts.{changed, dropped, sent_handle, with_fixed}
use Rattle.iox_model.specs.Doings.{Outcome, Sending, Sends, FailsToSend}
use Rattle.iox_model.specs.Expiries.{released}
use Rattle.iox_model.specs.Handles.{Subject, is_request_loan, same_kind, subject}
use Rattle.iox_model.specs.Maps.{refused_if}
use Rattle.iox_model.specs.Messages.{hinted_for}
use Rattle.iox_model.specs.Names.{suits}
use Rattle.iox_model.specs.Requests.{is_active_spent, sending_of, targets}
use Rattle.iox_model.specs.Settings.{overflow_of}
use Rattle.iox_model.specs.States as m
use Rattle.iox_model.specs.WholeCalls.{is_uninit, spent}
use Rattle.iox_laws.proofs.WeaveLaws.MapLemmas.{others_are_all}
use Rattle.iox_laws.specs.CallFunctions.Answers.{answered, of_handle, unless}
use Rattle.iox_laws.specs.CallFunctions.Looks.{hint_set_by, hinted_at, hinted_from}
use Rattle.iox_laws.specs.CallFunctions.LoanSends.{loan_sent_by, requested, sent_of}
use Rattle.iox_laws.specs.CallFunctions.Overflows.{sent_over}
use Rattle.iox_laws.specs.CallFunctions.Responses.{is_awaited, responded}
use Rattle.iox_laws.specs.CallFunctions.Sends.{sent}
use Rattle.iox_tables.specs.HubStates.Tables.{HandleState, HubTables}
use Rattle.iox_tables.specs.HubStates.Ways.{state_on}
use Rattle.iox_tables.specs.HubStates.States.{Given, fixed_of, handle_of, limits_of, message_of, state_shown}
use Rattle.iox_tables.specs.HubStates.Changes.{with_states}
use Rattle.iox_tables.specs.HubStates.Ends.{with_call, with_changed, with_dropped}
use Rattle.iox_tables.specs.HubStates.Releases.{handle_shown, pending_states, request_of}
use Rattle.iox_tables.specs.HubStates.Sends.{MaySendFrom, free_targets, full_targets, outcome_of_send, sent_count, with_delivered, with_emptied, with_pushed, with_sent}
use Rattle.iox_tables.specs.HubStates.Sendings.{HintsAreGiven, RequestsAreSent, RequestsAreSentOver, ResponsesAreSent, ResponsesAreSentOver, SpentRequestsAreRefused, StatesAreShown, UnawaitedGoToNobody, counted, pending_of, request_sending, request_sent, response_sending, response_sent}
use Rattle.iox_tables.specs.HubStates.Wirings.{IsHandle, role_in}
use Rattle.iox_tables.proofs.HubStates.Ends.{each_handle_is_shown}
use Rattle.iox_tables.proofs.HubStates.Fixing.{role_is, roles_are}
use Rattle.iox_tables.proofs.HubStates.Naming.{each_handle_is_named}
use Rattle.iox_tables.proofs.HubStates.Releasing.{drop_is, states_are}
use Rattle.iox_tables.proofs.HubStates.SendSteps.{pushing_sends_are_shown, sends_are_shown}
use Rattle.iox_tables.proofs.HubStates.Steps.{connected_is, hints_are_shown}
use Rattle.iox_tables.proofs.HubStates.Requesting.{request_is, sent_is}

module _ (x : Given) (t : HubTables) (node n : ℕ) (h : HandleState) (is : IsHandle t node n h) where
  abbrev s : m.State
  s = state_shown x t

  abbrev f : m.Fixed
  f = fixed_of x t

  abbrev mh : m.Handle
  mh = handle_shown x t h

  abbrev tells : Reply → m.State → Reply × m.State
  tells r u = (r, u)

  abbrev told : Outcome → m.State → Outcome × m.State
  told o u = (o, u)

  -- the call, of what the number names
  call_is : suits false (Send n) h.kind ≡ true → t.calls < 2 ^ 56 → loan_sent_by s node n ≡ answered s node (sent_of s mh false)
  call_is suit below =
      ap₂ (λ (o q : Option Refusal). unless o s (unless q s (answered s node (of_handle s (subject f node n) (λ h. sent_of s h false)))))
      ((each_handle_is_named x t node n h is).refused (Send n) refl ∙ ap (λ b. refused_if (not b) WrongKind) suit) unspent
      ∙ ap (λ (o : Option Subject). answered s node (of_handle s o (λ h. sent_of s h false))) (each_handle_is_named x t node n h is).names
    where
      spent_at : (k : ℕ) → k < 2 ^ 56 → nat_le (2 ^ 56) k ≡ false
      spent_at k e = grind (arith, e)

      unspent : spent f (Send n) ≡ None
      unspent = ap (λ c. refused_if c CallsSpent) (spent_at t.calls below)

  -- ---- requests

  abbrev y : Sending
  y = request_sending x t h

  -- a refused send ends its loan
  refused_end : (ports : List _) (r : Refusal) → answered s node (told (FailsToSend mh false r) (state_shown x (record t { ports = ports })))
      ≡ tells (Refused r) (released (state_shown x (with_dropped (record t { ports = ports }) node n)) h.port)
  refused_end ports r = ap (λ u. tells (Refused r) (released u h.port)) (drop_is x t node n h is ports)

  -- a sent request's loan is its pending response
  sent_end : (ports : List _) (count : ℕ) → h.kind ≡ RequestMut → answered s node (told (Sends mh false count) (state_shown x (record t { ports = ports })))
      ≡ tells (Sent count) (state_shown x (with_call (with_changed (record t { ports = ports }) (pending_of h count))))
  sent_end ports count kind =
      ap (λ (b : Bool). tells (if b then Sent count else Done) (counted (if b then with_fixed S (changed S.fixed (sent_handle mh count)) else released (with_fixed S (dropped S.fixed mh)) h.port))) (ap is_request_loan kind)
      ∙ ap (λ k. tells (Sent count) (counted (with_fixed S (changed S.fixed k)))) (sent_is x t h count kind)
      ∙ ap (λ u. tells (Sent count) (counted u)) (each_handle_is_shown x (record t { ports = ports }) (pending_of h count)).changes
    where
      S : m.State
      S = state_shown x (record t { ports = ports })

  pub refused_if_spent : h.kind ≡ RequestMut → role_in t.ports h.port ≡ Client → t.calls < 2 ^ 56 → is_active_spent f mh ≡ true
      → loan_sent_by s node n ≡ tells (Refused ExceedsMaxActiveRequests) (released (state_shown x (with_dropped t node n)) h.port)
  refused_if_spent kind client below spent_is =
      call_is (ap (λ k. same_kind k RequestMut || same_kind k ResponseMut) kind) below
      ∙ ap (answered s node) (request_is x t h false kind client
      ∙ ap (λ (c : Bool). if c then told (FailsToSend mh false ExceedsMaxActiveRequests) s else (if t.settings.request_overflow then sent_over s y else sent s y)) spent_is)
      ∙ refused_end t.ports ExceedsMaxActiveRequests

  pub request_goes : h.kind ≡ RequestMut → role_in t.ports h.port ≡ Client → t.calls < 2 ^ 56 → is_active_spent f mh ≡ false → t.settings.request_overflow ≡ false
      → MaySendFrom x t y h.pool h.slot → loan_sent_by s node n ≡ request_sent x (with_sent t y h.slot) node n h (sent_count t y)
  request_goes kind client below spent_is over may =
      call_is (ap (λ k. same_kind k RequestMut || same_kind k ResponseMut) kind) below
      ∙ ap (answered s node) (request_is x t h false kind client
      ∙ ap₂ (λ (c b : Bool). if c then told (FailsToSend mh false ExceedsMaxActiveRequests) s else (if b then sent_over s y else sent s y)) spent_is over
      ∙ sends_are_shown x t y h.pool h.slot may)
      ∙ step (list_any y.fails (full_targets t y))
    where
      step : (b : Bool)
          → answered s node (told (outcome_of_send y (if b then None else Some (length (free_targets t y)))) (state_shown x (if b then with_emptied t y else with_delivered t y h.slot (free_targets t y))))
          ≡ request_sent x (if b then with_emptied t y else with_delivered t y h.slot (free_targets t y)) node n h (if b then None else Some (length (free_targets t y)))
      step true = refused_end (with_emptied t y).ports UnableToDeliver
      step false = sent_end (with_delivered t y h.slot (free_targets t y)).ports (length (free_targets t y)) kind

  pub request_goes_over : h.kind ≡ RequestMut → role_in t.ports h.port ≡ Client → t.calls < 2 ^ 56 → is_active_spent f mh ≡ false → t.settings.request_overflow ≡ true
      → MaySendFrom x t y h.pool h.slot → loan_sent_by s node n ≡ request_sent x (with_pushed t y h.slot) node n h (Some (length (targets y)))
  request_goes_over kind client below spent_is over may =
      call_is (ap (λ k. same_kind k RequestMut || same_kind k ResponseMut) kind) below
      ∙ ap (answered s node) (request_is x t h false kind client
      ∙ ap₂ (λ (c b : Bool). if c then told (FailsToSend mh false ExceedsMaxActiveRequests) s else (if b then sent_over s y else sent s y)) spent_is over
      ∙ pushing_sends_are_shown x t y h.pool h.slot may)
      ∙ sent_end (with_pushed t y h.slot).ports (length (targets y)) kind

  -- ---- responses

  abbrev z : Sending
  z = response_sending x t h

  response_is : h.kind ≡ ResponseMut → role_in t.ports h.port ≡ Server
      → sent_of s mh false
      ≡ (if is_awaited s mh then (if t.settings.response_overflow then sent_over s z else sent s z) else told (Sends mh false 0) s)
  response_is kind server =
      ap (λ (b : Bool). if b then requested s mh false else responded s mh false) (ap is_request_loan kind)
      ∙ ap (λ (role : Role). if is_awaited s mh then (if overflow_of (limits_of x t) role then sent_over s z else sent s z) else told (Sends mh false 0) s) (role_is x t h.port ∙ server)

  -- the loan of a sent response is gone
  response_end : (ports : List _) (count : ℕ) → h.kind ≡ ResponseMut → answered s node (told (Sends mh false count) (state_shown x (record t { ports = ports })))
      ≡ tells Done (counted (released (state_shown x (with_dropped (record t { ports = ports }) node n)) h.port))
  response_end ports count kind =
      ap (λ (b : Bool). tells (if b then Sent count else Done) (counted (if b then with_fixed S (changed S.fixed (sent_handle mh count)) else released (with_fixed S (dropped S.fixed mh)) h.port))) (ap is_request_loan kind)
      ∙ ap (λ u. tells Done (counted (released u h.port))) (drop_is x t node n h is ports)
    where
      S : m.State
      S = state_shown x (record t { ports = ports })

  pub nobody_awaits : h.kind ≡ ResponseMut → role_in t.ports h.port ≡ Server → t.calls < 2 ^ 56 → is_awaited s mh ≡ false
      → loan_sent_by s node n ≡ response_sent x t node n h (Some 0)
  nobody_awaits kind server below awaited =
      call_is (ap (λ k. same_kind k RequestMut || same_kind k ResponseMut) kind) below
      ∙ ap (answered s node) (response_is kind server
      ∙ ap (λ (c : Bool). if c then (if t.settings.response_overflow then sent_over s z else sent s z) else told (Sends mh false 0) s) awaited)
      ∙ response_end t.ports 0 kind

  pub response_goes : h.kind ≡ ResponseMut → role_in t.ports h.port ≡ Server → t.calls < 2 ^ 56 → is_awaited s mh ≡ true → t.settings.response_overflow ≡ false
      → MaySendFrom x t z h.pool h.slot → loan_sent_by s node n ≡ response_sent x (with_sent t z h.slot) node n h (sent_count t z)
  response_goes kind server below awaited over may =
      call_is (ap (λ k. same_kind k RequestMut || same_kind k ResponseMut) kind) below
      ∙ ap (answered s node) (response_is kind server
      ∙ ap₂ (λ (c b : Bool). if c then (if b then sent_over s z else sent s z) else told (Sends mh false 0) s) awaited over
      ∙ sends_are_shown x t z h.pool h.slot may)
      ∙ step (list_any z.fails (full_targets t z))
    where
      step : (b : Bool)
          → answered s node (told (outcome_of_send z (if b then None else Some (length (free_targets t z)))) (state_shown x (if b then with_emptied t z else with_delivered t z h.slot (free_targets t z))))
          ≡ response_sent x (if b then with_emptied t z else with_delivered t z h.slot (free_targets t z)) node n h (if b then None else Some (length (free_targets t z)))
      step true = refused_end (with_emptied t z).ports UnableToDeliver
      step false = response_end (with_delivered t z h.slot (free_targets t z)).ports (length (free_targets t z)) kind

  pub response_goes_over : h.kind ≡ ResponseMut → role_in t.ports h.port ≡ Server → t.calls < 2 ^ 56 → is_awaited s mh ≡ true → t.settings.response_overflow ≡ true
      → MaySendFrom x t z h.pool h.slot → loan_sent_by s node n ≡ response_sent x (with_pushed t z h.slot) node n h (Some (length (targets z)))
  response_goes_over kind server below awaited over may =
      call_is (ap (λ k. same_kind k RequestMut || same_kind k ResponseMut) kind) below
      ∙ ap (answered s node) (response_is kind server
      ∙ ap₂ (λ (c b : Bool). if c then (if b then sent_over s z else sent s z) else told (Sends mh false 0) s) awaited over
      ∙ pushing_sends_are_shown x t z h.pool h.slot may)
      ∙ response_end (with_pushed t z h.slot).ports (length (targets z)) kind

  -- ---- hints

  pub hint_given : h.kind ≡ PendingResponse → hint_set_by s node n ≡ tells Done (state_shown x (with_states (λ r. hinted_for r (request_of t h)) t (pending_states t h)))
  hint_given kind =
      ap (λ (o : Option Refusal). unless o s (unless None s (answered s node (of_handle s (subject f node n) (hinted_from s)))))
      ((each_handle_is_named x t node n h is).refused (SetHint n) refl ∙ ap (λ k. refused_if (not (same_kind k PendingResponse)) WrongKind) kind)
      ∙ ap (λ (o : Option Subject). answered s node (of_handle s o (hinted_from s))) (each_handle_is_named x t node n h is).names
      ∙ ap (tells Done) (ap (hinted_at s mh.request) (states_are x t node n h is kind) ∙ sym (hints_are_shown x t (request_of t h) (pending_states t h)))

pub spent_requests_are_refused : SpentRequestsAreRefused
spent_requests_are_refused x t node n h may spent_is = refused_if_spent x t node n h may.named may.kind may.client may.calls spent_is

pub requests_are_sent : RequestsAreSent
requests_are_sent x t node n h may spent_is over from = request_goes x t node n h may.named may.kind may.client may.calls spent_is over from

pub requests_are_sent_over : RequestsAreSentOver
requests_are_sent_over x t node n h may spent_is over from = request_goes_over x t node n h may.named may.kind may.client may.calls spent_is over from

pub unawaited_go_to_nobody : UnawaitedGoToNobody
unawaited_go_to_nobody x t node n h may awaited = nobody_awaits x t node n h may.named may.kind may.server may.calls awaited

pub responses_are_sent : ResponsesAreSent
responses_are_sent x t node n h may awaited over from = response_goes x t node n h may.named may.kind may.server may.calls awaited over from

pub responses_are_sent_over : ResponsesAreSentOver
responses_are_sent_over x t node n h may awaited over from = response_goes_over x t node n h may.named may.kind may.server may.calls awaited over from

pub hints_are_given : HintsAreGiven
hints_are_given x t node n h is kind = hint_given x t node n h is kind

pub states_are_shown : StatesAreShown
states_are_shown x t w there = ap (λ (b : Bool). if b then option_map_or (λ r. r) (state_on t.ports w) Closed else Closed) (connected_is x t.ports w.receiver ∙ there)
