-- The sends of copies, of any tables: a handle that is in no table yet is sent.
use Rattle.std.specs.Prelude.{◌≡◌, ℕ, Bool, true, false, if◌then◌else◌, ◌==◌, List, [], refl}
use Rattle.std.specs.List.{list_any}
use Rattle.std.proofs.Common.{sym, ap, ap₂, ◌∙◌}
use Rattle.iox_model.specs.declared.kind.Kind.TheVariants.{RequestMut, ResponseMut}
use Rattle.iox_model.specs.declared.kind.Role.{Role}
use Rattle.iox_model.specs.declared.kind.Role.TheVariants.{Client, Server}
use Rattle.iox_model.specs.declared.reply.Refusal.TheVariants.{ExceedsMaxActiveRequests}
use Rattle.iox_model.specs.declared.way.Way.{Way}
use Rattle.iox_model.specs.declared.way.RequestState.TheVariants.{Named}
use Rattle.iox_model.specs.Counts.{added, called, lent, numbered, sent_handle, with_fixed}
use Rattle.iox_model.specs.Doings.{Outcome, Sending, FailsToSend, Sends}
use Rattle.iox_model.specs.Ends.{settled}
use Rattle.iox_model.specs.Handles.{is_request_loan}
use Rattle.iox_model.specs.Requests.{is_active_spent, sending_of, targets, to_open}
use Rattle.iox_model.specs.Settings.{overflow_of}
use Rattle.iox_model.specs.States as m
use Rattle.iox_model.specs.WholeCalls.{is_uninit}
use Rattle.iox_laws.proofs.WeaveLaws.MapLemmas.{others_are_all}
use Rattle.iox_laws.specs.CallFunctions.LoanSends.{requested, sent_of}
use Rattle.iox_laws.specs.CallFunctions.Overflows.{sent_over}
use Rattle.iox_laws.specs.CallFunctions.Responses.{is_awaited, responded}
use Rattle.iox_laws.specs.CallFunctions.Sends.{sent}
use Rattle.iox_lanes.specs.Lanes.{delivered}
use Rattle.iox_tables.specs.HubStates.Tables.{HandleState, HubTables}
use Rattle.iox_tables.specs.HubStates.States.{Given, fixed_of, handle_of, limits_of, message_of, state_shown}
use Rattle.iox_tables.specs.HubStates.Changes.{emptied_lane, pushed_lane}
use Rattle.iox_tables.specs.HubStates.Ends.{with_added, with_call}
use Rattle.iox_tables.specs.HubStates.Releases.{handle_shown}
use Rattle.iox_tables.specs.HubStates.Sendings.{pending_of}
use Rattle.iox_tables.specs.HubStates.Sends.{free_targets, full_targets, with_delivered, with_emptied, with_opened, with_pushed, with_sent}
use Rattle.iox_tables.specs.HubStates.Steps.{is_there}
use Rattle.iox_tables.specs.HubStates.Wirings.{role_in}
use Rattle.iox_tables.proofs.HubStates.Ends.{each_count_is_shown, each_handle_is_shown}
use Rattle.iox_tables.proofs.HubStates.Fixing.{role_is, roles_are}
use Rattle.iox_tables.proofs.HubStates.Steps.{connected_is, lanes_fixed, push_keeps, states_fixed}
use Rattle.iox_tables.specs.HubLoans.CopySends.{copy_sending, with_loan_call}
use Rattle.iox_tables.proofs.HubStates.Requesting.{sent_is}

-- ---- ports stay

module _ (x : Given) where
  there_by : (t u : HubTables) (n : ℕ) → fixed_of x t ≡ fixed_of x u → is_there t.ports n ≡ is_there u.ports n
  there_by t u n same =
      sym (connected_is x t.ports n) ∙ ap (λ (f : m.Fixed). list_any (λ p. p.number == n) f.ports) same ∙ connected_is x u.ports n

  emptied_fixed : (t : HubTables) (y : Sending) → fixed_of x (with_emptied t y) ≡ fixed_of x t
  emptied_fixed t y = lanes_fixed emptied_lane (λ l. refl) x t (targets y)

  opened_fixed : (t : HubTables) (y : Sending) → fixed_of x (with_opened (with_emptied t y) y.loan.request (to_open y)) ≡ fixed_of x t
  opened_fixed t y = states_fixed (λ r. Named y.loan.request false) x (with_emptied t y) (to_open y) ∙ emptied_fixed t y

  delivered_fixed : (t : HubTables) (y : Sending) (k : ℕ) (ws : List Way) → fixed_of x (with_delivered t y k ws) ≡ fixed_of x t
  delivered_fixed t y k ws =
      lanes_fixed (λ l. delivered l k) (λ l. refl) x (with_opened (with_emptied t y) y.loan.request (to_open y)) ws ∙ opened_fixed t y

  pub there_sent : (t : HubTables) (y : Sending) (k n : ℕ) → is_there t.ports n ≡ true → is_there (with_sent t y k).ports n ≡ true
  there_sent t y k n there = step (list_any y.fails (full_targets t y))
    where
      step : (b : Bool) → is_there (if b then with_emptied t y else with_delivered t y k (free_targets t y)).ports n ≡ true
      step true = there_by (with_emptied t y) t n (emptied_fixed t y) ∙ there
      step false = there_by (with_delivered t y k (free_targets t y)) t n (delivered_fixed t y k (free_targets t y)) ∙ there

  pub there_pushed : (t : HubTables) (y : Sending) (k n : ℕ) → is_there t.ports n ≡ true → is_there (with_pushed t y k).ports n ≡ true
  there_pushed t y k n there =
      there_by (with_pushed t y k) t n
      (lanes_fixed (pushed_lane k) (push_keeps k) x (with_opened (with_emptied t y) y.loan.request (to_open y)) (targets y) ∙ opened_fixed t y)
      ∙ there

-- ---- what is sent

module _ (x : Given) (t : HubTables) (h : HandleState) where
  abbrev s : m.State
  s = state_shown x t

  abbrev f : m.Fixed
  f = fixed_of x t

  abbrev mh : m.Handle
  mh = handle_shown x t h

  abbrev told : Outcome → m.State → Outcome × m.State
  told o u = (o, u)

  abbrev y : Sending
  y = copy_sending Client x t h

  abbrev z : Sending
  z = copy_sending Server x t h

  pub response_is : h.kind ≡ ResponseMut → role_in t.ports h.port ≡ Server
      → sent_of s mh true
      ≡ (if is_awaited s mh then (if t.settings.response_overflow then sent_over s z else sent s z) else told (Sends mh true 0) s)
  response_is kind server =
      ap (λ (b : Bool). if b then requested s mh true else responded s mh true) (ap is_request_loan kind)
      ∙ ap (λ (role : Role). if is_awaited s mh then (if overflow_of (limits_of x t) role then sent_over s z else sent s z) else told (Sends mh true 0) s) (role_is x t h.port ∙ server)

-- ---- how it ends

-- a loan and a call are counted
pub counted_is : (x : Given) (t : HubTables) (h : HandleState) → is_there t.ports h.port ≡ true
    → with_fixed (state_shown x t) (called (lent (fixed_of x t) h.port)) ≡ state_shown x (with_loan_call t h)
counted_is x t h there = ap (λ (u : m.State). with_fixed u (called u.fixed)) ((each_count_is_shown x t h.port).loans there)

-- a loan and two calls
pub twice_is : (x : Given) (t : HubTables) (h : HandleState) → is_there t.ports h.port ≡ true
    → with_fixed (state_shown x t) (called (called (lent (fixed_of x t) h.port))) ≡ state_shown x (with_call (with_loan_call t h))
twice_is x t h there = ap (λ (u : m.State). with_fixed u (called (called u.fixed))) ((each_count_is_shown x t h.port).loans there)

-- a sent request's pending response
pub request_end : (x : Given) (t : HubTables) (h : HandleState) (node count : ℕ) (ports : List _) → h.kind ≡ RequestMut → is_there ports h.port ≡ true
    → settled (state_shown x (record t { ports = ports })) node [] (Sends (handle_shown x t h) true count)
    ≡ state_shown x (with_call (with_loan_call (with_added (record t { ports = ports }) (pending_of h count)) h))
request_end x t h node count ports kind there =
    ap (λ (b : Bool). with_fixed S (called (called (lent (if b then added (numbered S.fixed h.node) (sent_handle mh count) else S.fixed) h.port)))) (ap is_request_loan kind)
    ∙ ap (λ k. with_fixed S (called (called (lent (added (numbered S.fixed h.node) k) h.port)))) (sent_is x t h count kind)
    ∙ ap (λ (u : m.State). with_fixed u (called (called (lent u.fixed h.port)))) (each_handle_is_shown x (record t { ports = ports }) (pending_of h count)).adds
    ∙ twice_is x (with_added (record t { ports = ports }) (pending_of h count)) h there
  where
    S : m.State
    S = state_shown x (record t { ports = ports })

    mh : m.Handle
    mh = handle_shown x t h

-- a sent response has no handle
pub response_end : (x x' : Given) (t u : HubTables) (h : HandleState) (node count : ℕ) → h.kind ≡ ResponseMut → is_there t.ports h.port ≡ true
    → settled (state_shown x t) node [] (Sends (handle_shown x' u h) true count) ≡ state_shown x (with_call (with_loan_call t h))
response_end x x' t u h node count kind there =
    ap (λ (b : Bool). with_fixed S (called (called (lent (if b then added (numbered S.fixed h.node) (sent_handle (handle_shown x' u h) count) else S.fixed) h.port)))) (ap is_request_loan kind)
    ∙ twice_is x t h there
  where
    S : m.State
    S = state_shown x t
