-- A loaned response that is sent leaves each request open where it was, if its server is not released.
use Rattle.std.specs.Prelude.{◌≡◌, ◌⊎◌, ℕ, Bool, true, false, ◌&&◌, if◌then◌else◌, List, [], map, Option, None, Some, refl}
use Rattle.std.specs.Option.{option_map_or}
use Rattle.std.proofs.Common.{sym, ap, ap₂, subst, ◌∙◌, inl, inr, true≢false}
use Rattle.iox_model.specs.declared.call.Call.TheVariants.{Send}
use Rattle.iox_model.specs.declared.kind.Kind.TheVariants.{ResponseMut, Server}
use Rattle.iox_model.specs.declared.reply.Refusal.TheVariants.{UnknownNumber}
use Rattle.iox_model.specs.declared.way.RequestState.{RequestState}
use Rattle.iox_model.specs.declared.way.Way.{Way}
use Rattle.iox_model.specs.Begins.{begins_at, start}
use Rattle.iox_model.specs.Commands.{Refusal, Reply}
use Rattle.iox_model.specs.Counts.{called, changed, dropped, sent_handle, with_fixed}
use Rattle.iox_model.specs.Doings.{refused, Doing, FailsToSend, Outcome, Sends, Tells}
use Rattle.iox_model.specs.Ends.{is_nothing, sent_loan, settled}
use Rattle.iox_model.specs.Expiries.{disconnected, is_last_gone, released}
use Rattle.iox_model.specs.Handles.{Subject, TheHandle, is_received, is_request_loan, subject}
use Rattle.iox_model.specs.Maps.{has_number, has_way}
use Rattle.iox_model.specs.Messages.{names, response_way}
use Rattle.iox_model.specs.Moments.{Moment}
use Rattle.iox_model.specs.Names.{misnamed}
use Rattle.iox_model.specs.Peers.{is_connected_port}
use Rattle.iox_model.specs.Runs.{IsReachableState}
use Rattle.iox_model.specs.States as m
use Rattle.iox_model.specs.WholeCalls.{IsDone, IsWholeCall, UnlessRefused, left_by, moved_by, spent}
use Rattle.iox_laws.proofs.ReplyLaws.Plainly.{known_port}
use Rattle.iox_laws.proofs.WeaveLaws.MapLemmas.{either}
use Rattle.iox_laws.proofs.WeaveLaws.WholeLemmas.{moved_by-fixed}
use Rattle.iox_tables.specs.HubStates.States.{Given}
use Rattle.iox_tables.proofs.HubStates.Naming.{each_handle_is_named}
use Rattle.iox_tables.proofs.HubStates.Steps.{connected_is}
use Rattle.iox_hub_laws.specs.Hubs.{HasValue, HubState, IsHub, given_by, state_of_hub}
use Rattle.iox_hub_laws.specs.Keeping.{KeepsOthers}
use Rattle.iox_hub_laws.specs.Shown.{handle_of}
use Rattle.iox_hub_laws.proofs.Arrivals.{EndsSo, Fits, IsBrought, IsUnawaited}
use Rattle.iox_hub_laws.proofs.Brought.{apart, goes_to, starts_quiet, to_client, to_servers, within}
use Rattle.iox_hub_laws.proofs.Moments.{ended_fits, moments_fit}
use Rattle.iox_hub_laws.proofs.Phases.{sends_fits}
use Rattle.iox_hub_laws.proofs.Values.{IsHandleOf}
use Rattle.iceoryx2_ports.specs.Asking.{KeepsOpen}
use Rattle.iceoryx2_ports.specs.Opens.{ClosesNone}
use Rattle.iceoryx2_ports.specs.Responses.{answerer_in}
use Rattle.iceoryx2_ports.proofs.Answering.{connected, loan, none_left}
use Rattle.iceoryx2_ports.proofs.Opening.{StaysOpen, same_clients}
use Rattle.iceoryx2_ports.proofs.Remaining.{spared_requests}

-- a port that is still connected did not disconnect
released_stays : (s : m.State) (port : ℕ) → is_connected_port (released s port).fixed port ≡ true → StaysOpen s (released s port)
released_stays s port = step (is_last_gone s.fixed port)
  where
    step : (b : Bool) → is_connected_port (if b then disconnected s port else s).fixed port ≡ true → StaysOpen s (if b then disconnected s port else s)
    step true e = absurd (true≢false (sym e ∙ none_left s.fixed.ports port))
    step false e = record { states = λ w. refl; ports = refl }

module _ (z : m.State) (reached : IsReachableState z) (node n : ℕ) (h : m.Handle) (named : subject z.fixed node n ≡ Some (TheHandle h))
    (response : is_request_loan h.kind ≡ false) (t : m.State) (there : is_connected_port t.fixed h.port ≡ true) (reply : Reply) where
  abbrev known : is_connected_port z.fixed h.port ≡ true
  known = known_port z node n h reached named

  abbrev to : List ℕ
  to = goes_to z reached node h known false

  abbrev Fit : m.State → Doing → Type 0
  Fit = Fits z node h false to

  -- what was brought to its ways opened nothing
  brought : (s : m.State) → IsBrought z node h false to s ⊎ IsUnawaited z node h false to s → (w : Way) → s.request_state w ≡ z.request_state w
  brought s (inl b) w = b.states.closed w (ap (λ (c : Bool). has_way w (if c then map (response_way h.port h.lane) to else [])) response)
  brought s (inr b) w = b.quiet.states w

  -- the loan is gone, and its port is there
  dropped_stays : (s : m.State) → is_connected_port (released (with_fixed s (dropped s.fixed h)) h.port).fixed h.port ≡ true
      → StaysOpen s (released (with_fixed s (dropped s.fixed h)) h.port)
  dropped_stays s e =
      let r : StaysOpen (with_fixed s (dropped s.fixed h)) (released (with_fixed s (dropped s.fixed h)) h.port)
      = released_stays (with_fixed s (dropped s.fixed h)) h.port e in
      record { states = r.states; ports = r.ports }

  loan_stays : (s : m.State) (count : ℕ) → is_connected_port (sent_loan s h count).fixed h.port ≡ true → StaysOpen s (sent_loan s h count)
  loan_stays s count =
      either (λ (u : m.State). is_connected_port u.fixed h.port ≡ true → StaysOpen s u) (is_request_loan h.kind)
      (with_fixed s (changed s.fixed (sent_handle h count))) (released (with_fixed s (dropped s.fixed h)) h.port)
      (λ request. absurd (true≢false (sym request ∙ response)))
      (λ u e. dropped_stays s e)

  -- first the moments, then the end
  both_stay : (s v : m.State) → s.fixed ≡ z.fixed → ((w : Way) → s.request_state w ≡ z.request_state w) → StaysOpen s v → StaysOpen z v
  both_stay s v same states r =
      record { states = λ w. r.states w ∙ states w; ports = r.ports ∙ ap (λ (f : m.Fixed). f.ports) same }

  end_stays : (s : m.State) (o : Outcome) (payload : List ℕ) → s.fixed ≡ z.fixed → EndsSo z node h false to s o → t ≡ settled s node payload o → StaysOpen z t
  end_stays s (Sends l c count) payload same p is =
      let now : t ≡ settled s node payload (Sends h false count)
      = is ∙ ap (settled s node payload) (ap₂ (λ (k : m.Handle) (b : Bool). Sends k b count) p.0 p.1) in
      let r : StaysOpen s (sent_loan s h count) = loan_stays s count (ap (λ (u : m.State). is_connected_port u.fixed h.port) (sym now) ∙ there) in
      subst (StaysOpen z) (sym now)
      (both_stay s (settled s node payload (Sends h false count)) same (brought s p.2) (record { states = r.states; ports = r.ports }))
  end_stays s (FailsToSend l c r) payload same p is =
      let now : t ≡ settled s node payload (FailsToSend h false r)
      = is ∙ ap (settled s node payload) (ap₂ (λ (k : m.Handle) (b : Bool). FailsToSend k b r) p.0 p.1) in
      subst (StaysOpen z) (sym now)
      (both_stay s (settled s node payload (FailsToSend h false r)) same p.2.states
      (dropped_stays s (ap (λ (u : m.State). is_connected_port u.fixed h.port) (sym now) ∙ there)))
  end_stays s (Tells told) payload same p is =
      subst (StaysOpen z) (sym is)
      (both_stay s (settled s node payload (Tells told)) same p.0.states
      (either (StaysOpen s) (is_nothing told) (with_fixed s (called s.fixed)) s (λ u. record { states = λ w. refl; ports = refl })
      (λ u. record { states = λ w. refl; ports = refl })))
  end_stays s o payload same p is = absurd p

  done_stays : IsDone z node (Send n) reply t → StaysOpen z t
  done_stays done =
      let ms : List Moment = done.2 in
      let d : Doing = start z node done.0 (Send n) in
      let begins : Fit z d =
      subst (Fit z) (sym (ap (λ (o : Option Subject). option_map_or (begins_at z done.0 (Send n)) o (refused UnknownNumber)) named))
      (sends_fits z node h false to (to_servers z reached node h known false) (to_client z reached node h known false)
      (apart z reached node h known false) (within z reached node h known false) z (starts_quiet z reached node h known false)) in
      end_stays (moved_by z ms) done.4 done.6 (moved_by-fixed z ms)
      (ended_fits z node h false to (to_servers z reached node h known false) (to_client z reached node h known false)
      (apart z reached node h known false) (within z reached node h known false) (moved_by z ms) (left_by z node d ms) done.4
      (moments_fit z node h false to (to_servers z reached node h known false) (to_client z reached node h known false)
      (apart z reached node h known false) (within z reached node h known false) z d ms done.3 begins) done.5)
      done.9

  unless_stays : (q : Option Refusal) (P : Type 0) → (P → StaysOpen z t) → UnlessRefused q z reply t P → StaysOpen z t
  unless_stays (Some r) P f p = subst (StaysOpen z) (sym p.1) (record { states = λ w. refl; ports = refl })
  unless_stays None P f p = f p

  send_stays : IsWholeCall z node (Send n) reply t → StaysOpen z t
  send_stays =
      unless_stays (misnamed z.fixed node (Send n)) (UnlessRefused (spent z.fixed (Send n)) z reply t (IsDone z node (Send n) reply t))
      (unless_stays (spent z.fixed (Send n)) (IsDone z node (Send n) reply t) done_stays)

-- ---- of a hub

module _ (old new : HubState) (hub : IsHub old) (after : IsHub new) (node n : ℕ) (reply : Reply) (has : HasValue old node n ResponseMut)
    (whole : (x : Given) → IsWholeCall (state_of_hub x old) node (Send n) reply (state_of_hub x new)) (keeps : KeepsOthers old node n new) where
  abbrev x : Given
  x = hub.reached.0

  abbrev its : IsHandleOf old.control.tables node n ResponseMut
  its = loan old new after node n has keeps

  module _ (owner : ℕ) (is : HasValue old owner (answerer_in old node n) Server) where
    r : StaysOpen (state_of_hub x old) (state_of_hub x new)
    r =
        send_stays (state_of_hub x old) hub.reached.1 node n (handle_of old its.handle)
        (each_handle_is_named (given_by x old) old.control.tables node n its.handle its.named).names (ap is_request_loan its.kind_is) (state_of_hub x new)
        (connected_is (given_by x new) new.control.tables.ports its.handle.port ∙ connected old new after node n has keeps owner is) reply (whole x)

    stay : KeepsOpen old new
    stay asker server =
        ap₂ (λ (ns : List ℕ) (q : RequestState). has_number asker.port ns && names q asker.request) (same_clients old new r.ports)
        (r.states (response_way asker.port asker.lane server))

  -- A loaned response that is sent closes no request.
  pub send_closes_none : ClosesNone old node n new
  send_closes_none owner is =
      spared_requests old new (stay owner is) node (Send n) reply whole refl ResponseMut (λ same. true≢false (ap is_received (sym same))) has
