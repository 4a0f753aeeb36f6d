-- What the whole call of a send leaves on the ways.
use Rattle.std.specs.Prelude.{◌≡◌, ◌⊎◌, ℕ, ◌≤◌, Bool, true, false, not, ◌&&◌, ◌||◌, ◌==◌, if◌then◌else◌, List, [], ◌∷◌, ◌++◌, filter, length, map, Option, Some, None, refl}
use Rattle.std.specs.List.{list_any}
use Rattle.std.specs.Option.{option_map_or}
use Rattle.std.proofs.Common.{sym, ap, ap₂, subst, ◌∙◌, true≢false, inl, inr}
use Rattle.iox_model.specs.declared.call.Call.TheVariants.{Send}
use Rattle.iox_model.specs.declared.kind.Role.TheVariants.{Server}
use Rattle.iox_model.specs.declared.reply.Refusal.TheVariants.{UnknownNumber}
use Rattle.iox_model.specs.declared.reply.Reply.TheVariants as replies
use Rattle.iox_model.specs.declared.reply.Reply.TheVariants.{Done, Refused, Sent}
use Rattle.iox_model.specs.declared.way.RequestState.TheVariants.{Named}
use Rattle.iox_model.specs.declared.way.Way.{Way}
use Rattle.iox_model.specs.Begins.{begins_at, start}
use Rattle.iox_model.specs.Commands.{Call, Refusal, Reply}
use Rattle.iox_model.specs.Counts.{called, changed, dropped, sent_handle, with_fixed}
use Rattle.iox_model.specs.Doings.{Doing, refused, Drops, DropsPort, FailsToSend, Fills, Forgets, Loans, Outcome, Receives, Sends, Tells}
use Rattle.iox_model.specs.Ends.{is_nothing, sent_loan, settled}
use Rattle.iox_model.specs.Expiries.{disconnected, is_last_gone, released}
use Rattle.iox_model.specs.Handles.{Subject, TheHandle, is_request_loan, new_number, subject}
use Rattle.iox_model.specs.Loans.{Choice}
use Rattle.iox_model.specs.Maps.{AreDistinctWays, has_way}
use Rattle.iox_model.specs.Messages.{Message, request_way, response_way}
use Rattle.iox_model.specs.Moments.{Moment}
use Rattle.iox_model.specs.Names.{misnamed}
use Rattle.iox_model.specs.Peers.{buffer_on, is_connected_port, others}
use Rattle.iox_model.specs.Requests.{sending_of, targets, to_open}
use Rattle.iox_model.specs.Responses.{sends}
use Rattle.iox_model.specs.Runs.{IsReachableState}
use Rattle.iox_model.specs.States.{Handle, Port, State}
use Rattle.iox_model.specs.WholeCalls.{IsDone, IsWholeCall, UnlessRefused, left_by, moved_by, replied, sent_reply, spent}
use Rattle.iox_laws.specs.CallFunctions.Responses.{is_awaited}
use Rattle.iox_laws.proofs.ReplyLaws.Plainly.{known_port, servers_apart}
use Rattle.iox_laws.proofs.RunLaws.Bounded.{queues_rest_within}
use Rattle.iox_laws.proofs.WeaveLaws.MapLemmas.{either}
use Rattle.iox_laws.proofs.WeaveLedger.Truths.{by_cases}
use Rattle.iox_hub_laws.specs.Arrivals.{IsSentOn, newest, takes_more, with_last}
use Rattle.iox_hub_laws.proofs.Arrivals.{EndsSo, Fits, IsBrought, IsQuiet, IsRefusal, IsUnawaited, MayGo}
use Rattle.iox_hub_laws.proofs.Moments.{ended_fits, moments_fit}
use Rattle.iox_hub_laws.proofs.Phases.{sends_fits}

-- ---- ports that stay

none_left : (ps : List Port) (n : ℕ) → list_any (λ (p : Port). p.number == n) (filter (λ (p : Port). not (p.number == n)) ps) ≡ false
none_left [] n = refl
none_left (p ∷ ps) n = step (p.number == n) refl (none_left ps n)
  where
    step : (b : Bool) → (p.number == n) ≡ b → list_any (λ (q : Port). q.number == n) (filter (λ (q : Port). not (q.number == n)) ps) ≡ false
        → list_any (λ (q : Port). q.number == n) (if not b then p ∷ filter (λ (q : Port). not (q.number == n)) ps else filter (λ (q : Port). not (q.number == n)) ps) ≡ false
    step true e rest = rest
    step false e rest = ap (λ b. b || list_any (λ (q : Port). q.number == n) (filter (λ (q : Port). not (q.number == n)) ps)) e ∙ rest

-- what is waiting, and what request states say, is as it was
pub record StaysSo (s t : State) : Type 0 where
  pub waiting : (w : Way) → t.waiting w ≡ s.waiting w
  pub states : (w : Way) → t.request_state w ≡ s.request_state w

same_stays : (s : State) → StaysSo s s
same_stays s = record { waiting = λ w. refl; states = λ w. refl }

-- a port that is still connected did not disconnect
released_stays : (s : State) (port : ℕ) → is_connected_port (released s port).fixed port ≡ true → StaysSo s (released s port)
released_stays s port = step (is_last_gone s.fixed port)
  where
    step : (b : Bool) → is_connected_port (if b then disconnected s port else s).fixed port ≡ true
        → StaysSo s (if b then disconnected s port else s)
    step true e = absurd (true≢false (sym e ∙ none_left s.fixed.ports port))
    step false e = same_stays s

sent_stays : (s : State) (h : Handle) (count : ℕ) → (is_request_loan h.kind ≡ false → is_connected_port (sent_loan s h count).fixed h.port ≡ true)
    → StaysSo s (sent_loan s h count)
sent_stays s h count = step (is_request_loan h.kind) refl
  where
    step : (b : Bool) → is_request_loan h.kind ≡ b
        → (is_request_loan h.kind ≡ false
        → is_connected_port (if b then with_fixed s (changed s.fixed (sent_handle h count)) else released (with_fixed s (dropped s.fixed h)) h.port).fixed h.port ≡ true)
        → StaysSo s (if b then with_fixed s (changed s.fixed (sent_handle h count)) else released (with_fixed s (dropped s.fixed h)) h.port)
    step true is e = record { waiting = λ w. refl; states = λ w. refl }
    step false is e =
        let r : StaysSo (with_fixed s (dropped s.fixed h)) (released (with_fixed s (dropped s.fixed h)) h.port)
        = released_stays (with_fixed s (dropped s.fixed h)) h.port (e is) in
        record { waiting = r.waiting; states = r.states }

-- ---- the end of a send

module _ (z : State) (reached : IsReachableState z) (node : ℕ) (h : Handle) (known : is_connected_port z.fixed h.port ≡ true) (copied : Bool) where
  -- the ports that it goes to
  abbrev pub goes_to : List ℕ
  goes_to = if is_request_loan h.kind then others z.fixed h.node Server else h.client ∷ []

  -- the ways on which it goes
  abbrev pub goes_on : List Way
  goes_on = targets (sending_of z.fixed h copied goes_to)

  pub to_servers : is_request_loan h.kind ≡ true → goes_to ≡ others z.fixed h.node Server
  to_servers e = ap (λ (b : Bool). if b then others z.fixed h.node Server else h.client ∷ []) e

  pub to_client : is_request_loan h.kind ≡ false → goes_to ≡ h.client ∷ []
  to_client e = ap (λ (b : Bool). if b then others z.fixed h.node Server else h.client ∷ []) e

  pub apart : AreDistinctWays goes_on
  apart =
      either AreDistinctWays (is_request_loan h.kind) (map (request_way h.port) goes_to) (map (λ client. response_way client h.lane h.port) goes_to)
      (λ request. subst (λ ns. AreDistinctWays (map (request_way h.port) ns)) (sym (to_servers request)) (servers_apart z h reached))
      (λ response. subst (λ ns. AreDistinctWays (map (λ client. response_way client h.lane h.port) ns)) (sym (to_client response)) (refl, tt))

  pub within : (w : Way) → w.sender ≡ h.port → length (z.waiting w) ≤ buffer_on z.fixed w
  within w is = queues_rest_within z w reached (ap (is_connected_port z.fixed) is ∙ known)

  abbrev EndsHere : State → Outcome → Type 0
  EndsHere = EndsSo z node h copied goes_to

  -- what the send leaves in the end: the message on its ways, and its request states open
  pub record CameTo (t : State) : Type 0 where
    pub may : MayGo z node h copied goes_to
    pub sent : IsSentOn goes_on z h.message t
    pub opened : (w : Way) → has_way w (to_open (sending_of z.fixed h copied goes_to)) ≡ true → t.request_state w ≡ Named h.request false

  came_to : (s t : State) → IsBrought z node h copied goes_to s → StaysSo s t → CameTo t
  came_to s t b stays = record {
    may = b.may;
    sent = record {
      sent = λ w there.
          stays.waiting w ∙ b.waiting w
          ∙ ap (λ (b : Bool). if b && takes_more z w then newest (buffer_on z.fixed w) (z.waiting w ++ h.message ∷ []) else z.waiting w) there;
      others = λ w off.
          stays.waiting w ∙ b.waiting w
          ∙ ap (λ (b : Bool). if b && takes_more z w then newest (buffer_on z.fixed w) (z.waiting w ++ h.message ∷ []) else z.waiting w) off;
    };
    opened = λ w e. stays.states w ∙ b.states.opened w e refl;
  }

  quiet_stays : (s t : State) → IsQuiet z node h copied goes_to s → StaysSo s t → StaysSo z t
  quiet_stays s t q stays = record {
    waiting = λ w. stays.waiting w ∙ q.waiting w;
    states = λ w. stays.states w ∙ q.states w;
  }

  -- a response that is not awaited changes nothing
  pub record IsLeft (t : State) : Type 0 where
    pub response : is_request_loan h.kind ≡ false
    pub unawaited : is_awaited z h ≡ false
    pub stays : StaysSo z t

  -- what a send leaves
  abbrev pub LeavesSo : State → Reply → Type 0
  LeavesSo t reply = (IsRefusal reply × StaysSo z t) ⊎ ((IsRefusal reply → ⊥) × (CameTo t ⊎ IsLeft t))

  sends_stay : (s : State) (count : ℕ) (payload : List ℕ) (b : Bool)
      → (b ≡ false → is_request_loan h.kind ≡ false → is_connected_port (settled s node payload (Sends h b count)).fixed h.port ≡ true)
      → StaysSo s (settled s node payload (Sends h b count))
  sends_stay s count payload true e = record { waiting = λ w. refl; states = λ w. refl }
  sends_stay s count payload false e =
      let r : StaysSo s (sent_loan s h count) = sent_stays s h count (e refl) in record { waiting = r.waiting; states = r.states }

  fails_stay : (s : State) (r : Refusal) (payload : List ℕ) (b : Bool)
      → (b ≡ false → is_connected_port (settled s node payload (FailsToSend h b r)).fixed h.port ≡ true)
      → StaysSo s (settled s node payload (FailsToSend h b r))
  fails_stay s r payload true e = record { waiting = λ w. refl; states = λ w. refl }
  fails_stay s r payload false e =
      let k : StaysSo (with_fixed s (dropped s.fixed h)) (released (with_fixed s (dropped s.fixed h)) h.port)
      = released_stays (with_fixed s (dropped s.fixed h)) h.port (e refl) in
      record { waiting = k.waiting; states = k.states }

  no_refusal : (count : ℕ) (b : Bool) → IsRefusal (sent_reply z.fixed node h b count) → ⊥
  no_refusal count b =
      either (λ (r : Reply). IsRefusal r → ⊥) (is_request_loan h.kind) (if b then replies.Handle (new_number z.fixed node) else Sent count) Done
      (λ u. either (λ (r : Reply). IsRefusal r → ⊥) b (replies.Handle (new_number z.fixed node)) (Sent count) (λ v q. q) (λ v q. q)) (λ u q. q)

  -- Its port is still connected, where the end of its loan could be the end of its port: where it is
  -- no copy, and a response or refused.
  abbrev pub IsStillThere : State → Reply → Type 0
  IsStillThere t reply = copied ≡ false → (is_request_loan h.kind ≡ true → IsRefusal reply) → is_connected_port t.fixed h.port ≡ true

  end_leaves : (s t : State) (o : Outcome) (payload : List ℕ) (reply : Reply) → EndsHere s o → reply ≡ replied z.fixed node o
      → t ≡ settled s node payload o → IsStillThere t reply → LeavesSo t reply
  end_leaves s t (Sends l c count) payload reply p answer is there =
      let same : Sends l c count ≡ Sends h copied count = ap₂ (λ (k : Handle) (b : Bool). Sends k b count) p.0 p.1 in
      let now : t ≡ settled s node payload (Sends h copied count) = is ∙ ap (settled s node payload) same in
      let stays : StaysSo s t
      = subst (StaysSo s) (sym now) (sends_stay s count payload copied
      (λ c response. ap (λ (u : State). is_connected_port u.fixed h.port) (sym now) ∙ there c (λ request. absurd (true≢false (sym request ∙ response))))) in
      inr (
        λ r. no_refusal count copied (subst IsRefusal (answer ∙ ap (replied z.fixed node) same) r),
        ends p.2 stays,
      )
    where
      ends : IsBrought z node h copied goes_to s ⊎ IsUnawaited z node h copied goes_to s → StaysSo s t → CameTo t ⊎ IsLeft t
      ends (inl b) stays = inl (came_to s t b stays)
      ends (inr u) stays = inr (record { response = u.response; unawaited = u.unawaited; stays = quiet_stays s t u.quiet stays })
  end_leaves s t (FailsToSend l c r) payload reply p answer is there =
      let now : t ≡ settled s node payload (FailsToSend h copied r)
      = is ∙ ap (settled s node payload) (ap₂ (λ (k : Handle) (b : Bool). FailsToSend k b r) p.0 p.1) in
      inl (
        subst IsRefusal (sym answer) tt,
        quiet_stays s t p.2
            (subst (StaysSo s) (sym now) (fails_stay s r payload copied
            (λ c. ap (λ (u : State). is_connected_port u.fixed h.port) (sym now) ∙ there c (λ request. subst IsRefusal (sym answer) tt)))),
      )
  end_leaves s t (Tells told) payload reply p answer is there =
      inl (
        subst IsRefusal (sym answer) p.1,
        quiet_stays s t p.0
            (subst (StaysSo s) (sym is)
            (either (StaysSo s) (is_nothing told) (with_fixed s (called s.fixed)) s
            (λ u. record { waiting = λ w. refl; states = λ w. refl }) (λ u. same_stays s))),
      )
  end_leaves s t o payload reply p answer is there = absurd p

  pub unless_leaves : (r : Option Refusal) (t : State) (reply : Reply) (P : Type 0) → (P → LeavesSo t reply) → UnlessRefused r z reply t P → LeavesSo t reply
  unless_leaves (Some r) t reply P goes u = inl (subst IsRefusal (sym u.0) tt, subst (StaysSo z) (sym u.1) (same_stays z))
  unless_leaves None t reply P goes u = goes u

  pub starts_quiet : IsQuiet z node h copied goes_to z
  starts_quiet = record { fixed = refl; waiting = λ w. refl; states = λ w. refl }

  -- What a call leaves that is a send of this loan.
  pub done_leaves : (t : State) (call : Call) (reply : Reply) (done : IsDone z node call reply t)
      → Fits z node h copied goes_to z (start z node done.0 call) → IsStillThere t reply → LeavesSo t reply
  done_leaves t call reply done fits there =
      let ms : List Moment = done.2 in
      let d : Doing = start z node done.0 call in
      end_leaves (moved_by z ms) t done.4 done.6 reply
      (ended_fits z node h copied goes_to to_servers to_client apart within (moved_by z ms) (left_by z node d ms) done.4
      (moments_fit z node h copied goes_to to_servers to_client apart within z d ms done.3 fits) done.5)
      done.8 done.9 there

-- What the send of a loan leaves.
pub send_leaves : (z : State) (reached : IsReachableState z) (node n : ℕ) (h : Handle) (named : subject z.fixed node n ≡ Some (TheHandle h))
    (t : State) (reply : Reply) → IsWholeCall z node (Send n) reply t
    → IsStillThere z reached node h (known_port z node n h reached named) false t reply → LeavesSo z reached node h (known_port z node n h reached named) false t reply
send_leaves z reached node n h named t reply whole there =
    let known : is_connected_port z.fixed h.port ≡ true = known_port z node n h reached named in
    let P : Type 0 = IsDone z node (Send n) reply t in
    unless_leaves z reached node h known false (misnamed z.fixed node (Send n)) t reply (UnlessRefused (spent z.fixed (Send n)) z reply t P)
    (unless_leaves z reached node h known false (spent z.fixed (Send n)) t reply P
    (λ done. done_leaves z reached node h known false t (Send n) reply done
    (subst (Fits z node h false (goes_to z reached node h known false) z)
    (sym (ap (λ (o : Option Subject). option_map_or (begins_at z done.0 (Send n)) o (refused UnknownNumber)) named))
    (sends_fits z node h false (goes_to z reached node h known false) (to_servers z reached node h known false) (to_client z reached node h known false)
    (apart z reached node h known false) (within z reached node h known false) z (starts_quiet z reached node h known false))) there))
    whole
