-- Releases of handles are the machine's, up to the disconnection of their port.
use Rattle.std.specs.Prelude.{◌≡◌, ℕ, ◌-◌, Bool, true, false, if◌then◌else◌, List, [], ◌∷◌, map, Option, None, refl}
use Rattle.std.proofs.Common.{sym, ap, ap₂, ◌∙◌, inl, inr}
use Rattle.iox_model.specs.declared.kind.Kind.TheVariants.{ActiveRequest, PendingResponse, Response}
use Rattle.iox_model.specs.declared.kind.Role.TheVariants.{Server}
use Rattle.iox_model.specs.declared.call.Call.TheVariants.{Release}
use Rattle.iox_model.specs.declared.reply.Reply.TheVariants.{Done}
use Rattle.iox_model.specs.declared.way.Way.{Way}
use Rattle.iox_model.specs.Commands.{Refusal, Reply}
use Rattle.iox_model.specs.Counts.{dropped, gives_up, with_fixed}
use Rattle.iox_model.specs.Expiries.{released}
use Rattle.iox_model.specs.Handles.{Subject, is_received, own_state, same_kind, subject, way_of}
use Rattle.iox_model.specs.Maps.{put}
use Rattle.iox_model.specs.Messages.{closed_for, response_way}
use Rattle.iox_model.specs.Moments.{moved, GiveBack}
use Rattle.iox_model.specs.Peers.{forgot_port, others}
use Rattle.iox_model.specs.Releases.{states_of}
use Rattle.iox_model.specs.States as m
use Rattle.iox_laws.proofs.WeaveLaws.MapLemmas.{nobody_is_forgotten, others_are_all}
use Rattle.iox_laws.specs.CallFunctions.Answers.{answered, unless}
use Rattle.iox_laws.specs.CallFunctions.Releases.{closed_at, given_back_by, left_by_handle, released_by, released_from, returned_by}
use Rattle.iox_lanes.specs.Lanes.{LaneState, is_taken}
use Rattle.iox_lanes.specs.Lanes as lanes
use Rattle.iox_tables.specs.HubStates.Tables.{HandleState, HubTables}
use Rattle.iox_tables.specs.HubStates.Ways.{lane_on, state_on}
use Rattle.iox_tables.specs.HubStates.Shown.{borrowed_in, shown}
use Rattle.iox_tables.specs.HubStates.States.{Given, fixed_of, message_of, state_shown}
use Rattle.iox_tables.specs.HubStates.Changes.{with_states}
use Rattle.iox_tables.specs.HubStates.Ends.{borrows_less, with_dropped}
use Rattle.iox_tables.specs.HubStates.Releases.{IsHeldOn, LoansAreReleased, PendingsAreReleased, RequestsAreReleased, ResponsesAreReleased, handle_shown, pending_states, request_of, with_given_back, with_pending_released, with_request_closed}
use Rattle.iox_tables.specs.HubStates.Wirings.{IsHandle}
use Rattle.iox_tables.proofs.HubStates.Ends.{each_handle_is_shown}
use Rattle.iox_tables.proofs.HubStates.Fixing.{roles_are}
use Rattle.iox_tables.proofs.HubStates.GiveBacks.{each_give_back_is_shown, one_lane_shown}
use Rattle.iox_tables.proofs.HubStates.Moments.{at_none}
use Rattle.iox_tables.proofs.HubStates.Naming.{each_handle_is_named, handle_node, handle_number}
use Rattle.iox_tables.proofs.HubStates.Steps.{closes_are_shown, states_fixed}

module _ (x : Given) (t : HubTables) (node n : ℕ) (h : HandleState) (is : IsHandle t node n h) where
  abbrev s : m.State
  s = state_shown x t

  abbrev f : m.Fixed
  f = fixed_of x t

  abbrev mh : m.Handle
  mh = handle_shown x t h

  abbrev tells : Reply → m.State → Reply × m.State
  tells r u = (r, u)

  -- the call, of what the number names
  released_is : released_by s node n ≡ tells Done (released (with_fixed (left_by_handle s mh) (gives_up (dropped (left_by_handle s mh).fixed mh) mh)) h.port)
  released_is =
      ap (λ (o : Option Refusal). unless o s (unless None s (answered s node (released_from s (subject f node n))))) ((each_handle_is_named x t node n h is).refused (Release n) refl)
      ∙ ap (λ (o : Option Subject). answered s node (released_from s o)) (each_handle_is_named x t node n h is).names

  -- a handle that is dropped, of any tables with these messages
  pub drop_is : (ports : List _) → with_fixed (state_shown x (record t { ports = ports })) (dropped (fixed_of x (record t { ports = ports })) mh) ≡ state_shown x (with_dropped (record t { ports = ports }) node n)
  drop_is ports =
      (each_handle_is_shown x (record t { ports = ports }) h).drops
      ∙ ap₂ (λ k j. state_shown x (with_dropped (record t { ports = ports }) k j)) (handle_node t.handles node n h is.there) (handle_number t.handles node n h is.there)

  -- ---- loans

  pub loan_released : is_received h.kind ≡ false → same_kind h.kind PendingResponse ≡ false
      → released_by s node n ≡ tells Done (released (state_shown x (with_dropped t node n)) h.port)
  loan_released own sent =
      released_is
      ∙ ap₂ (λ (b c : Bool). tells Done (released (with_fixed (left b c) (less b (dropped (left b c).fixed mh))) h.port)) own sent
      ∙ ap (λ u. tells Done (released u h.port)) (drop_is t.ports)
    where
      left : Bool → Bool → m.State
      left b c =
          if b then (if forgot_port f h.node (way_of mh).sender then s else returned_by s mh)
          else (if c then closed_at s mh.request (states_of f mh) else s)

      less : Bool → m.Fixed → m.Fixed
      less b g = if b then record g { borrowed = put g.borrowed (way_of mh) (g.borrowed (way_of mh) - 1) } else g

  -- ---- pending responses

  pub states_are : h.kind ≡ PendingResponse → states_of f mh ≡ pending_states t h
  states_are kind =
      ap (λ (b : Bool). if b then map (response_way h.port mh.lane) (others f h.node Server) else states_of f (record mh { kind = ActiveRequest })) (ap (λ k. same_kind k PendingResponse) kind)
      ∙ ap (map (response_way h.port mh.lane)) (others_are_all f h.node Server refl ∙ roles_are x t.ports Server)

  pub pending_released : h.kind ≡ PendingResponse → released_by s node n ≡ tells Done (released (state_shown x (with_pending_released t node n h)) h.port)
  pending_released kind =
      released_is
      ∙ ap₂ (λ (b c : Bool). tells Done (released (with_fixed (left b c) (less b (dropped (left b c).fixed mh))) h.port)) (ap is_received kind) (ap (λ k. same_kind k PendingResponse) kind)
      ∙ ap (λ u. tells Done (released (with_fixed u (dropped u.fixed mh)) h.port))
      (ap (closed_at s mh.request) (states_are kind) ∙ sym (closes_are_shown x t (request_of t h) (pending_states t h)))
      ∙ ap (λ u. tells Done (released u h.port)) (drop_is (with_states (λ r. closed_for r (request_of t h)) t (pending_states t h)).ports)
    where
      left : Bool → Bool → m.State
      left b c =
          if b then (if forgot_port f h.node (way_of mh).sender then s else returned_by s mh)
          else (if c then closed_at s mh.request (states_of f mh) else s)

      less : Bool → m.Fixed → m.Fixed
      less b g = if b then record g { borrowed = put g.borrowed (way_of mh) (g.borrowed (way_of mh) - 1) } else g

  -- ---- what was received

  abbrev w : Way
  w = way_of mh

  unchanged : lane_on t.ports w ≡ None → state_shown x (with_given_back t w h) ≡ s
  unchanged none =
      let same = at_none (λ l. lanes.released l h.slot) (lane_on t.ports) w none in
      one_lane_shown (λ l. lanes.released l h.slot) x t w f.borrowed (ap borrowed_in same)
      ∙ ap (λ on. shown x.members f (message_of x t.pools) on (state_on t.ports)) same

  back_is : IsHeldOn t w h → with_fixed (moved s (GiveBack w mh.message.serial)) (borrows_less f w) ≡ state_shown x (with_given_back t w h)
  back_is (inl q) =
      (each_give_back_is_shown x t w mh.message.serial).there q.0 h.slot q.1 q.3 (ap (λ p. (message_of x t.pools p h.slot).serial) q.2)
  back_is (inr q) = (each_give_back_is_shown x t w mh.message.serial).gone q.0 q.1 ∙ sym (unchanged q.0)

  -- the state before the handle ends, by what it is of
  abbrev left_received : Bool → Bool → m.State
  left_received forgot active =
      if forgot then s
      else (if active then closed_at (given_back_by s mh) mh.request (own_state mh ∷ []) else given_back_by s mh)

  abbrev ended : m.State → m.State
  ended u = with_fixed u (record (dropped u.fixed mh) { borrowed = put u.fixed.borrowed w (u.fixed.borrowed w - 1) })

  received_released : is_received h.kind ≡ true → released_by s node n ≡ tells Done (released (ended (left_received (forgot_port f h.node w.sender) (same_kind h.kind ActiveRequest))) h.port)
  received_released received =
      released_is
      ∙ ap (λ (b : Bool). tells Done (released (with_fixed (left b) (less b (dropped (left b).fixed mh))) h.port)) received
    where
      left : Bool → m.State
      left b =
          if b then left_received (forgot_port f h.node w.sender) (same_kind h.kind ActiveRequest)
          else (if same_kind h.kind PendingResponse then closed_at s mh.request (states_of f mh) else s)

      less : Bool → m.Fixed → m.Fixed
      less b g = if b then record g { borrowed = put g.borrowed w (g.borrowed w - 1) } else g

  pub response_released : h.kind ≡ Response → IsHeldOn t w h
      → released_by s node n ≡ tells Done (released (state_shown x (with_dropped (with_given_back t w h) node n)) h.port)
  response_released kind held =
      received_released (ap is_received kind)
      ∙ ap₂ (λ (b c : Bool). tells Done (released (ended (left_received b c)) h.port)) (nobody_is_forgotten f h.node w.sender refl) (ap (λ k. same_kind k ActiveRequest) kind)
      ∙ ap (λ u. tells Done (released (with_fixed u (dropped u.fixed mh)) h.port)) (back_is held)
      ∙ ap (λ u. tells Done (released u h.port)) (drop_is (with_given_back t w h).ports)

  pub request_released : h.kind ≡ ActiveRequest → IsHeldOn t w h
      → released_by s node n ≡ tells Done (released (state_shown x (with_dropped (with_request_closed t w (own_state mh) h) node n)) h.port)
  request_released kind held =
      let t1 : HubTables = with_given_back t w h in
      let t2 : HubTables = with_request_closed t w (own_state mh) h in
      received_released (ap is_received kind)
      ∙ ap₂ (λ (b c : Bool). tells Done (released (ended (left_received b c)) h.port)) (nobody_is_forgotten f h.node w.sender refl) (ap (λ k. same_kind k ActiveRequest) kind)
      ∙ ap (λ u. tells Done (released (with_fixed (closed_at u mh.request (own_state mh ∷ [])) (dropped u.fixed mh)) h.port)) (back_is held)
      ∙ ap₂ (λ (u : m.State) (g : m.Fixed). tells Done (released (with_fixed u (dropped g mh)) h.port))
      (sym (closes_are_shown x t1 (request_of t h) (own_state mh ∷ []))) (sym (states_fixed (λ r. closed_for r (request_of t h)) x t1 (own_state mh ∷ [])))
      ∙ ap (λ u. tells Done (released u h.port)) (drop_is t2.ports)

pub loans_are_released : LoansAreReleased
loans_are_released x t node n h is own sent = loan_released x t node n h is own sent

pub pendings_are_released : PendingsAreReleased
pendings_are_released x t node n h is kind = pending_released x t node n h is kind

pub responses_are_released : ResponsesAreReleased
responses_are_released x t node n h is kind held = response_released x t node n h is kind held

pub requests_are_released : RequestsAreReleased
requests_are_released x t node n h is kind held = request_released x t node n h is kind held
