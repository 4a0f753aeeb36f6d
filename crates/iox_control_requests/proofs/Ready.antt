-- The lanes of a loaned request can take it, once its client got all back.
use Rattle.std.specs.Prelude.{◌≡◌, ℕ, ◌≤◌, Bool, true, ◌||◌, if◌then◌else◌, List, [], ◌∷◌, map, Some, refl}
use Rattle.std.specs.Option.{option_map_or}
use Rattle.std.proofs.Common.{sym, ap, subst, ◌∙◌, arith}
use Rattle.std.proofs.lemmas.Option.{same_Some}
use Rattle.iox_model.specs.declared.kind.Kind.TheVariants.{PendingResponse, Response}
use Rattle.iox_model.specs.declared.kind.Role.TheVariants.{Client, Server}
use Rattle.iox_model.specs.declared.way.Way.{Way}
use Rattle.iox_model.specs.Handles.{is_request_loan, same_kind}
use Rattle.iox_model.specs.Messages.{request_way, response_way}
use Rattle.iox_lanes.specs.Lanes.{LaneState}
use Rattle.iox_tables.specs.HubStates.Changes.{OnEach}
use Rattle.iox_tables.specs.HubStates.Steps.{IsOpenToNew}
use Rattle.iox_tables.specs.HubStates.Tables.{HandleState, HubTables, PortState}
use Rattle.iox_tables.specs.HubStates.Ways.{lane_on}
use Rattle.iox_tables.specs.HubStates.Releases.{lane_of}
use Rattle.iox_tables.specs.HubStates.Wirings.{IsHandle, buffer_from, numbers_of_role, role_in}
use Rattle.iox_tables.specs.HubBooks.Handles.{IsOfPort}
use Rattle.iox_tables.specs.HubBooks.Hubs.{AreInOrder}
use Rattle.iox_tables.proofs.HubBooks.Eachs.{lane_is}
use Rattle.iox_tables.proofs.HubBooks.Sendable.{requests_may_be_sent}
use Rattle.iox_tables.proofs.HubBooks.Used.{handle_is}
use Rattle.iox_tables.specs.HubMaking.Worked.{at_first}
use Rattle.iox_control.specs.Controls.{AreCounted}
use Rattle.iox_control_requests.specs.Deliveries.{CanTake}
use Rattle.iox_control_requests.specs.Servers.{request_ways}

-- the port of a loaned request is a client
pub its_client : (t : HubTables) (node n : ℕ) (h : HandleState) → AreInOrder t → IsHandle t node n h → is_request_loan h.kind ≡ true
    → (p : PortState) × (IsOfPort t h) × (role_in t.ports h.port ≡ Client)
its_client t node n h order named kind =
    let its : IsOfPort t h = handle_is (IsOfPort t) t.handles node n h order.ports named.there in (
      its.port,
      its,
      ap (λ o. option_map_or (λ (q : PortState). q.role) o Client) its.there ∙ its.role
          ∙ ap (λ (b : Bool). if b || (same_kind h.kind PendingResponse || same_kind h.kind Response) then Client else Server) kind,
    )

-- each of its ways has a lane, which may take it
pub ways_open : (t : HubTables) (node n : ℕ) (h : HandleState) → AreInOrder t → IsHandle t node n h → is_request_loan h.kind ≡ true
    → OnEach (IsOpenToNew at_first t h.pool h.slot) (lane_on t.ports) (request_ways h.port t.ports)
ways_open t node n h order named kind =
    subst (OnEach (IsOpenToNew at_first t h.pool h.slot) (lane_on t.ports))
    (ap
    (λ (b : Bool). if b then map (request_way h.port) (numbers_of_role Server t.ports) else map (λ client. response_way client (lane_of t h) h.port) (numbers_of_role Server t.ports))
    kind)
    ((requests_may_be_sent at_first t node n h order named kind).lanes)

module _ (t : HubTables) (node n : ℕ) (h : HandleState) (order : AreInOrder t) (named : IsHandle t node n h) (kind : is_request_loan h.kind ≡ true)
    (counted : AreCounted t) (active : 1 ≤ t.settings.active_requests) where
  takes : (w : Way) → w.sender ≡ h.port → (l m : LaneState) → lane_on t.ports w ≡ Some l → IsOpenToNew at_first t h.pool h.slot w l
      → lane_on t.ports w ≡ Some m → m.returned ≡ [] → CanTake h.pool l
  takes w from l m at way_open it none = record {
    of_pool = way_open.open_to.of_pool;
    buffer =
        let buffer : l.buffer ≡ t.settings.active_requests =
        way_open.open_to.buffer ∙ ap (λ k. buffer_from t.settings (role_in t.ports k)) from ∙ ap (buffer_from t.settings) (its_client t node n h order named kind).2 in
        omega (arith, buffer, active);
    returned = ap (λ (x : LaneState). x.returned) (same_Some l m (sym at ∙ it)) ∙ none;
    deliveries =
        let low : l.deliveries ≤ t.calls = lane_is (λ x. x.deliveries ≤ t.calls) t.ports w l counted.deliveries at in
        let calls = counted.calls in
        omega (arith, low, calls);
  }

  each_takes : (ns : List ℕ) → OnEach (IsOpenToNew at_first t h.pool h.slot) (lane_on t.ports) (map (request_way h.port) ns)
      → OnEach (λ w l. l.returned ≡ []) (lane_on t.ports) (map (request_way h.port) ns)
      → OnEach (λ w l. CanTake h.pool l) (lane_on t.ports) (map (request_way h.port) ns)
  each_takes [] ways none = tt
  each_takes (k ∷ ks) ways none = (
    (ways.0.0, ways.0.1, takes (request_way h.port k) refl ways.0.0 none.0.0 ways.0.1 ways.0.2 none.0.1 none.0.2),
    each_takes ks ways.1 none.1,
  )

  pub can_take_all : OnEach (λ w l. l.returned ≡ []) (lane_on t.ports) (request_ways h.port t.ports)
      → OnEach (λ w l. CanTake h.pool l) (lane_on t.ports) (request_ways h.port t.ports)
  can_take_all none = each_takes (numbers_of_role Server t.ports) (ways_open t node n h order named kind) none
