-- The release of a handle is the machine's.
use Rattle.std.specs.Prelude.{◌≡◌, ℕ, Bool, true, false, ◌&&◌, if◌then◌else◌, ◌==◌, List, [], ◌∷◌, map, Option, Some, refl}
use Rattle.std.proofs.Common.{sym, ap, subst, ◌∙◌, eqb-true}
use Rattle.std.proofs.lemmas.Option.{none-some, same_Some}
use Rattle.iox_handles.specs.declared.entry.Entry.{Entry}
use Rattle.iox_lanes.specs.declared.wanted.Label.{Label}
use Rattle.iox_lanes.specs.Lanes as lanes
use Rattle.iox_model.specs.declared.call.Call.TheVariants.{Release}
use Rattle.iox_model.specs.declared.kind.Kind.{Kind}
use Rattle.iox_model.specs.declared.kind.Kind.TheVariants as kinds
use Rattle.iox_model.specs.declared.kind.Role.TheVariants.{Server}
use Rattle.iox_model.specs.declared.reply.Reply.TheVariants.{Done}
use Rattle.iox_model.specs.declared.way.Way.{Way}
use Rattle.iox_model.specs.Handles.{is_received, same_kind}
use Rattle.iox_model.specs.Messages.{closed_for, request_way, response_way}
use Rattle.iox_model.specs.WholeCalls.{IsWholeCall}
use Rattle.iox_laws.specs.CallFunctions.Releases.{released_by}
use Rattle.iox_laws.proofs.CallFunctions.Releasing.{each_release_is_whole}
use Rattle.iox_tables.specs.HubStates.Tables.{HandleState, HubTables, PoolState, labels_of, owner_of}
use Rattle.iox_tables.specs.HubStates.States.{Given, state_shown}
use Rattle.iox_tables.specs.HubStates.Changes.{with_lanes, with_states}
use Rattle.iox_tables.specs.HubStates.Ends.{with_dropped}
use Rattle.iox_tables.specs.HubStates.Wirings.{IsHandle, handle_in, numbers_of_role}
use Rattle.iox_slots.specs.Pools.{with_slot}
use Rattle.iox_slots.specs.Slots.{let_go}
use Rattle.iox_tables.specs.HubBooks.Handles.{way_in}
use Rattle.iox_tables.specs.HubBooks.Hubs.{AreInOrder}
use Rattle.iox_tables.specs.HubBooks.Keeps.{bare_pools}
use Rattle.iox_tables.proofs.HubBooks.Held.{received_are_held}
use Rattle.iox_tables.proofs.HubBooks.Rooms.{bare_pools_show_the_same}
use Rattle.iox_tables.specs.HubMaking.Disconnections.{MayGo, is_unused, with_disconnected, with_released}
use Rattle.iox_tables.specs.HubMaking.WholeReleases.{answering}
use Rattle.iox_tables.proofs.HubMaking.Ending.{loans_end, pendings_end, requests_end, responses_end}
use Rattle.iox_tables.proofs.HubKeeping.Ordered.{handle_may_go}
use Rattle.iox_control.specs.Controls.{ControlState, IsControl, with_tables}
use Rattle.iox_control.specs.Entries.{handle_state}
use Rattle.iox_control.proofs.WholeLemmas.{is_whole_of}
use Rattle.iox_control_releasing.specs.Endings.{given_up_as, with_ended}
use Rattle.iox_control_releasing.specs.Named.{IsNamed}
use Rattle.iox_slots.proofs.BareLemmas.{let_go_bare}

-- ---- what is given up, as code does it

pub pending_up : (c new : ControlState) (e : Entry) (l : Label) → e.kind ≡ kinds.PendingResponse → l ≡ labels_of c.tables.pools e.pool e.slot
    → new ≡ with_tables c (with_states (λ r. closed_for r l.request) c.tables (map (response_way e.port l.lane) (numbers_of_role Server c.tables.ports)))
    → new ≡ with_tables c (given_up_as e.kind c.tables (handle_state e))
pending_up c new e l kind at is =
    is
    ∙ ap (λ (m : Label). with_tables c (with_states (λ r. closed_for r m.request) c.tables (map (response_way e.port m.lane) (numbers_of_role Server c.tables.ports)))) at
    ∙ ap (λ k. with_tables c (given_up_as k c.tables (handle_state e))) (sym kind)

pub active_up : (c mid new : ControlState) (e : Entry) (l : Label) → e.kind ≡ kinds.ActiveRequest → l ≡ labels_of c.tables.pools e.pool e.slot
    → mid ≡ with_tables c (with_lanes (λ m. lanes.released m e.slot) c.tables (request_way e.client e.port ∷ []))
    → new ≡ with_tables mid (with_states (λ r. closed_for r l.request) mid.tables (response_way e.client l.lane e.port ∷ []))
    → new ≡ with_tables c (given_up_as e.kind c.tables (handle_state e))
active_up c mid new e l kind at back is =
    is
    ∙ ap (λ (d : ControlState). with_tables d (with_states (λ r. closed_for r l.request) d.tables (response_way e.client l.lane e.port ∷ []))) back
    ∙ ap (λ (m : Label). with_tables c (closed m (request_way e.client e.port))) at
    ∙ ap (λ w. with_tables c (closed (labels_of c.tables.pools e.pool e.slot) w)) way
    ∙ ap (λ k. with_tables c (given_up_as k c.tables (handle_state e))) (sym kind)
  where
    closed : Label → Way → HubTables
    closed m w = with_states (λ r. closed_for r m.request) (with_lanes (λ x. lanes.released x e.slot) c.tables (w ∷ [])) (response_way e.client m.lane e.port ∷ [])

    way : request_way e.client e.port ≡ way_in c.tables.pools (handle_state e)
    way =
        ap (λ k. if same_kind k kinds.ActiveRequest then request_way e.client e.port
        else response_way e.port (labels_of c.tables.pools e.pool e.slot).lane (owner_of c.tables.pools e.pool)) (sym kind)

pub response_up : (c new : ControlState) (e : Entry) (l : Label) (o : ℕ) → e.kind ≡ kinds.Response → l ≡ labels_of c.tables.pools e.pool e.slot → o ≡ owner_of c.tables.pools e.pool
    → new ≡ with_tables c (with_lanes (λ m. lanes.released m e.slot) c.tables (response_way e.port l.lane o ∷ []))
    → new ≡ with_tables c (given_up_as e.kind c.tables (handle_state e))
response_up c new e l o kind at owner is =
    is
    ∙ ap (λ (m : Label). back (response_way e.port m.lane o)) at
    ∙ ap (λ n. back (response_way e.port (labels_of c.tables.pools e.pool e.slot).lane n)) owner
    ∙ ap back way
    ∙ ap (λ k. with_tables c (given_up_as k c.tables (handle_state e))) (sym kind)
  where
    back : Way → ControlState
    back w = with_tables c (with_lanes (λ m. lanes.released m e.slot) c.tables (w ∷ []))

    way : response_way e.port (labels_of c.tables.pools e.pool e.slot).lane (owner_of c.tables.pools e.pool) ≡ way_in c.tables.pools (handle_state e)
    way =
        ap (λ k. if same_kind k kinds.ActiveRequest then request_way e.client e.port
        else response_way e.port (labels_of c.tables.pools e.pool e.slot).lane (owner_of c.tables.pools e.pool)) (sym kind)

-- ---- the handle

-- what is found has the node and the number
found_key : (hs : List HandleState) (node n : ℕ) (h : HandleState) → handle_in hs node n ≡ Some h → (h.node ≡ node) × (h.number ≡ n)
found_key [] node n h e = absurd (none-some h e)
found_key (k ∷ ks) node n h e = step (k.node == node) (k.number == n) refl refl e (found_key ks node n h)
  where
    step : (a b : Bool) → (k.node == node) ≡ a → (k.number == n) ≡ b → (if a && b then Some k else handle_in ks node n) ≡ Some h
        → (handle_in ks node n ≡ Some h → (h.node ≡ node) × (h.number ≡ n)) → (h.node ≡ node) × (h.number ≡ n)
    step true true x y e more =
        let same : k ≡ h = same_Some k h e in
        (subst (λ (g : HandleState). g.node ≡ node) same (eqb-true k.node node x), subst (λ (g : HandleState). g.number ≡ n) same (eqb-true k.number n y))
    step true false x y e more = more e
    step false b x y e more = more e

pub named_so : (t : HubTables) (node n : ℕ) (h : HandleState) → IsNamed t node n → Some h ≡ handle_in t.handles node n → IsHandle t node n h
named_so t node n h is found = record { there = sym found; no_port = is.named.no_port }

pub named_itself : (t : HubTables) (node n : ℕ) (h : HandleState) → IsNamed t node n → Some h ≡ handle_in t.handles node n → IsHandle t h.node h.number h
named_itself t node n h is found =
    let key = found_key t.handles node n h (sym found) in
    subst (λ k. IsHandle t h.node k h) (sym key.1) (subst (λ k. IsHandle t k n h) (sym key.0) (named_so t node n h is found))

-- ---- the call

module _ (x : Given) (t : HubTables) (node n : ℕ) (h : HandleState) (order : AreInOrder t) (named : IsHandle t node n h) (may : MayGo t h.port) where
  ends : (k : Kind) → h.kind ≡ k
      → released_by (state_shown x t) node n ≡ answering x (Done, with_released (with_dropped (given_up_as k t h) node n) h.port)
  ends kinds.PendingResponse e = pendings_end x t node n h named e may
  ends kinds.ActiveRequest e = requests_end x t node n h named e (received_are_held x t node n h order named (ap is_received e)) may
  ends kinds.Response e = responses_end x t node n h named e (received_are_held x t node n h order named (ap is_received e)) may
  ends kinds.Client e = loans_end x t node n h named (ap is_received e) (ap (λ k. same_kind k kinds.PendingResponse) e) may
  ends kinds.Server e = loans_end x t node n h named (ap is_received e) (ap (λ k. same_kind k kinds.PendingResponse) e) may
  ends kinds.RequestMutUninit e = loans_end x t node n h named (ap is_received e) (ap (λ k. same_kind k kinds.PendingResponse) e) may
  ends kinds.RequestMut e = loans_end x t node n h named (ap is_received e) (ap (λ k. same_kind k kinds.PendingResponse) e) may
  ends kinds.ResponseMutUninit e = loans_end x t node n h named (ap is_received e) (ap (λ k. same_kind k kinds.PendingResponse) e) may
  ends kinds.ResponseMut e = loans_end x t node n h named (ap is_received e) (ap (λ k. same_kind k kinds.PendingResponse) e) may

-- pools that differ only in holders show the same, also once the port is gone
same_shown : (x : Given) (t : HubTables) (pools : List (Option PoolState)) (n : ℕ) → bare_pools t.pools ≡ bare_pools pools
    → state_shown x (with_released t n) ≡ state_shown x (with_released (record t { pools = pools }) n)
same_shown x t pools n bare = step (is_unused t n)
  where
    step : (b : Bool) → state_shown x (if b then with_disconnected t n else t)
        ≡ state_shown x (if b then with_disconnected (record t { pools = pools }) n else record t { pools = pools })
    step true = bare_pools_show_the_same x (with_disconnected t n) pools bare
    step false = bare_pools_show_the_same x t pools bare

-- what is given up leaves the pools
pools_stay : (t : HubTables) (h : HandleState) (k : Kind) → (given_up_as k t h).pools ≡ t.pools
pools_stay t h kinds.PendingResponse = refl
pools_stay t h kinds.ActiveRequest = refl
pools_stay t h kinds.Response = refl
pools_stay t h kinds.Client = refl
pools_stay t h kinds.Server = refl
pools_stay t h kinds.RequestMutUninit = refl
pools_stay t h kinds.RequestMut = refl
pools_stay t h kinds.ResponseMutUninit = refl
pools_stay t h kinds.ResponseMut = refl

pub is_released : (x : Given) (c end left new : ControlState) (node n : ℕ) (h : HandleState) → IsControl c → IsNamed c.tables node n
    → Some h ≡ handle_in c.tables.handles node n
    → end.tables ≡ record (with_ended c.tables h) { pools = with_slot let_go c.tables.pools h.pool h.slot }
    → state_shown x (with_released end.tables h.port) ≡ state_shown x left.tables → state_shown x left.tables ≡ state_shown x new.tables
    → IsWholeCall (state_shown x c.tables) node (Release n) Done (state_shown x new.tables)
is_released x c end left new node n h order named found is gone dropped =
    is_whole_of (state_shown x c.tables) node (Release n) _ Done (state_shown x new.tables)
    (each_release_is_whole (state_shown x c.tables) node n)
    (ends x c.tables node n h order.order (named_so c.tables node n h named found) (handle_may_go c.tables order.order node n h (named_so c.tables node n h named found)) h.kind refl
    ∙ ap (λ s. (Done, s)) (by_key ∙ shown ∙ ap (λ (t : HubTables). state_shown x (with_released t h.port)) (sym is) ∙ gone ∙ dropped))
  where
    key : (h.node ≡ node) × (h.number ≡ n)
    key = found_key c.tables.handles node n h (sym found)

    by_key : state_shown x (with_released (with_dropped (given_up_as h.kind c.tables h) node n) h.port) ≡ state_shown x (with_released (with_ended c.tables h) h.port)
    by_key =
        ap (λ k. state_shown x (with_released (with_dropped (given_up_as h.kind c.tables h) k n) h.port)) (sym key.0)
        ∙ ap (λ k. state_shown x (with_released (with_dropped (given_up_as h.kind c.tables h) h.node k) h.port)) (sym key.1)

    shown : state_shown x (with_released (with_ended c.tables h) h.port)
        ≡ state_shown x (with_released (record (with_ended c.tables h) { pools = with_slot let_go c.tables.pools h.pool h.slot }) h.port)
    shown =
        same_shown x (with_ended c.tables h) (with_slot let_go c.tables.pools h.pool h.slot) h.port
        (ap bare_pools (pools_stay c.tables h h.kind) ∙ let_go_bare c.tables.pools h.pool h.slot)
