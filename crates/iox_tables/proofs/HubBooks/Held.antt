-- What is received is held, and what nobody has is not shown.
use Rattle.std.specs.Prelude.{◌≡◌, ℕ, ◌+◌, ◌≤◌, Bool, true, ◌&&◌, if◌then◌else◌, List, [], ◌∷◌, Option}
use Rattle.std.proofs.Common.{sym, ap₂, subst, arith, inl, inr}
use Rattle.iox_model.specs.Handles.{is_received}
use Rattle.iox_model.specs.Messages.{Message}
use Rattle.iox_model.specs.States as m
use Rattle.iox_model.specs.Maps.{same_way}
use Rattle.iox_model.specs.WholeCalls.{is_uninit}
use Rattle.iox_laws.proofs.WeaveLaws.MapLemmas.{same_way-refl}
use Rattle.iox_tables.specs.HubStates.Tables.{HandleState, HubTables, PoolState}
use Rattle.iox_tables.specs.HubStates.States.{Given, handle_of, message_of}
use Rattle.iox_tables.specs.HubStates.Ends.{OfEachHandle}
use Rattle.iox_tables.specs.HubStates.Releases.{IsHeldOn}
use Rattle.iox_tables.specs.HubStates.Wirings.{IsHandle}
use Rattle.iox_tables.specs.HubBooks.Counts.{how_often, is_at, total}
use Rattle.iox_tables.specs.HubBooks.Handles.{IsFromLane, IsOfPoolOrGone, is_from, way_in}
use Rattle.iox_tables.specs.HubBooks.Hubs.{AreInOrder, IsUsed}
use Rattle.iox_tables.specs.HubBooks.Premises.{FreeSlotsAreNotShown, ReceivedAreHeld}
use Rattle.iox_tables.proofs.HubBooks.Places.{has_often, ranked}
use Rattle.iox_tables.proofs.HubBooks.Used.{at_itself, handle_below, handle_is, passes_once, used_on_lane}

-- ---- each handle

pub each_handle_from : (P Q : HandleState → Type 0) → ((h : HandleState) → P h → Q h) → (hs : List HandleState) → OfEachHandle P hs → OfEachHandle Q hs
each_handle_from P Q from [] a = tt
each_handle_from P Q from (h ∷ hs) a = (from h a.0, each_handle_from P Q from hs a.1)

abbrev pub IsCountedIn : List HandleState → HandleState → Type 0
IsCountedIn all h = (f : HandleState → ℕ) → f h ≤ total f all

pub each_is_counted : (all hs : List HandleState) → ((f : HandleState → ℕ) → total f hs ≤ total f all) → OfEachHandle (IsCountedIn all) hs
each_is_counted all [] below = tt
each_is_counted all (h ∷ hs) below = (λ f. first f (below f), each_is_counted all hs (λ f. rest f (below f)))
  where
    first : (f : HandleState → ℕ) → f h + total f hs ≤ total f all → f h ≤ total f all
    first f le = omega (arith, le)

    rest : (f : HandleState → ℕ) → f h + total f hs ≤ total f all → total f hs ≤ total f all
    rest f le = omega (arith, le)

pub each_counts : (hs : List HandleState) → OfEachHandle (IsCountedIn hs) hs
each_counts hs = each_is_counted hs hs (λ f. omega arith)

-- ---- received

both_true : (a b : Bool) → a ≡ true → b ≡ true → (a && b) ≡ true
both_true a b e f = ap₂ (λ x y. x && y) e f

pub held_on : (t : HubTables) (node n : ℕ) (h : HandleState) → AreInOrder t → IsHandle t node n h → is_received h.kind ≡ true → IsHeldOn t (way_in t.pools h) h
held_on t node n h order named received = step (handle_is (IsFromLane t) t.handles node n h order.received named.there received)
  where
    step : IsOfPoolOrGone t (way_in t.pools h) h.pool → IsHeldOn t (way_in t.pools h) h
    step (inr gone) = inr gone
    step (inl there) =
        let from : is_from t.pools (way_in t.pools h) there.0.pool h.slot h ≡ true
        = both_true (is_received h.kind) _ received
        (both_true (same_way (way_in t.pools h) (way_in t.pools h)) _ (same_way-refl (way_in t.pools h)) (subst (λ p. is_at p h.slot h ≡ true) (sym there.2) (at_itself h))) in
        let taken = order.taken (way_in t.pools h) there.0 h.slot there.1 in
        let below = handle_below (λ k. if is_from t.pools (way_in t.pools h) there.0.pool h.slot k then 1 else 0) t.handles node n h named.there in
        let some = passes_once (is_from t.pools (way_in t.pools h) there.0.pool h.slot) h from in
        let often : 1 ≤ how_often h.slot there.0.taken = omega (arith, taken, below, some) in
        inl (there.0, there.1, there.2, ranked h.slot there.0.taken (has_often h.slot there.0.taken often))

pub received_are_held : ReceivedAreHeld
received_are_held x t node n h order named received = held_on t node n h order named received

-- ---- what nobody has

abbrev handle_by : HandleState → Message → ℕ → m.Handle
handle_by h n filled = record {
  node = h.node;
  number = h.number;
  kind = h.kind;
  port = h.port;
  message = n;
  filled = if is_uninit h.kind then filled else n.elements;
  client = h.client;
  lane = n.lane;
  request = n.request;
  connections = h.connections;
}

pub used_by_counted : (t : HubTables) → AreInOrder t → (h : HandleState) → IsCountedIn t.handles h → IsUsed t h.pool h.slot
used_by_counted t order h counts =
    let all = order.counted h.pool h.slot in
    let below = counts (λ k. if is_at h.pool h.slot k then 1 else 0) in
    let some = passes_once (is_at h.pool h.slot) h (at_itself h) in omega (arith, all, below, some)

shows_same : (x x' : Given) (t : HubTables) (pools : List (Option PoolState)) (h : HandleState) → message_of x t.pools h.pool h.slot ≡ message_of x' pools h.pool h.slot
    → x.filled h.pool h.slot ≡ x'.filled h.pool h.slot → handle_of x (message_of x t.pools) h ≡ handle_of x' (message_of x' pools) h
shows_same x x' t pools h same filled = ap₂ (handle_by h) same filled

pub free_slots_are_not_shown : FreeSlotsAreNotShown
free_slots_are_not_shown x x' t pools order same = (
  λ w l there k has. same.messages l.pool k (used_on_lane t order w l k there has),
  each_handle_from (IsCountedIn t.handles) (λ h. handle_of x (message_of x t.pools) h ≡ handle_of x' (message_of x' pools) h)
      (λ h counts.
      let used = used_by_counted t order h counts in shows_same x x' t pools h (same.messages h.pool h.slot used) (same.filled h.pool h.slot used))
      t.handles (each_counts t.handles),
)
