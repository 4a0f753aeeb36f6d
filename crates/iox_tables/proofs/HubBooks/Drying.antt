-- A pool is dry exactly if no slot of it is unused.
use Rattle.std.specs.Prelude.{◌≡◌, ◌⊎◌, ℕ, zero, suc, ◌+◌, ◌<◌, ◌≤◌, Bool, true, false, not, ◌&&◌, ◌||◌, if◌then◌else◌, ◌==◌, nat_le, List, [], ◌∷◌, ◌++◌, map, filter, flat_map, length, Option, Some, None, is_some, slice_get, refl}
use Rattle.std.specs.List.{list_any, range_with_len}
use Rattle.std.specs.Option.{option_map, option_map_or}
use Rattle.std.proofs.Common.{sym, ap, ap₂, subst, ◌∙◌, arith, inl, inr, true≢false, eqb-true, eq-eqb}
use Rattle.std.proofs.lemmas.Bool.Decides.{nat_tests}
use Rattle.iox_model.specs.declared.kind.Kind.TheVariants.{ActiveRequest}
use Rattle.iox_model.specs.declared.kind.Role.TheVariants.{Client, Server}
use Rattle.iox_model.specs.declared.way.Way.{Way}
use Rattle.iox_model.specs.Handles.{handles_of, is_own, is_received, same_kind}
use Rattle.iox_model.specs.Maps.{has_number, same_way}
use Rattle.iox_model.specs.Messages.{request_way, response_way}
use Rattle.iox_model.specs.Outstandings.{is_held, is_kept, is_outstanding, kept}
use Rattle.iox_model.specs.Peers.{is_connected_port, lanes_of, lanes_to, node_of_port, ports_of_role, role_at, ways_from}
use Rattle.iox_model.specs.Settings.{is_client}
use Rattle.iox_model.specs.States as m
use Rattle.iox_laws.proofs.WeaveLaws.MapLemmas.{eqb-refl, same_way-refl}
use Rattle.iox_laws.proofs.WeaveLedger.Lists.{IsAmong, among-any, among-filter, among-map, any-among, filter-among, flat-among, map-among, number-among, among-number}
use Rattle.iox_lanes.specs.Lanes.{LaneState}
use Rattle.iox_tables.specs.HubStates.Tables.{HandleState, HubTables, PoolState, PortState, SlotState, labels_of, no_slot, owner_of, port_in, slot_at, slots_of, is_free}
use Rattle.iox_tables.specs.HubStates.Ways.{lane_on}
use Rattle.iox_tables.specs.HubStates.Shown.{MessagesByPlace, is_out_in}
use Rattle.iox_tables.specs.HubStates.States.{Given, fixed_of, handle_of, message_of, port_of, state_shown}
use Rattle.iox_tables.specs.HubStates.Steps.{is_there, places_on}
use Rattle.iox_tables.proofs.HubStates.Fixing.{find_port, first_key}
use Rattle.iox_tables.specs.HubBooks.Counts.{how_often, is_at, lane_count, handle_uses}
use Rattle.iox_tables.specs.HubBooks.Handles.{IsFromLane, IsOfPoolOrGone, IsOfPort, is_from, way_in}
use Rattle.iox_tables.specs.HubBooks.Hubs.{AreInOrder, HasPool, IsUsed}
use Rattle.iox_tables.specs.HubBooks.Premises.{DryPoolsAreUsedUp, KeptAreUsed}
use Rattle.iox_tables.proofs.HubBooks.Dry.{counted_by, each_among, get_among, keys_apart, out_is, way_from}
use Rattle.iox_tables.proofs.HubBooks.Frames.{length_map}
use Rattle.iox_tables.proofs.HubBooks.Held.{IsCountedIn, each_counts, used_by_counted}
use Rattle.iox_tables.proofs.HubBooks.Places.{has_often}
use Rattle.iox_tables.proofs.HubBooks.Received.{has_back}
use Rattle.iox_tables.proofs.HubBooks.Used.{passes_once, used_on_lane}
use Rattle.iox_tables.proofs.HubBooks.Ways.{among_get, between, some_lane, some_total}

both_parts : (a b : Bool) → (a && b) ≡ true → (a ≡ true) × (b ≡ true)
both_parts true b e = (refl, e)
both_parts false b e = absurd (true≢false (sym e))

both_true : (a b : Bool) → a ≡ true → b ≡ true → (a && b) ≡ true
both_true a b e f = ap₂ (λ x y. x && y) e f

either_part : (a b : Bool) → (a || b) ≡ true → (a ≡ true) ⊎ (b ≡ true)
either_part true b e = inl refl
either_part false b e = inr e

first_true : (a b : Bool) → a ≡ true → (a || b) ≡ true
first_true a b e = ap (λ x. x || b) e

second_true : (a b : Bool) → b ≡ true → (a || b) ≡ true
second_true true b e = refl
second_true false b e = e

passes : (b : Bool) → 1 ≤ (if b then 1 else 0) → b ≡ true
passes true some = refl
passes false some = absurd (omega (arith, some))

if_some : (b : Bool) (n : ℕ) → 1 ≤ (if b then n else 0) → (b ≡ true) × (1 ≤ n)
if_some true n some = (refl, some)
if_some false n some = absurd (omega (arith, some))

-- what is out of a lane that may be there
abbrev out_of : MessagesByPlace → Bool → Option LaneState → ℕ → Bool
out_of message b o = if b then option_map_or (is_out_in message) o (λ j. false) else (λ j. false)

module _ (x : Given) (t : HubTables) (order : AreInOrder t) (n : ℕ) (p : PortState) (there : port_in t.ports n ≡ Some p) where
  number_is : p.number ≡ n
  number_is = first_key (λ (y : PortState). y.number) t.ports n p there

  has_pool : HasPool t p
  has_pool = order.pools.each n p there

  owner_is : owner_of t.pools p.pool ≡ n
  owner_is = ap (λ o. option_map_or (λ (y : PoolState). y.port) o 0) has_pool.there ∙ has_pool.port ∙ number_is

  connected : is_there t.ports n ≡ true
  connected = ap is_some there

  only_port : (k : ℕ) (q : PortState) → port_in t.ports k ≡ Some q → k ≡ n → q ≡ p
  only_port k q at e = ap (λ o. option_map_or (λ (y : PortState). y) o q) (sym at ∙ ap (port_in t.ports) e ∙ there)

  -- ---- what is used is kept

  lane_kept : (w : Way) (l : LaneState) (j : ℕ) → lane_on t.ports w ≡ Some l → l.pool ≡ p.pool → has_number j (places_on l) ≡ true
      → is_outstanding (state_shown x t) n (slot_at t.pools p.pool j).serial ≡ true
  lane_kept w l j on e has =
      let sender : w.sender ≡ n = sym (order.owners w l j on has) ∙ ap (owner_of t.pools) e ∙ owner_is in
      let b = between t order w l on (ap (is_there t.ports) sender ∙ connected) in
      among-any (λ v. (state_shown x t).delivered v (slot_at t.pools p.pool j).serial) w (ways_from (fixed_of x t) n)
      (subst (λ k. IsAmong w (ways_from (fixed_of x t) k)) sender (way_from x t order w l b))
      (out_is x t order w l (slot_at t.pools p.pool j).serial on (ap (is_there t.ports) sender ∙ connected)
      ∙ among-any (λ i. (slot_at t.pools l.pool i).serial == (slot_at t.pools p.pool j).serial) j (places_on l) (number-among j (places_on l) has)
      (ap (λ c. (slot_at t.pools c j).serial == (slot_at t.pools p.pool j).serial) e ∙ eqb-refl (slot_at t.pools p.pool j).serial))

  own_kept : (h : HandleState) (j : ℕ) → IsAmong h t.handles → is_own h.kind ≡ true → h.pool ≡ p.pool → h.slot ≡ j
      → is_held (fixed_of x t) n (slot_at t.pools p.pool j).serial ≡ true
  own_kept h j among own e f =
      let is = each_among (IsOfPort t) t.handles h order.ports among in
      let has = order.pools.each h.port is.port is.there in
      let port : h.port ≡ n
      = sym (first_key (λ (y : PortState). y.number) t.ports h.port is.port is.there) ∙ sym has.port ∙ sym (ap (λ o. option_map_or (λ (y : PoolState). y.port) o 0) has.there)
      ∙ ap (owner_of t.pools) (sym (is.of_pool own) ∙ e) ∙ owner_is in
      let node : h.node ≡ node_of_port (fixed_of x t) n
      = is.on_node ∙ ap (λ (y : PortState). y.node) (only_port h.port is.port is.there port)
      ∙ sym (ap (λ (o : Option m.Port). option_map_or (λ q. q.node) o 0) (find_port x t.ports n ∙ ap (option_map (port_of x)) there)) in
      among-any (λ (k : m.Handle). is_own k.kind && (k.message.serial == (slot_at t.pools p.pool j).serial)) (handle_of x (message_of x t.pools) h) (handles_of (fixed_of x t) n)
      (among-filter (λ (k : m.Handle). k.port == n) (handle_of x (message_of x t.pools) h) ((fixed_of x t).handles (node_of_port (fixed_of x t) n))
      (among-map (handle_of x (message_of x t.pools)) h (filter (λ k. k.node == node_of_port (fixed_of x t) n) t.handles)
      (among-filter (λ (k : HandleState). k.node == node_of_port (fixed_of x t) n) h t.handles among (eq-eqb h.node (node_of_port (fixed_of x t) n) node)))
      (eq-eqb h.port n port))
      (both_true (is_own h.kind) _ own (ap₂ (λ c i. (slot_at t.pools c i).serial == (slot_at t.pools p.pool j).serial) e f ∙ eqb-refl (slot_at t.pools p.pool j).serial))

  -- a received message of the pool is on its lane
  received_on : (h : HandleState) (j : ℕ) → IsAmong h t.handles → is_received h.kind ≡ true → h.pool ≡ p.pool → h.slot ≡ j
      → (w : Way) × (l : LaneState) × (lane_on t.ports w ≡ Some l) × (l.pool ≡ p.pool) × (has_number j (places_on l) ≡ true)
  received_on h j among received e f = step (each_among (IsFromLane t) t.handles h order.received among received)
    where
      is : IsOfPort t h
      is = each_among (IsOfPort t) t.handles h order.ports among

      sender : (way_in t.pools h).sender ≡ n
      sender = from (same_kind h.kind ActiveRequest) refl ∙ ap (owner_of t.pools) e ∙ owner_is
        where
          from : (b : Bool) → same_kind h.kind ActiveRequest ≡ b
              → (if b then request_way h.client h.port else response_way h.port (labels_of t.pools h.pool h.slot).lane (owner_of t.pools h.pool)).sender ≡ owner_of t.pools h.pool
          from true k = is.client k
          from false k = refl

      step : IsOfPoolOrGone t (way_in t.pools h) h.pool → (w : Way) × (l : LaneState) × (lane_on t.ports w ≡ Some l) × (l.pool ≡ p.pool) × (has_number j (places_on l) ≡ true)
      step (inr gone) = absurd (true≢false (sym connected ∙ sym (ap (is_there t.ports) sender) ∙ gone.1))
      step (inl a) =
          let from : is_from t.pools (way_in t.pools h) a.0.pool h.slot h ≡ true
          = both_true (is_received h.kind) _ received
          (both_true (same_way (way_in t.pools h) (way_in t.pools h)) _ (same_way-refl (way_in t.pools h))
          (both_true (h.pool == a.0.pool) (h.slot == h.slot) (eq-eqb h.pool a.0.pool (sym a.2)) (eqb-refl h.slot))) in
          let taken = order.taken (way_in t.pools h) a.0 h.slot a.1 in
          let below = each_among (IsCountedIn t.handles) t.handles h (each_counts t.handles) among (λ k. if is_from t.pools (way_in t.pools h) a.0.pool h.slot k then 1 else 0) in
          let some = passes_once (is_from t.pools (way_in t.pools h) a.0.pool h.slot) h from in
          let often : 1 ≤ how_often h.slot a.0.taken = omega (arith, taken, below, some) in (
            way_in t.pools h,
            a.0,
            a.1,
            a.2 ∙ e,
            subst (λ k. has_number k (places_on a.0) ≡ true) f
                (has_back h.slot a.0.returned (a.0.waiting ++ a.0.taken) (has_back h.slot a.0.waiting a.0.taken (has_often h.slot a.0.taken often))),
          )

  used_kept : (j : ℕ) → IsUsed t p.pool j → is_kept (state_shown x t) n [] (slot_at t.pools p.pool j).serial ≡ true
  used_kept j used = by_handles (handle_uses t.handles p.pool j) refl
    where
      held : Bool
      held = is_held (fixed_of x t) n (slot_at t.pools p.pool j).serial

      by_lane_there : (w : Way) × (l : LaneState) × (lane_on t.ports w ≡ Some l) × (l.pool ≡ p.pool) × (has_number j (places_on l) ≡ true)
          → is_kept (state_shown x t) n [] (slot_at t.pools p.pool j).serial ≡ true
      by_lane_there a = second_true (is_held (fixed_of x t) n (slot_at t.pools p.pool j).serial) _ (lane_kept a.0 a.1 j a.2 a.3 a.4)

      by_kind : (h : HandleState) → IsAmong h t.handles → h.pool ≡ p.pool → h.slot ≡ j → (is_own h.kind ≡ true) ⊎ (is_received h.kind ≡ true)
          → is_kept (state_shown x t) n [] (slot_at t.pools p.pool j).serial ≡ true
      by_kind h among e f (inl own) = first_true (is_held (fixed_of x t) n (slot_at t.pools p.pool j).serial) _ (own_kept h j among own e f)
      by_kind h among e f (inr received) = by_lane_there (received_on h j among received e f)

      by_handles : (c : ℕ) → handle_uses t.handles p.pool j ≡ c → is_kept (state_shown x t) n [] (slot_at t.pools p.pool j).serial ≡ true
      by_handles zero e =
          let all = order.counted p.pool j in
          let lane = some_lane t order (lane_count p.pool j) (omega (arith, all, e, used)) in
          let parts = if_some (lane.1.pool == p.pool) (how_often j (places_on lane.1)) lane.3 in
          by_lane_there (lane.0, lane.1, lane.2, eqb-true lane.1.pool p.pool parts.0, has_often j (places_on lane.1) parts.1)
      by_handles (suc c) e =
          let h = some_total (λ k. if is_at p.pool j k then 1 else 0) t.handles (omega (arith, e)) in
          let parts = both_parts (h.0.pool == p.pool) (h.0.slot == j) (passes (is_at p.pool j h.0) h.2) in
          by_kind h.0 h.1 (eqb-true h.0.pool p.pool parts.0) (eqb-true h.0.slot j parts.1)
          (either_part (is_own h.0.kind) (is_received h.0.kind) (each_among (IsOfPort t) t.handles h.0 order.ports h.1).either)

  -- ---- what is kept is used

  sent_from : (w : Way) → IsAmong w (ways_from (fixed_of x t) n) → w.sender ≡ n
  sent_from w among = step (is_client (role_at (fixed_of x t) n)) among
    where
      step : (b : Bool) → IsAmong w (if b then map (request_way n) (ports_of_role (fixed_of x t) Server) else flat_map (lanes_to (fixed_of x t) n) (ports_of_role (fixed_of x t) Client)) → w.sender ≡ n
      step true a = let r = map-among (request_way n) w (ports_of_role (fixed_of x t) Server) a in ap (λ (v : Way). v.sender) r.2
      step false a =
          let c = flat-among (lanes_to (fixed_of x t) n) w (ports_of_role (fixed_of x t) Client) a in
          let r = map-among (λ lane. response_way c.0 lane n) w (range_with_len 0 (lanes_of (fixed_of x t) c.0)) c.2 in ap (λ (v : Way). v.sender) r.2

  nothing_out : (w : Way) (k : ℕ) → lane_on t.ports w ≡ None → (state_shown x t).delivered w k ≡ false
  nothing_out w k on = ap (λ o. out_of (message_of x t.pools) (is_connected_port (fixed_of x t) w.sender) o k) on ∙ never (is_connected_port (fixed_of x t) w.sender)
    where
      never : (c : Bool) → out_of (message_of x t.pools) c None k ≡ false
      never true = refl
      never false = refl

  kept_used : (k : ℕ) → is_kept (state_shown x t) n [] k ≡ true → (j : ℕ) × IsUsed t p.pool j × ((slot_at t.pools p.pool j).serial ≡ k)
  kept_used k e = step (either_part (is_held (fixed_of x t) n k) (is_outstanding (state_shown x t) n k) e)
    where
      by_lane_of : (w : Way) → w.sender ≡ n → (b : Bool) → is_there t.ports w.sender ≡ b → (o : Option LaneState) → lane_on t.ports w ≡ o → (state_shown x t).delivered w k ≡ true
          → (j : ℕ) × IsUsed t p.pool j × ((slot_at t.pools p.pool j).serial ≡ k)
      by_lane_of w from b at None on out = absurd (true≢false (sym out ∙ nothing_out w k on))
      by_lane_of w from b at (Some l) on out =
          let there_too : is_there t.ports w.sender ≡ true = ap (is_there t.ports) from ∙ connected in
          let a = any-among (λ i. (slot_at t.pools l.pool i).serial == k) (places_on l) (sym (out_is x t order w l k on there_too) ∙ out) in
          let c = between t order w l on there_too in
          let pool : l.pool ≡ p.pool = c.pool ∙ ap (λ (y : PortState). y.pool) (only_port w.sender c.sender c.from from) in (
            a.0,
            subst (λ q. IsUsed t q a.0) pool (used_on_lane t order w l a.0 on (among-number a.0 (places_on l) a.1)),
            ap (λ q. (slot_at t.pools q a.0).serial) (sym pool) ∙ eqb-true (slot_at t.pools l.pool a.0).serial k a.2,
          )

      step : (is_held (fixed_of x t) n k ≡ true) ⊎ (is_outstanding (state_shown x t) n k ≡ true) → (j : ℕ) × IsUsed t p.pool j × ((slot_at t.pools p.pool j).serial ≡ k)
      step (inr out) =
          let w = any-among (λ v. (state_shown x t).delivered v k) (ways_from (fixed_of x t) n) out in
          by_lane_of w.0 (sent_from w.0 w.1) (is_there t.ports w.0.sender) refl (lane_on t.ports w.0) refl w.2
      step (inl held) =
          let a = any-among (λ (h : m.Handle). is_own h.kind && (h.message.serial == k)) (handles_of (fixed_of x t) n) held in
          let b = filter-among (λ (h : m.Handle). h.port == n) a.0 ((fixed_of x t).handles (node_of_port (fixed_of x t) n)) a.1 in
          let c = map-among (handle_of x (message_of x t.pools)) a.0 (filter (λ h. h.node == node_of_port (fixed_of x t) n) t.handles) b.0 in
          let d = filter-among (λ (h : HandleState). h.node == node_of_port (fixed_of x t) n) c.0 t.handles c.1 in
          let h = c.0 in
          let tests = both_parts (is_own h.kind) ((slot_at t.pools h.pool h.slot).serial == k) (sym (ap (λ (y : m.Handle). is_own y.kind && (y.message.serial == k)) c.2) ∙ a.2) in
          let port : h.port ≡ n = eqb-true h.port n (sym (ap (λ (y : m.Handle). y.port == n) c.2) ∙ b.1) in
          let is = each_among (IsOfPort t) t.handles h order.ports d.0 in
          let pool : h.pool ≡ p.pool = is.of_pool tests.0 ∙ ap (λ (y : PortState). y.pool) (only_port h.port is.port is.there port) in (
            h.slot,
            subst (λ q. IsUsed t q h.slot) pool (used_by_counted t order h (each_among (IsCountedIn t.handles) t.handles h (each_counts t.handles) d.0)),
            ap (λ q. (slot_at t.pools q h.slot).serial) (sym pool) ∙ eqb-true (slot_at t.pools h.pool h.slot).serial k tests.1,
          )

  -- ---- as many

  slot_is : (j : ℕ) (s : SlotState) → slice_get (slots_of t.pools p.pool) j ≡ Some s → slot_at t.pools p.pool j ≡ s
  slot_is j s e = ap (λ o. option_map_or (λ (y : SlotState). y) o no_slot) e

  is_used : (s : SlotState) → not (is_free s) ≡ true → 1 ≤ s.holders
  is_used s e = some s.holders e
    where
      some : (c : ℕ) → not (c == 0) ≡ true → 1 ≤ c
      some zero e = absurd (true≢false (sym e))
      some (suc c) e = omega arith

  used_at : (j : ℕ) (s : SlotState) → slice_get (slots_of t.pools p.pool) j ≡ Some s → not (is_free s) ≡ true → IsUsed t p.pool j
  used_at j s e used = subst (λ (y : SlotState). 1 ≤ y.holders) (sym (slot_is j s e)) (is_used s used)

  not_zero : (c : ℕ) → 1 ≤ c → not (c == 0) ≡ true
  not_zero zero some = absurd (omega (arith, some))
  not_zero (suc c) some = ap not (differ (suc c) some)
    where
      differ : (c : ℕ) → 1 ≤ c → (c == 0) ≡ false
      differ c some = grind (arith, nat_tests)

  there_if_used : (j : ℕ) → IsUsed t p.pool j → (s : SlotState) × (slice_get (slots_of t.pools p.pool) j ≡ Some s)
  there_if_used j used = step (slice_get (slots_of t.pools p.pool) j) refl
    where
      step : (o : Option SlotState) → slice_get (slots_of t.pools p.pool) j ≡ o → (s : SlotState) × (slice_get (slots_of t.pools p.pool) j ≡ Some s)
      step (Some s) e = (s, e)
      step None e = let none : (slot_at t.pools p.pool j).holders ≡ 0 = ap (λ o. (option_map_or (λ (y : SlotState). y) o no_slot).holders) e in absurd (omega (arith, none, used))

  pub kept_count : length (kept (state_shown x t) n []) ≡ length (filter (λ s. not (is_free s)) (slots_of t.pools p.pool))
  kept_count =
      counted_by (is_kept (state_shown x t) n []) (map (λ (s : SlotState). s.serial) (filter (λ s. not (is_free s)) (slots_of t.pools p.pool))) ((state_shown x t).fixed.loans n + 1)
      (keys_apart (λ (s : SlotState). s.serial) (λ s. not (is_free s)) (slots_of t.pools p.pool)
      (λ i j a b e f u v same. order.serials.apart p.pool i j (used_at i a e u) (used_at j b f v) (ap (λ (y : SlotState). y.serial) (slot_is i a e) ∙ same ∙ sym (ap (λ (y : SlotState). y.serial) (slot_is j b f)))))
      low in_list
      ∙ length_map (λ (s : SlotState). s.serial) (filter (λ s. not (is_free s)) (slots_of t.pools p.pool))
    where
      loans : (state_shown x t).fixed.loans n ≡ p.loans
      loans = ap (λ o. option_map_or (λ (y : PortState). y.loans) o 0) there

      below : (k b c : ℕ) → k < b → c ≡ b → k < c + 1
      below k b c l e = omega (arith, l, e)

      low : (k : ℕ) → IsAmong k (map (λ (s : SlotState). s.serial) (filter (λ s. not (is_free s)) (slots_of t.pools p.pool)))
          → (k < (state_shown x t).fixed.loans n + 1) × (is_kept (state_shown x t) n [] k ≡ true)
      low k among =
          let a = map-among (λ (s : SlotState). s.serial) k (filter (λ s. not (is_free s)) (slots_of t.pools p.pool)) among in
          let b = filter-among (λ (s : SlotState). not (is_free s)) a.0 (slots_of t.pools p.pool) a.1 in
          let c = among_get a.0 (slots_of t.pools p.pool) b.0 in
          let used = used_at c.0 a.0 c.1 b.1 in
          let serial : (slot_at t.pools p.pool c.0).serial ≡ k = ap (λ (y : SlotState). y.serial) (slot_is c.0 a.0 c.1) ∙ sym a.2 in (
            below k p.loans ((state_shown x t).fixed.loans n) (subst (λ i. i < p.loans) serial (order.serials.below n c.0 p there used)) loans,
            subst (λ i. is_kept (state_shown x t) n [] i ≡ true) serial (used_kept c.0 used),
          )

      in_list : (k : ℕ) → is_kept (state_shown x t) n [] k ≡ true → IsAmong k (map (λ (s : SlotState). s.serial) (filter (λ s. not (is_free s)) (slots_of t.pools p.pool)))
      in_list k e =
          let a = kept_used k e in
          let s = there_if_used a.0 a.1 in
          subst (λ i. IsAmong i (map (λ (y : SlotState). y.serial) (filter (λ y. not (is_free y)) (slots_of t.pools p.pool)))) (sym (ap (λ (y : SlotState). y.serial) (slot_is a.0 s.0 s.1)) ∙ a.2)
          (among-map (λ (y : SlotState). y.serial) s.0 (filter (λ y. not (is_free y)) (slots_of t.pools p.pool))
          (among-filter (λ (y : SlotState). not (is_free y)) s.0 (slots_of t.pools p.pool) (get_among (slots_of t.pools p.pool) a.0 s.0 s.1)
          (not_zero s.0.holders (subst (λ (y : SlotState). 1 ≤ y.holders) (slot_is a.0 s.0 s.1) a.1))))

-- ---- a pool is used up

no_more_than : {A : Type 0} (test : A → Bool) (xs : List A) → length (filter test xs) ≤ length xs
no_more_than test [] = omega arith
no_more_than test (y ∷ ys) = step (test y) (no_more_than test ys)
  where
    step : (b : Bool) → length (filter test ys) ≤ length ys → length (if b then y ∷ filter test ys else filter test ys) ≤ length (y ∷ ys)
    step true le = omega (arith, le)
    step false le = omega (arith, le)

full_is : {A : Type 0} (free : A → Bool) (xs : List A) → nat_le (length xs) (length (filter (λ y. not (free y)) xs)) ≡ not (list_any free xs)
full_is free [] = refl
full_is free (y ∷ ys) = step (free y) (full_is free ys)
  where
    more : (a b : ℕ) → nat_le (suc a) (suc b) ≡ nat_le a b
    more a b = grind (arith, nat_tests)

    less : (a b : ℕ) → b ≤ a → nat_le (suc a) b ≡ false
    less a b le = grind (arith, nat_tests)

    step : (b : Bool) → nat_le (length ys) (length (filter (λ z. not (free z)) ys)) ≡ not (list_any free ys)
        → nat_le (suc (length ys)) (length (if not b then y ∷ filter (λ z. not (free z)) ys else filter (λ z. not (free z)) ys)) ≡ not (b || list_any free ys)
    step true rest = less (length ys) (length (filter (λ z. not (free z)) ys)) (no_more_than (λ z. not (free z)) ys)
    step false rest = more (length ys) (length (filter (λ z. not (free z)) ys)) ∙ rest

pub kept_are_used : KeptAreUsed
kept_are_used x t n p order there = kept_count x t order n p there

pub dry_pools_are_used_up : DryPoolsAreUsedUp
dry_pools_are_used_up x t n p order there =
    let has = order.pools.each n p there in
    ap (λ (o : Option m.Port). option_map_or (λ q. nat_le q.pool (length (kept (state_shown x t) n []))) o true) (find_port x t.ports n ∙ ap (option_map (port_of x)) there)
    ∙ ap₂ (λ (a b : ℕ). nat_le a b) (sym has.size ∙ sym (ap (λ o. length (option_map_or (λ (y : PoolState). y.slots) o [])) has.there)) (kept_count x t order n p there)
    ∙ full_is is_free (slots_of t.pools p.pool)
