-- A loan's message is delivered on one way more: somebody has its slot, and what is pushed out.
use Rattle.std.specs.Prelude.{◌≡◌, ℕ, ◌+◌, ◌<◌, ◌≤◌, Bool, true, false, ◌&&◌, if◌then◌else◌, ◌==◌, List, [], ◌∷◌, ◌++◌, Option, Some, None, refl}
use Rattle.std.specs.Option.{option_map_or}
use Rattle.std.proofs.Common.{sym, ap, ap₂, subst, ◌∙◌, arith, true≢false, eq-eqb, eqb-true}
use Rattle.iox_model.specs.declared.kind.Kind.{Kind}
use Rattle.iox_model.specs.declared.kind.Kind.TheVariants as kinds
use Rattle.iox_model.specs.declared.way.Way.{Way}
use Rattle.iox_model.specs.Handles.{is_own}
use Rattle.iox_model.specs.Maps.{AreDistinctWays}
use Rattle.iox_lanes.specs.Lanes.{LaneState}
use Rattle.iox_tables.specs.HubStates.Tables.{HandleState, HubTables, PoolState, PortState, port_in, slot_at}
use Rattle.iox_tables.specs.HubStates.Ways.{OnWays, lane_on, with_lanes_on}
use Rattle.iox_tables.specs.HubStates.Shown.{by_lane}
use Rattle.iox_tables.specs.HubStates.Steps.{places_on}
use Rattle.iox_tables.specs.HubStates.Wirings.{IsHandle}
use Rattle.iox_slots.specs.Pools.{with_slot}
use Rattle.iox_slots.specs.Slots.{held}
use Rattle.iox_slots.proofs.CallerLemmas.{one_at}
use Rattle.iox_tables.specs.HubBooks.Counts.{how_often, lane_count, lane_uses, on_lanes, total}
use Rattle.iox_tables.specs.HubBooks.Handles.{IsOfPort, is_loan}
use Rattle.iox_tables.specs.HubBooks.Hubs.{AreInOrder, HasEachPlaceOnce}
use Rattle.iox_tables.specs.HubBooks.Keeps.{AreTargetsOf, delivers}
use Rattle.iox_tables.specs.HubBooks.Rooms.{most_holders}
use Rattle.iox_tables.proofs.HubBooks.Bounds.{all_lanes_from, lane_once, lanes_below}
use Rattle.iox_tables.proofs.HubBooks.LaneLists.{lanes_same, lanes_total}
use Rattle.iox_tables.proofs.HubBooks.LoanDeliveries.{gives}
use Rattle.iox_tables.proofs.HubBooks.Totals.{total-last}
use Rattle.iox_tables.proofs.HubBooks.Used.{handle_below, handle_is, lane_below, on_no_lane}
use Rattle.iox_hub_delivering.specs.Deliveries.{HasDelivered, in_count, out_count, pushed_on, pushed_out_by}
use Rattle.iox_hub_delivering.specs.Steps.{DeliversOneMore, EachStepDelivers, HandsOver, OneWayHandsOver, SentStaysHeld, with_out}
use Rattle.iox_hub_delivering.proofs.Both.{one_lane_may_take_over}
use Rattle.iox_hub_delivering.proofs.Pushed.{lane_gives, lanes_give}
use Rattle.iox_hub_delivering.proofs.Slots.{held_one, out_bare, out_one}
use Rattle.iox_hub_delivering.proofs.Stepped.{has_last}
use Rattle.iox_slots.proofs.BareLemmas.{held_bare}
use Rattle.iox_tables.proofs.HubBooks.Left.{total_ones}

own_loan : (kind : Kind) → is_loan kind ≡ true → is_own kind ≡ true
own_loan kinds.RequestMutUninit e = refl
own_loan kinds.RequestMut e = refl
own_loan kinds.ResponseMutUninit e = refl
own_loan kinds.ResponseMut e = refl
own_loan kinds.Client e = absurd (true≢false (sym e))
own_loan kinds.Server e = absurd (true≢false (sym e))
own_loan kinds.PendingResponse e = refl
own_loan kinds.ActiveRequest e = absurd (true≢false (sym e))
own_loan kinds.Response e = absurd (true≢false (sym e))

-- ---- counts of several ways

pub pushed_none : (k : ℕ) (lanes : OnWays LaneState) (ws : List Way) (pool j : ℕ) → pushed_on false k lanes ws pool j ≡ 0
pushed_none k lanes [] pool j = refl
pushed_none k lanes (w ∷ ws) pool j = both _ _ (at (lanes w)) (pushed_none k lanes ws pool j)
  where
    both : (a b : ℕ) → a ≡ 0 → b ≡ 0 → a + b ≡ 0
    both a b e f = omega (arith, e, f)

    here : (n : ℕ) → n ≡ 0 → (b : Bool) → (if b then n else 0) ≡ 0
    here n e true = e
    here n e false = refl

    at : (o : Option LaneState) → option_map_or (out_count false k pool j) o 0 ≡ 0
    at (Some l) = here 0 refl (l.pool == pool)
    at None = refl

-- the lanes of different ways have a message no more often than all lanes
some_of_all : (pool j : ℕ) (ports : List PortState) (ws : List Way) → AreDistinctWays ws → total (by_lane (lane_count pool j) 0 (lane_on ports)) ws ≤ lane_uses ports pool j
some_of_all pool j ports ws apart = below _ _ _ _ (lanes_total (lane_count pool j) none ports ws apart) (nothing ws)
  where
    none : LaneState → LaneState
    none l = record l { waiting = []; returned = []; taken = [] }

    below : (a b c d : ℕ) → a + b ≡ c + d → d ≡ 0 → b ≤ c
    below a b c d e z = omega (arith, e, z)

    here : (n : ℕ) → n ≡ 0 → (b : Bool) → (if b then n else 0) ≡ 0
    here n e true = e
    here n e false = refl

    at : (o : Option LaneState) → option_map_or (λ l. lane_count pool j (none l)) o 0 ≡ 0
    at (Some l) = here 0 refl (l.pool == pool)
    at None = refl

    nothing : (vs : List Way) → total (by_lane (λ l. lane_count pool j (none l)) 0 (lane_on ports)) vs ≡ 0
    nothing [] = refl
    nothing (v ∷ vs) = let one = at (lane_on ports v) in let more = nothing vs in omega (arith, one, more)

-- what is pushed out counts once in its pool
out_is_one : (overflow : Bool) (k : ℕ) (l : LaneState) (pool j : ℕ) → l.pool ≡ pool → pushed_out_by overflow k l ≡ Some j → out_count overflow k pool j l ≡ 1
out_is_one overflow k l pool j of_pool is_out =
    ap (λ (p : ℕ). if p == pool then option_map_or (λ i. if i == j then 1 else 0) (pushed_out_by overflow k l) 0 else 0) of_pool
    ∙ ap (λ (b : Bool). if b then option_map_or (λ i. if i == j then 1 else 0) (pushed_out_by overflow k l) 0 else 0) (eq-eqb pool pool refl)
    ∙ ap (λ (o : Option ℕ). option_map_or (λ i. if i == j then 1 else 0) o 0) is_out
    ∙ ap (λ (b : Bool). if b then 1 else 0) (eq-eqb j j refl)

module _ (t : HubTables) (order : AreInOrder t) (node n : ℕ) (h : HandleState) (named : IsHandle t node n h) (loan : is_loan h.kind ≡ true) where
  is : IsOfPort t h
  is = handle_is (IsOfPort t) t.handles node n h order.ports named.there

  pub alone : (slot_at t.pools h.pool h.slot).holders ≡ 1
  alone = handle_is (λ k. is_loan k.kind ≡ true → (slot_at t.pools k.pool k.slot).holders ≡ 1) t.handles node n h order.alone named.there loan

  -- no lane has a loan's message
  none_has : (ws : List Way) → total (by_lane (lane_count h.pool h.slot) 0 (lane_on t.ports)) ws ≡ 0
  none_has [] = refl
  none_has (w ∷ ws) = both _ _ (at (lane_on t.ports w) refl) (none_has ws)
    where
      both : (a b : ℕ) → a ≡ 0 → b ≡ 0 → a + b ≡ 0
      both a b e f = omega (arith, e, f)

      here : (l : LaneState) → lane_on t.ports w ≡ Some l → (b : Bool) → (l.pool == h.pool) ≡ b → (if b then how_often h.slot (places_on l) else 0) ≡ 0
      here l there true e = on_no_lane t order node n h named.there alone w l there (eqb-true l.pool h.pool e)
      here l there false e = refl

      at : (o : Option LaneState) → lane_on t.ports w ≡ o → option_map_or (lane_count h.pool h.slot) o 0 ≡ 0
      at (Some l) there = here l there (l.pool == h.pool) refl
      at None there = refl

  -- it keeps its own holder
  pub stays_held : (overflow : Bool) (ws : List Way) (pools : List (Option PoolState)) → HasDelivered overflow h.slot (lane_on t.ports) ws t.pools pools
      → 0 < (slot_at pools h.pool h.slot).holders
  stays_held overflow ws pools given =
      let new = given.holders h.pool h.slot in
      let one = alone in
      let all = lanes_give overflow h.slot h.pool h.slot (lane_on t.ports) ws in
      let none = none_has ws in omega (arith, new, one, all, none)

  module _ (overflow : Bool) (ws : List Way) (w : Way) (l : LaneState) (targets : AreTargetsOf t h (ws ++ w ∷ [])) (there : lane_on t.ports w ≡ Some l) (pools : List (Option PoolState))
      (given : HasDelivered overflow h.slot (lane_on t.ports) ws t.pools pools)
    where
      of_pool : l.pool ≡ h.pool
      of_pool =
          (order.lanes w l is.port there (ap (port_in t.ports) (targets.sender w (has_last w ws)) ∙ is.there)).of_pool
          ∙ sym (is.of_pool (own_loan h.kind loan))

      -- a sum over the ways, and this one
      last : (f : LaneState → ℕ) → total (by_lane f 0 (lane_on t.ports)) (ws ++ w ∷ []) ≡ total (by_lane f 0 (lane_on t.ports)) ws + f l
      last f =
          total-last (by_lane f 0 (lane_on t.ports)) ws w
          ∙ ap (λ o. total (by_lane f 0 (lane_on t.ports)) ws + option_map_or f o 0) there

      -- what the lane gets
      into : (pool j : ℕ) → in_count h.slot pool j l ≡ one_at h.pool h.slot pool j
      into pool j = ap (λ (p : ℕ). if (p == pool) && (h.slot == j) then 1 else 0) of_pool

      itself : in_count h.slot h.pool h.slot l ≡ 1
      itself = into h.pool h.slot ∙ ap₂ (λ (a b : Bool). if a && b then 1 else 0) (eq-eqb h.pool h.pool refl) (eq-eqb h.slot h.slot refl)

      taken : 0 < (slot_at pools h.pool h.slot).holders
      taken = stays_held overflow ws pools given

      -- ---- a bound

      abbrev new_ports : List PortState
      new_ports = with_lanes_on (delivers false h.slot) t.ports (ws ++ w ∷ [])

      on_most : lane_uses new_ports h.pool h.slot ≤ on_lanes (λ m. 1) new_ports
      on_most =
          lanes_below (lane_count h.pool h.slot) (λ m. 1) new_ports
          (all_lanes_from HasEachPlaceOnce (λ m. lane_count h.pool h.slot m ≤ 1) (lane_once h.pool h.slot) new_ports
          (gives t order node n h named loan (own_loan h.kind loan) false (ws ++ w ∷ []) targets).once)

      fits : (slot_at pools h.pool h.slot).holders + 1 ≤ most_holders t
      fits =
          let new = given.holders h.pool h.slot in
          let one = alone in
          let most = on_most in
          let same = lanes_same (λ m. 1) (delivers false h.slot) (λ m. refl) t.ports (ws ++ w ∷ []) in
          let lanes = lanes_total (lane_count h.pool h.slot) (delivers false h.slot) t.ports (ws ++ w ∷ []) targets.apart in
          let sums = lanes_give false h.slot h.pool h.slot (lane_on t.ports) (ws ++ w ∷ []) in
          let none = pushed_none h.slot (lane_on t.ports) (ws ++ w ∷ []) h.pool h.slot in
          let more = last (in_count h.slot h.pool h.slot) in
          let own = itself in
          let handles = handle_below (λ k. 1) t.handles node n h named.there in
          let ones = total_ones t.handles in
          omega (arith, new, one, most, same, lanes, sums, none, more, own, handles, ones)

      -- ---- what is pushed out

      out : (j : ℕ) → pushed_out_by overflow h.slot l ≡ Some j → 0 < (slot_at (with_slot held pools h.pool h.slot) h.pool j).holders
      out j is_out =
          let new = given.holders h.pool j in
          let old = order.counted h.pool j in
          let all = lanes_give overflow h.slot h.pool j (lane_on t.ports) ws in
          let lane = lane_gives overflow h.slot h.pool j l in
          let pushed = out_is_one overflow h.slot l h.pool j of_pool is_out in
          let in_it = into h.pool j in
          let some = some_of_all h.pool j t.ports (ws ++ w ∷ []) targets.apart in
          let more = last (lane_count h.pool j) in
          let one = held_one pools h.pool h.slot taken h.pool j in
          omega (arith, new, old, all, lane, pushed, in_it, some, more, one)

      -- ---- all slots

      abbrev holds : List (Option PoolState)
      holds = with_slot held pools h.pool h.slot

      after : (pool j : ℕ) → (slot_at (with_out holds h.pool (pushed_out_by overflow h.slot l)) pool j).holders + out_count overflow h.slot pool j l ≡ (slot_at holds pool j).holders
      after pool j =
          ap
          (λ (p : ℕ).
          (slot_at (with_out holds h.pool (pushed_out_by overflow h.slot l)) pool j).holders
          + (if p == pool then option_map_or (λ i. if i == j then 1 else 0) (pushed_out_by overflow h.slot l) 0 else 0)) of_pool
          ∙ out_one holds h.pool (pushed_out_by overflow h.slot l) out pool j

      delivered : HasDelivered overflow h.slot (lane_on t.ports) (ws ++ w ∷ []) t.pools (with_out holds h.pool (pushed_out_by overflow h.slot l))
      delivered = record {
        same = given.same ∙ held_bare pools h.pool h.slot ∙ out_bare holds h.pool (pushed_out_by overflow h.slot l);
        holders = λ pool j.
            let new = given.holders pool j in
            let one = held_one pools h.pool h.slot taken pool j in
            let less = after pool j in
            let pushed = last (out_count overflow h.slot pool j) in
            let got = last (in_count h.slot pool j) in
            let in_it = into pool j in omega (arith, new, one, less, pushed, got, in_it);
      }

      pub one_more : DeliversOneMore overflow t h ws w l pools
      one_more = record { taken = taken; fits = fits; out = out; delivered = delivered }

  -- ---- on one way alone

  module _ (overflow : Bool) (w : Way) (l : LaneState) (from : w.sender ≡ h.port) (there : lane_on t.ports w ≡ Some l) where
    lane_pool : l.pool ≡ h.pool
    lane_pool = (order.lanes w l is.port there (ap (port_in t.ports) from ∙ is.there)).of_pool ∙ sym (is.of_pool (own_loan h.kind loan))

    handed_out : (j : ℕ) → pushed_out_by overflow h.slot l ≡ Some j → 0 < (slot_at t.pools h.pool j).holders
    handed_out j is_out = step (h.slot == j) refl
      where
        step : (b : Bool) → (h.slot == j) ≡ b → 0 < (slot_at t.pools h.pool j).holders
        step true e = subst (λ i. 0 < (slot_at t.pools h.pool i).holders) (eqb-true h.slot j e) (let one = alone in omega (arith, one))
        step false e =
            let lane = lane_gives overflow h.slot h.pool j l in
            let pushed = out_is_one overflow h.slot l h.pool j lane_pool is_out in
            let none : in_count h.slot h.pool j l ≡ 0 = ap₂ (λ (a b : Bool). if a && b then 1 else 0) (ap (λ p. p == h.pool) lane_pool ∙ eq-eqb h.pool h.pool refl) e in
            let below = lane_below (lane_count h.pool j) t.ports w l there in
            let all = order.counted h.pool j in omega (arith, lane, pushed, none, below, all)

    pub hands_over : HandsOver overflow t h w l
    hands_over = record {
      out = handed_out;
      handed =
          one_lane_may_take_over overflow (lane_on t.ports) w l h t.pools (with_out t.pools h.pool (pushed_out_by overflow h.slot l)) there lane_pool
          (out_bare t.pools h.pool (pushed_out_by overflow h.slot l))
          (λ pool j.
          ap
          (λ (p : ℕ).
          (slot_at (with_out t.pools h.pool (pushed_out_by overflow h.slot l)) pool j).holders
          + (if p == pool then option_map_or (λ i. if i == j then 1 else 0) (pushed_out_by overflow h.slot l) 0 else 0)) lane_pool
          ∙ out_one t.pools h.pool (pushed_out_by overflow h.slot l) handed_out pool j);
    }

pub one_way_hands_over : OneWayHandsOver
one_way_hands_over t node n h overflow w l order named loan from there = hands_over t order node n h named loan overflow w l from there

pub each_step_delivers : EachStepDelivers
each_step_delivers t node n h overflow ws w l pools order named loan targets there given = one_more t order node n h named loan overflow ws w l targets there pools given

pub sent_stays_held : SentStaysHeld
sent_stays_held t node n h overflow ws pools order named loan given = stays_held t order node n h named loan overflow ws pools given
