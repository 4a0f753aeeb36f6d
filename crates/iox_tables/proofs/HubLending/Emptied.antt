-- Tables stay in order as lanes are emptied.
use Rattle.std.specs.Prelude.{◌≡◌, ℕ, ◌+◌, ◌≤◌, Bool, true, false, if◌then◌else◌, ◌==◌, List, [], ◌∷◌, Option, Some, None, refl}
use Rattle.std.specs.Option.{option_map_or}
use Rattle.std.proofs.Common.{◌∙◌, arith}
use Rattle.iox_model.specs.declared.way.Way.{Way}
use Rattle.iox_lanes.specs.Lanes.{LaneState}
use Rattle.iox_tables.specs.HubStates.Tables.{PortState}
use Rattle.iox_tables.specs.HubStates.Ways.{lane_on, with_lanes_on}
use Rattle.iox_tables.specs.HubStates.Changes.{emptied_lane}
use Rattle.iox_tables.specs.HubStates.Shown.{by_lane}
use Rattle.iox_tables.specs.HubStates.Steps.{places_on}
use Rattle.iox_tables.specs.HubBooks.Counts.{how_often, lane_count, total}
use Rattle.iox_tables.specs.HubBooks.Hubs.{HasEachPlaceOnce, HoldersAreCounted}
use Rattle.iox_tables.proofs.HubBooks.Eachs.{lanes_keep}
use Rattle.iox_tables.proofs.HubBooks.Frames.{lanes_on_bare}
use Rattle.iox_tables.proofs.HubBooks.LaneCounts.{emptied_places}
use Rattle.iox_tables.proofs.HubBooks.LaneLists.{lanes_total}
use Rattle.iox_tables.proofs.HubBooks.Lessening.{HasNoMore, all_less, all_same, kept}
use Rattle.iox_tables.specs.HubLending.Emptying.{EmptyingKeepsOrder, returned_count, returned_on}

le_trans : (a b c : ℕ) → a ≤ b → b ≤ c → a ≤ c
le_trans a b c p q = omega (arith, p, q)

emptied_less : (k : ℕ) (l : LaneState) → how_often k (places_on (emptied_lane l)) ≤ how_often k (places_on l)
emptied_less k l = let e = emptied_places (λ n. if n == k then 1 else 0) l in omega (arith, e)

emptied_no_more : (ports : List PortState) (ws : List Way) → HasNoMore ports (with_lanes_on emptied_lane ports ws)
emptied_no_more ports ws = record {
  alike = lanes_on_bare emptied_lane (λ l. refl) ports ws;
  once = lanes_keep HasEachPlaceOnce emptied_lane ports ws (λ l has k. le_trans _ _ _ (emptied_less k l) (has k));
  places = λ w k. all_less (λ l. how_often k (places_on l)) emptied_lane (emptied_less k) ports ws w;
  taken = λ w k. all_same (λ l. how_often k l.taken) emptied_lane (λ l. refl) ports ws w;
}

pub emptying_keeps_order : EmptyingKeepsOrder
emptying_keeps_order t ws pools order apart fewer =
    kept t order (with_lanes_on emptied_lane t.ports ws) (emptied_no_more t.ports ws) pools fewer.same (λ pool k. low _ _ _ (fewer.holders pool k)) t.calls counted
  where
    low : (a b c : ℕ) → c ≡ a + b → a ≤ c
    low a b c e = omega (arith, e)

    one : (pool k : ℕ) (l : LaneState) → lane_count pool k (emptied_lane l) + returned_count pool k l ≡ lane_count pool k l
    one pool k l = step (l.pool == pool)
      where
        none : 0 + 0 ≡ 0
        none = omega arith

        step : (b : Bool) → (if b then how_often k (places_on (emptied_lane l)) else 0) + (if b then how_often k l.returned else 0) ≡ (if b then how_often k (places_on l) else 0)
        step true = emptied_places (λ n. if n == k then 1 else 0) l
        step false = none

    sums : (pool k : ℕ) (vs : List Way)
        → total (by_lane (λ l. lane_count pool k (emptied_lane l)) 0 (lane_on t.ports)) vs + returned_on t vs pool k
        ≡ total (by_lane (lane_count pool k) 0 (lane_on t.ports)) vs
    sums pool k [] = omega arith
    sums pool k (v ∷ vs) = step (lane_on t.ports v) (sums pool k vs)
      where
        step : (o : Option LaneState)
            → total (by_lane (λ l. lane_count pool k (emptied_lane l)) 0 (lane_on t.ports)) vs + returned_on t vs pool k ≡ total (by_lane (lane_count pool k) 0 (lane_on t.ports)) vs
            → (option_map_or (λ l. lane_count pool k (emptied_lane l)) o 0 + total (by_lane (λ l. lane_count pool k (emptied_lane l)) 0 (lane_on t.ports)) vs)
            + (option_map_or (returned_count pool k) o 0 + returned_on t vs pool k)
            ≡ option_map_or (lane_count pool k) o 0 + total (by_lane (lane_count pool k) 0 (lane_on t.ports)) vs
        step (Some l) rest = let e = one pool k l in omega (arith, e, rest)
        step None rest = omega (arith, rest)

    counted : HoldersAreCounted (record t { ports = with_lanes_on emptied_lane t.ports ws; pools = pools })
    counted pool k =
        let new = fewer.holders pool k in
        let old = order.counted pool k in
        let all = lanes_total (lane_count pool k) emptied_lane t.ports ws apart in
        let sum = sums pool k ws in omega (arith, new, old, all, sum)
