-- As request states change, a port's own value is released, or a call is counted, tables stay in order.
use Rattle.std.specs.Prelude.{◌≡◌, ℕ, ◌+◌, ◌≤◌, Bool, true, false, if◌then◌else◌, ◌==◌, List, slice_get, [], Option, Some, None, refl}
use Rattle.std.specs.Option.{option_map, option_map_or}
use Rattle.std.proofs.Common.{sym, ap, subst, ◌∙◌, arith}
use Rattle.iox_model.specs.declared.way.RequestState.{RequestState}
use Rattle.iox_model.specs.declared.way.Way.{Way}
use Rattle.iox_lanes.specs.Lanes.{LaneState}
use Rattle.iox_tables.specs.HubStates.Tables.{HubTables, PortState, pipes_of, port_in}
use Rattle.iox_tables.specs.HubStates.Ways.{OnWays, lane_on, lanes_from, with_port, with_states_on}
use Rattle.iox_tables.specs.HubStates.Shown.{by_lane}
use Rattle.iox_tables.specs.HubStates.Steps.{places_on}
use Rattle.iox_tables.proofs.HubStates.Keys.{all_lanes_stay, first_changed}
use Rattle.iox_tables.specs.HubBooks.Counts.{OfAllLanes, how_often, in_port, lane_count, on_lanes}
use Rattle.iox_tables.specs.HubBooks.Hubs.{AreInOrder, HasEachPlaceOnce}
use Rattle.iox_tables.specs.HubBooks.Keeps.{LittleChangesKeepOrder}
use Rattle.iox_tables.proofs.HubBooks.Eachs.{OfPort, all_with_first}
use Rattle.iox_tables.proofs.HubBooks.Frames.{AreAlike, port_bare, states_on_bare}
use Rattle.iox_tables.proofs.HubBooks.Lessening.{HasNoMore, kept}
use Rattle.iox_tables.proofs.HubBooks.Released.{states_keep, states_total}
use Rattle.iox_tables.proofs.HubBooks.Totals.{first_none, total_first}

le_refl : (n : ℕ) → n ≤ n
le_refl n = omega arith

-- ports with the same lanes
no_more : (old new : List PortState) → AreAlike old new → (OfAllLanes HasEachPlaceOnce old → OfAllLanes HasEachPlaceOnce new) → lane_on new ≡ lane_on old → HasNoMore old new
no_more old new alike once same = record {
  alike = alike;
  once = once;
  places = λ w k.
      subst (λ (on : OnWays LaneState). by_lane (λ l. how_often k (places_on l)) 0 on w ≤ by_lane (λ l. how_often k (places_on l)) 0 (lane_on old) w) (sym same)
      (le_refl (by_lane (λ l. how_often k (places_on l)) 0 (lane_on old) w));
  taken = λ w k. ap (λ (on : OnWays LaneState). by_lane (λ l. how_often k l.taken) 0 on w) same;
}

module _ (t : HubTables) (order : AreInOrder t) where
  stays : (ports : List PortState) → HasNoMore t.ports ports → ((f : LaneState → ℕ) → on_lanes f ports ≡ on_lanes f t.ports) → (calls : ℕ)
      → AreInOrder (record t { calls = calls; ports = ports })
  stays ports same totals calls =
      kept t order ports same t.pools refl (λ pool k. le_refl _) calls
      (λ pool k. let old = order.counted pool k in let lanes = totals (lane_count pool k) in omega (arith, old, lanes))

  states : (g : RequestState → RequestState) (ws : List Way) → AreInOrder (record t { ports = with_states_on g t.ports ws })
  states g ws =
      stays (with_states_on g t.ports ws) (no_more t.ports (with_states_on g t.ports ws) (states_on_bare g t.ports ws) (states_keep g HasEachPlaceOnce t.ports ws) (all_lanes_stay g t.ports ws))
      (λ f. states_total g f t.ports ws) t.calls

  counts : AreInOrder (record t { calls = t.calls + 1 })
  counts = stays t.ports (no_more t.ports t.ports refl (λ a. a) refl) (λ f. refl) (t.calls + 1)

  module _ (n : ℕ) where
    abbrev ports : List PortState
    ports = with_port (λ p. record p { held = false }) t.ports n

    lanes_same : lane_on ports ≡ lane_on t.ports
    lanes_same = λ i w. one w i
      where
        step : (w : Way) (b : Bool) (o : Option PortState)
            → slice_get (lanes_from (option_map_or pipes_of (if b then option_map (λ (p : PortState). record p { held = false }) o else o) []) w.sender) w.lane
            ≡ slice_get (lanes_from (option_map_or pipes_of o []) w.sender) w.lane
        step w true (Some p) = refl
        step w true None = refl
        step w false o = refl

        one : (w : Way) → lane_on ports w ≡ lane_on t.ports w
        one w =
            ap (λ o. slice_get (lanes_from (option_map_or pipes_of o []) w.sender) w.lane)
            (first_changed (λ (p : PortState). p.number) (λ p. record p { held = false }) (λ p. refl) t.ports n w.receiver)
            ∙ step w (w.receiver == n) (port_in t.ports w.receiver)

    totals : (f : LaneState → ℕ) → on_lanes f ports ≡ on_lanes f t.ports
    totals f = step (port_in t.ports n) refl
      where
        step : (o : Option PortState) → port_in t.ports n ≡ o → on_lanes f ports ≡ on_lanes f t.ports
        step (Some p) e = let all = total_first (λ (x : PortState). x.number) (λ x. record x { held = false }) (in_port f) t.ports n p e in less (on_lanes f ports) (in_port f p) (on_lanes f t.ports) all
          where
            less : (a b c : ℕ) → a + b ≡ c + b → a ≡ c
            less a b c e = omega (arith, e)
        step None e = ap (on_lanes f) (first_none (λ (x : PortState). x.number) (λ x. record x { held = false }) t.ports n e)

    values : AreInOrder (record t { ports = ports })
    values =
        stays ports
        (no_more t.ports ports (port_bare (λ p. record p { held = false }) (λ p. refl) t.ports n)
        (λ a. all_with_first (OfPort HasEachPlaceOnce) (λ (p : PortState). p.number) (λ p. record p { held = false }) t.ports n (λ p b. b) a) lanes_same)
        totals t.calls

pub little_changes_keep_order : LittleChangesKeepOrder
little_changes_keep_order t order = (states t order, values t order, counts t order)
