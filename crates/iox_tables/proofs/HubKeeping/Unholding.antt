-- The release of a port's own value keeps the tables of a hub in order.
use Rattle.std.specs.Prelude.{◌≡◌, ℕ, ◌<◌, List, [], ◌++◌, map, Option, Some, None, refl}
use Rattle.std.proofs.Common.{sym, ap, subst, ◌∙◌, arith}
use Rattle.iox_model.specs.declared.way.Way.{Way}
use Rattle.iox_lanes.specs.Lanes.{LaneState}
use Rattle.iox_tables.specs.HubStates.Tables.{HubTables, PortState, pipes_of, pipes_to, port_in, slot_at}
use Rattle.iox_tables.specs.HubStates.Ways.{lane_by, lane_on}
use Rattle.iox_tables.specs.HubStates.Releases.{with_value_released}
use Rattle.iox_tables.specs.HubBooks.Counts.{in_port, lane_count, on_lanes}
use Rattle.iox_tables.specs.HubBooks.Handles.{IsFromLane, IsOfPort}
use Rattle.iox_tables.specs.HubBooks.Hubs.{AreInOrder, HasEachPlaceOnce, HaveSerials, HoldersAreCounted, IsUsed}
use Rattle.iox_tables.proofs.HubBooks.Eachs.{OfPort, all_with_first}
use Rattle.iox_tables.proofs.HubBooks.Frames.{AreAlike, port_bare, port_before}
use Rattle.iox_tables.proofs.HubBooks.Going.{from_lane_stays, numbers_stay, of_port_stays}
use Rattle.iox_tables.proofs.HubBooks.Held.{each_handle_from}
use Rattle.iox_tables.proofs.HubBooks.Structures.{lanes_stay, pools_stay, same_numbers, same_role_in, widths_stay, wired_stay}
use Rattle.iox_tables.proofs.HubBooks.Totals.{first_none, total_first}
use Rattle.iox_tables.proofs.HubMaking.Unholding.{part_is, unheld}
use Rattle.iox_tables.specs.HubKeeping.Keeps.{ValuesKeepOrder}

module _ (t : HubTables) (n : ℕ) where
  abbrev u : HubTables
  u = with_value_released t n

  alike : AreAlike t.ports u.ports
  alike = port_bare unheld (λ p. refl) t.ports n

  pipes_are : pipes_to u.ports ≡ pipes_to t.ports
  pipes_are = λ i k. part_is t n pipes_of [] (λ p. refl) k i

  lane_is : (w : Way) → lane_on u.ports w ≡ lane_on t.ports w
  lane_is w = ap (λ pipes. lane_by pipes w) pipes_are

  lanes_are : (f : LaneState → ℕ) → on_lanes f u.ports ≡ on_lanes f t.ports
  lanes_are f = step (port_in t.ports n) refl
    where
      step : (o : Option PortState) → port_in t.ports n ≡ o → on_lanes f u.ports ≡ on_lanes f t.ports
      step (Some p) is = let all = total_first (λ x. x.number) unheld (in_port f) t.ports n p is in omega (arith, all)
      step None is = ap (on_lanes f) (first_none (λ x. x.number) unheld t.ports n is)

  module _ (order : AreInOrder t) where
    counted : HoldersAreCounted u
    counted pool k = let old = order.counted pool k in let lanes = lanes_are (lane_count pool k) in omega (arith, old, lanes)

    serials : HaveSerials u
    serials = record {
      apart = order.serials.apart;
      below = λ m k p at used.
          let q = port_before t.ports u.ports alike m p at in
          let is : q.0.pool ≡ p.pool = ap (λ (x : PortState). x.pool) q.2 in
          let low : (slot_at t.pools p.pool k).serial < q.0.loans
          = subst (λ c. (slot_at t.pools c k).serial < q.0.loans) is (order.serials.below m k q.0 q.1 (subst (λ c. IsUsed t c k) (sym is) used)) in
          subst (λ c. (slot_at t.pools p.pool k).serial < c) (ap (λ (x : PortState). x.loans) q.2) low;
    }

    pub in_order : AreInOrder u
    in_order = record {
      counted = counted;
      serials = serials;
      pools = pools_stay t u order alike refl refl;
      once = all_with_first (OfPort HasEachPlaceOnce) (λ p. p.number) unheld t.ports n (λ p a. a) order.once;
      lanes = lanes_stay t u order alike refl refl;
      labels = λ w l k at client has. order.labels w l k (sym (lane_is w) ∙ at) (sym (same_role_in t.ports u.ports alike w.receiver) ∙ client) has;
      owners = λ w l k at has. order.owners w l k (sym (lane_is w) ∙ at) has;
      widths = widths_stay t u order alike refl refl;
      wired = wired_stay t u order alike refl refl;
      numbers = numbers_stay t u order alike refl (ap (λ (ns : List ℕ). ns ++ map (λ h. h.number) t.handles) (same_numbers t.ports u.ports alike)) refl;
      ports = each_handle_from (IsOfPort t) (IsOfPort u) (of_port_stays t u order alike refl) t.handles order.ports;
      alone = order.alone;
      own = order.own;
      taken = λ w l k at. order.taken w l k (sym (lane_is w) ∙ at);
      received = each_handle_from (IsFromLane t) (IsFromLane u) (from_lane_stays t u order alike refl) t.handles order.received;
    }

pub values_keep_order : ValuesKeepOrder
values_keep_order t n order = in_order t n order
