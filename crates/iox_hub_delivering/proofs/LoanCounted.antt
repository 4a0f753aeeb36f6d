-- Where a port counts one loan more, and nothing else changes, the tables stay in order.
use Rattle.std.specs.Prelude.{◌≡◌, ℕ, ◌+◌, ◌<◌, true, ◌++◌, map, Some, refl}
use Rattle.std.proofs.Common.{sym, ap, subst, ◌∙◌, arith, inl, inr}
use Rattle.iox_model.specs.declared.way.Way.{Way}
use Rattle.iox_model.specs.Maps.{AreDistinct, has_number}
use Rattle.iox_lanes.specs.Lanes.{LaneState}
use Rattle.iox_tables.specs.HubStates.Tables.{HandleState, HubTables, PortState, pool_at, port_in, slot_at, senders_of}
use Rattle.iox_tables.specs.HubStates.Ways.{OnWays, lane_on}
use Rattle.iox_tables.specs.HubStates.Ends.{with_loan}
use Rattle.iox_tables.specs.HubBooks.Counts.{handle_uses, lane_count}
use Rattle.iox_tables.specs.HubBooks.Handles.{IsFromLane, IsOfPoolOrGone, IsOfPort, way_in}
use Rattle.iox_tables.specs.HubBooks.Hubs.{AreInOrder, HasEachPlaceOnce, HasPool, HaveNumbers, HavePools, HaveSerials, IsUsed}
use Rattle.iox_tables.proofs.HubBooks.Held.{each_handle_from}
use Rattle.iox_tables.proofs.HubLending.OneMore.{Was, all_same, counts_same, is_now, lanes_same, numbers_same, role_same, senders_stay, there_same, was, widths_stay, wired_stay}
use Rattle.iox_hub_delivering.specs.Copies.{CountedLoansKeepOrder}

module _ (t : HubTables) (n : ℕ) (order : AreInOrder t) where
  abbrev u : HubTables
  u = with_loan t n

  had : (m : ℕ) (p : PortState) → port_in u.ports m ≡ Some p → Was t.ports n m p
  had m p at = was t.ports n m p at

  lane_was : (w : Way) → lane_on u.ports w ≡ lane_on t.ports w
  lane_was w = ap (λ (on : OnWays LaneState). on w) (lanes_same t.ports n)

  -- ---- slots

  serials : HaveSerials u
  serials = record { apart = order.serials.apart; below = below }
    where
      below : (m k : ℕ) (p : PortState) → port_in u.ports m ≡ Some p → IsUsed u p.pool k → (slot_at t.pools p.pool k).serial < p.loans
      below m k p at used =
          let s = had m p at in
          let pool : s.port.pool ≡ p.pool = ap (λ (x : PortState). x.pool) s.same in
          let low : (slot_at t.pools p.pool k).serial < s.port.loans
          = subst (λ c. (slot_at t.pools c k).serial < s.port.loans) pool (order.serials.below m k s.port s.there (subst (λ c. IsUsed t c k) (sym pool) used)) in
          let more = s.loans in omega (arith, low, more)

  pools : HavePools u
  pools = record { each = each; apart = order.pools.apart }
    where
      each : (m : ℕ) (p : PortState) → port_in u.ports m ≡ Some p → HasPool u p
      each m p at =
          let s = had m p at in
          let old = order.pools.each m s.port s.there in record {
            pool = old.pool;
            there = ap (λ (x : PortState). pool_at t.pools x.pool) (sym s.same) ∙ old.there;
            port = old.port ∙ ap (λ (x : PortState). x.number) s.same;
            node_id = old.node_id ∙ ap (λ (x : PortState). x.node_id) s.same;
            port_id = old.port_id ∙ ap (λ (x : PortState). x.id) s.same;
            size = old.size ∙ ap (λ (x : PortState). x.size) s.same;
          }

  -- ---- handles

  numbers : HaveNumbers u
  numbers = record {
    apart = subst (λ ns. AreDistinct (ns ++ map (λ h. h.number) t.handles)) (sym (numbers_same t.ports n)) order.numbers.apart;
    below = λ m has. order.numbers.below m (subst (λ ns. has_number m (ns ++ map (λ h. h.number) t.handles) ≡ true) (numbers_same t.ports n) has);
    owners = order.numbers.owners;
    kept = λ m p at j has.
        let b = had m p at in order.numbers.kept m b.port b.there j (ap (λ (x : PortState). has_number j (senders_of x.expired.pipes)) b.same ∙ has);
  }

  of_port : (h : HandleState) → IsOfPort t h → IsOfPort u h
  of_port h is =
      let now = is_now t.ports n h.port is.port is.there in
      let same = now.2 in record {
        port = now.0;
        there = now.1;
        on_node = is.on_node ∙ sym (ap (λ (x : PortState). x.node) same);
        role = ap (λ (x : PortState). x.role) same ∙ is.role;
        either = is.either;
        of_pool = λ own. is.of_pool own ∙ sym (ap (λ (x : PortState). x.pool) same);
        lane = λ own client.
            subst (λ c. (slot_at t.pools h.pool h.slot).lane < c) (sym (ap (λ (x : PortState). x.size) same)) (is.lane own (sym (ap (λ (x : PortState). x.role) same) ∙ client));
        client = is.client;
      }

  from_lane : (h : HandleState) → IsFromLane t h → IsFromLane u h
  from_lane h is received = step (is received)
    where
      step : IsOfPoolOrGone t (way_in t.pools h) h.pool → IsOfPoolOrGone u (way_in t.pools h) h.pool
      step (inl l) = inl (l.0, lane_was (way_in t.pools h) ∙ l.1, l.2)
      step (inr gone) = inr (lane_was (way_in t.pools h) ∙ gone.0, there_same t.ports n (way_in t.pools h).sender ∙ gone.1)

  pub counted_in_order : AreInOrder u
  counted_in_order = record {
    counted = λ pool k. order.counted pool k ∙ ap (λ m. handle_uses t.handles pool k + m) (sym (counts_same t.ports n (lane_count pool k)));
    serials = serials;
    pools = pools;
    once = all_same t.ports n HasEachPlaceOnce order.once;
    lanes = senders_stay t u order n refl refl;
    labels = λ w l k at client has. order.labels w l k (sym (lane_was w) ∙ at) (sym (role_same t.ports n w.receiver) ∙ client) has;
    owners = λ w l k at has. order.owners w l k (sym (lane_was w) ∙ at) has;
    widths = widths_stay t u order n refl refl;
    wired = wired_stay t u order n refl refl;
    numbers = numbers;
    ports = each_handle_from (IsOfPort t) (IsOfPort u) of_port t.handles order.ports;
    alone = order.alone;
    own = order.own;
    taken = λ w l k at. order.taken w l k (sym (lane_was w) ∙ at);
    received = each_handle_from (IsFromLane t) (IsFromLane u) from_lane t.handles order.received;
  }

pub counted_loans_keep_order : CountedLoansKeepOrder
counted_loans_keep_order t n order = counted_in_order t n order
