-- All that is so of a hub stays so as a port goes of which nothing is left, and as its pool goes.
use Rattle.std.specs.Prelude.{◌≡◌, ℕ, ◌+◌, ◌-◌, ◌≤◌, Bool, true, false, not, ◌&&◌, if◌then◌else◌, ◌==◌, List, [], ◌∷◌, drop, map, filter, Option, Some, None, is_some, refl}
use Rattle.std.specs.Option.{option_map, option_map_or}
use Rattle.std.proofs.Common.{sym, ap, ap₂, subst, ◌∙◌, arith, true≢false}
use Rattle.std.proofs.lemmas.Option.{none-some}
use Rattle.iox_lanes.specs.Lanes.{LaneState}
use Rattle.iox_tables.specs.HubStates.Tables.{HubTables, PoolState, PortState, owner_of, pipe_from, pool_at, port_in, senders_of, slot_at}
use Rattle.iox_tables.specs.HubStates.States.{Given, state_shown}
use Rattle.iox_tables.specs.HubStates.Steps.{is_there}
use Rattle.iox_hub_ports.specs.declared.info.PortInfo.{PortInfo}
use Rattle.iox_hub_ports.specs.Ports.{info_in, info_of, without_port}
use Rattle.iox_tables.specs.HubMaking.OneByOne.{without_first_pipe}
use Rattle.iox_tables.specs.HubMaking.Expirings.{with_expired}
use Rattle.iox_model.specs.Maps.{AreDistinct}
use Rattle.iox_lanes.specs.Pipes.{PipeState}
use Rattle.iox_tables.specs.HubBooks.Keeps.{bare_pools}
use Rattle.iox_tables.proofs.HubMaking.Kept.{by_kept}
use Rattle.iox_tables.proofs.HubKeeping.Absent.{nothing_is_lost, tables_stay}
use Rattle.iox_slots.specs.Pools.{is_idle, without_pool}
use Rattle.iox_slots.proofs.PlaceLemmas.{idle_holders}
use Rattle.iox_tables.specs.HubBooks.Counts.{OfAll, OfAllLanes, in_port, lane_count, on_lanes, total}
use Rattle.iox_tables.specs.HubBooks.Hubs.{AreInOrder}
use Rattle.iox_tables.specs.HubBooks.Rooms.{CanCountHolders, HasRoomForAll, own_count, spare}
use Rattle.iox_tables.proofs.HubBooks.Eachs.{OfPipe, OfPort, all-append, all-back, all-front, all_first}
use Rattle.iox_tables.proofs.HubBooks.Rooms.{bare_pools_show_the_same}
use Rattle.iox_tables.specs.HubMaking.Disconnections.{cut_from, is_unused, ports_without, with_disconnected}
use Rattle.iox_tables.specs.HubMaking.FreePools.{with_pool_gone}
use Rattle.iox_tables.proofs.HubMaking.Pooling.{free_pools_may_go}
use Rattle.iox_tables.proofs.HubMaking.Rooming.{room_always_stays}
use Rattle.iox_tables.proofs.HubMaking.Summing.{gone_lanes_count}
use Rattle.iox_tables.specs.HubKeeping.Connected.{IsFreePlace}
use Rattle.iox_tables.specs.HubKeeping.Keeps.{lost_uses}
use Rattle.iox_tables.proofs.HubKeeping.GonePools.{pools_may_go}
use Rattle.iox_tables.proofs.HubKeeping.LeftHandles.{disconnections_keep_order}
use Rattle.iox_tables.proofs.HubKeeping.Ordered.{lanes_sum, places_become_free, senders_apart}
use Rattle.iox_control.specs.Controls.{AreCounted, ControlState, IsControl, with_pools}
use Rattle.iox_control.proofs.RoomLemmas.{room_as}
use Rattle.iox_control_releasing.specs.Goings.{with_left_pool_gone}
use Rattle.iox_control_releasing.specs.LettingGo.{LetsGo, with_cut}
use Rattle.iox_control_releasing.proofs.Removed.{goes_with, ports_left}
use Rattle.iox_control_releasing.proofs.Lefts.{info_none}
use Rattle.iox_control_releasing.proofs.Settling.{both_go}
use Rattle.iox_control_releasing.proofs.Walks.{all_from}
use Rattle.iox_tables.specs.HubLending.Emptying.{HasFewerHolders}
use Rattle.iox_tables.proofs.HubKeeping.LeftPorts.{all_filter}

-- ---- what is so of ports and lanes is so of those that are left

all_mapped : (P : PortState → Type 0) (g : PortState → PortState) → ((p : PortState) → P p → P (g p)) → (ps : List PortState) → OfAll P ps → OfAll P (map g ps)
all_mapped P g same [] a = tt
all_mapped P g same (p ∷ ps) a = (same p a.0, all_mapped P g same ps a.1)

all_ports_left : (P : PortState → Type 0) (n : ℕ) → ((p : PortState) → P p → P (cut_from n p)) → (ports : List PortState) → OfAll P ports → OfAll P (ports_without n ports)
all_ports_left P n same ports a =
    all_mapped P (cut_from n) same (filter (λ p. not (p.number == n)) ports) (all_filter P (λ p. not (p.number == n)) ports a)

all_lanes_left : (P : LaneState → Type 0) (n : ℕ) (ports : List PortState) → OfAllLanes P ports → OfAllLanes P (ports_without n ports)
all_lanes_left P n ports a = all_ports_left (OfPort P) n cut ports a
  where
    cut : (p : PortState) → OfPort P p → OfPort P (cut_from n p)
    cut p a =
        all-append (OfPipe P) (with_expired p.expired (pipe_from p.incoming.pipes n)).pipes (filter (λ q. not (q.sender == n)) p.incoming.pipes)
        (by_kept (λ c. OfAll (OfPipe P) c.pipes) p.expired (pipe_from p.incoming.pipes n) old
        (λ q e r. all-append (OfPipe P) p.expired.pipes (q ∷ []) old (sent q e, tt))
        (λ q e r. all-append (OfPipe P) (drop 1 p.expired.pipes) (q ∷ []) (behind p.expired.pipes old) (sent q e, tt)))
        (all_filter (OfPipe P) (λ q. not (q.sender == n)) p.incoming.pipes (all-back (OfPipe P) p.expired.pipes p.incoming.pipes a))
      where
        old : OfAll (OfPipe P) p.expired.pipes
        old = all-front (OfPipe P) p.expired.pipes p.incoming.pipes a

        sent : (q : PipeState) → pipe_from p.incoming.pipes n ≡ Some q → OfPipe P q
        sent q e = all_first (OfPipe P) (λ x. x.sender) p.incoming.pipes n q (all-back (OfPipe P) p.expired.pipes p.incoming.pipes a) e

        behind : (qs : List PipeState) → OfAll (OfPipe P) qs → OfAll (OfPipe P) (drop 1 qs)
        behind [] b = tt
        behind (x ∷ xs) b = b.1

total_left : (f : PortState → ℕ) (n : ℕ) → ((p : PortState) → f (cut_from n p) ≡ f p) → (ports : List PortState) → total f (ports_without n ports) ≤ total f ports
total_left f n same [] = omega arith
total_left f n same (p ∷ ps) = step (not (p.number == n)) (total_left f n same ps)
  where
    step : (b : Bool) → total f (ports_without n ps) ≤ total f ps
        → total f (map (cut_from n) (if b then p ∷ filter (λ q. not (q.number == n)) ps else filter (λ q. not (q.number == n)) ps)) ≤ f p + total f ps
    step true rest = let one = same p in omega (arith, rest, one)
    step false rest = omega (arith, rest)

lanes_left : (f : LaneState → ℕ) (n : ℕ) (ports : List PortState) → OfAll (λ p. AreDistinct (senders_of p.incoming.pipes)) ports
    → on_lanes f (ports_without n ports) ≤ on_lanes f ports
lanes_left f n ports apart =
    let old = lanes_sum f ports in
    let new = lanes_sum f (ports_without n ports) in
    let all = gone_lanes_count f n ports apart in omega (arith, old, new, all)

-- ---- a port goes

module _ (c new : ControlState) (n : ℕ) (order : IsControl c) (there : is_there c.tables.ports n ≡ true) (unused : is_unused c.tables n ≡ true) (room : new.room ≡ c.room)
    (is : new.tables ≡ record (with_disconnected c.tables n) { pools = new.tables.pools })
    (fewer : HasFewerHolders c.tables.pools new.tables.pools (lost_uses c.tables n))
  where
    abbrev t : HubTables
    t = c.tables

    abbrev u : HubTables
    u = record (with_disconnected t n) { pools = new.tables.pools }

    abbrev own : PortState → ℕ
    own p = p.size - own_count t.handles p

    pub port_gone : IsControl new
    port_gone = record {
      buffers = subst (λ (s : HubTables). Rattle.iox_control.specs.Controls.HaveBuffers s.settings) (sym is) order.buffers;
      order = subst AreInOrder (sym is) (disconnections_keep_order t n new.tables.pools order.order there unused fewer);
      ports = subst Rattle.iox_tables.specs.HubMaking.OneByOne.HaveRoom (sym is)
          (room_as (with_disconnected t n) u refl refl ((room_always_stays t).gone n order.ports));
      counted = subst AreCounted (sym is) counted;
      room = subst (λ k. HasRoomForAll k new.tables) (sym room) (subst (HasRoomForAll c.room) (sym is) all);
      holders = subst (λ k. CanCountHolders k new.tables) (sym room) (subst (CanCountHolders c.room) (sym is) held);
    }
      where
        counted : AreCounted u
        counted = record {
          calls = order.counted.calls;
          ports = order.counted.ports;
          numbers = order.counted.numbers;
          loans = all_ports_left (λ p. p.loans ≤ t.calls) n (λ p a. a) t.ports order.counted.loans;
          deliveries = all_lanes_left (λ l. l.deliveries ≤ t.calls) n t.ports order.counted.deliveries;
        }

        all : HasRoomForAll c.room u
        all =
            let lanes : on_lanes spare (ports_without n t.ports) ≤ on_lanes spare t.ports = lanes_left spare n t.ports (senders_apart t order.order) in
            let ports : total own (ports_without n t.ports) ≤ total own t.ports = total_left own n (λ p. refl) t.ports in
            let was : HasRoomForAll c.room t = order.room in
            omega (arith, lanes, ports, was)

        held : CanCountHolders c.room u
        held =
            let lanes : on_lanes (λ l. 1) (ports_without n t.ports) ≤ on_lanes (λ l. 1) t.ports = lanes_left (λ l. 1) n t.ports (senders_apart t order.order) in
            let was : CanCountHolders c.room t = order.holders in
            omega (arith, lanes, was)

    pub gone_shown : (x : Given) → state_shown x (with_disconnected t n) ≡ state_shown x new.tables
    gone_shown x = bare_pools_show_the_same x (with_disconnected t n) new.tables.pools fewer.same ∙ ap (state_shown x) (sym is)

-- no slot loses more than it has
lost_is_had : (t : HubTables) (n pool k : ℕ) → AreInOrder t → lost_uses t n pool k ≤ (slot_at t.pools pool k).holders
lost_is_had t n pool k order =
    let had = order.counted pool k in
    let old = lanes_sum (lane_count pool k) t.ports in
    let all = gone_lanes_count (lane_count pool k) n t.ports (senders_apart t order) in omega (arith, had, old, all)

-- what comes to the port is let go, and then what comes from it
pub all_go : (c mid new : ControlState) (n : ℕ) → IsControl c
    → mid.tables ≡ record (c.tables) { ports = without_port c.tables.ports n; pools = mid.tables.pools } → mid.room ≡ c.room
    → LetsGo c.tables.pools mid.tables.pools (λ pool k. option_map_or (in_port (lane_count pool k)) (port_in c.tables.ports n) 0)
    → new ≡ with_cut mid (map (without_first_pipe n) mid.tables.ports) new.tables.pools
    → LetsGo mid.tables.pools new.tables.pools (all_from n mid.tables.ports)
    → (new.tables ≡ record (with_disconnected c.tables n) { pools = new.tables.pools })
    × ((new.room ≡ c.room) × HasFewerHolders c.tables.pools new.tables.pools (lost_uses c.tables n))
all_go c mid new n order first room to cut from = (
  ap (λ (d : ControlState). d.tables) cut
      ∙ ap (λ (s : HubTables). record s { ports = map (without_first_pipe n) s.ports; pools = new.tables.pools }) first
      ∙ ap (λ ps. record (c.tables) { ports = ps; pools = new.tables.pools }) (ports_left c.tables n order.order),
  (
    ap (λ (d : ControlState). d.room) cut ∙ room,
    record {
      same = both.same;
      holders = λ pool k. sums _ _ _ _ (both.holders pool k) (lost pool k) (lost_is_had c.tables n pool k order.order);
    },
  ),
)
  where
    both : LetsGo c.tables.pools new.tables.pools
        (λ pool k. option_map_or (in_port (lane_count pool k)) (port_in c.tables.ports n) 0 + all_from n mid.tables.ports pool k)
    both = both_go c.tables.pools mid.tables.pools new.tables.pools _ _ to from

    lost : (pool k : ℕ) → lost_uses c.tables n pool k
        ≡ option_map_or (in_port (lane_count pool k)) (port_in c.tables.ports n) 0 + all_from n mid.tables.ports pool k
    lost pool k =
        goes_with c.tables order.order n (lane_count pool k)
        ∙ ap (λ ps. option_map_or (in_port (lane_count pool k)) (port_in c.tables.ports n) 0 + all_from n ps pool k) (sym (ap (λ (s : HubTables). s.ports) first))

    sums : (m o f l : ℕ) → m ≡ o - f → l ≡ f → l ≤ o → o ≡ m + l
    sums m o f l e h b = omega (arith, e, h, b)

-- where there is no such port, all stays
module _ (c new : ControlState) (n : ℕ) (order : IsControl c) (none : None ≡ option_map (λ (p : PortState). p.pool) (port_in c.tables.ports n)) (same : new ≡ c) where
  absent : port_in c.tables.ports n ≡ None
  absent = step (port_in c.tables.ports n) refl none
    where
      step : (o : Option PortState) → port_in c.tables.ports n ≡ o → None ≡ option_map (λ (p : PortState). p.pool) o → o ≡ None
      step None at e = refl
      step (Some p) at e = absurd (none-some p.pool e)

  pub none_left : new.tables ≡ record (with_disconnected c.tables n) { pools = new.tables.pools }
  none_left =
      ap (λ (d : ControlState). d.tables) same ∙ tables_stay c.tables order.order n absent
      ∙ ap (λ (d : ControlState). record (with_disconnected c.tables n) { pools = d.tables.pools }) (sym same)

  pub none_shown : (x : Given) → state_shown x (with_disconnected c.tables n) ≡ state_shown x new.tables
  none_shown x = ap (state_shown x) (sym (tables_stay c.tables order.order n absent)) ∙ ap (λ (d : ControlState). state_shown x d.tables) (sym same)

  pub none_ordered : IsControl new
  none_ordered = subst IsControl (sym same) order

  pub none_fewer : HasFewerHolders c.tables.pools new.tables.pools (lost_uses c.tables n)
  none_fewer = record {
    same = ap (λ (d : ControlState). bare_pools d.tables.pools) (sym same);
    holders = λ pool k.
        sums (nothing_is_lost c.tables order.order n absent pool k) (ap (λ (d : ControlState). (slot_at d.tables.pools pool k).holders) (sym same));
  }
    where
      sums : {a b l : ℕ} → l ≡ 0 → a ≡ b → a ≡ b + l
      sums e h = omega (arith, e, h)

-- a port that is told was there
pub was_there : (c : ControlState) (n pool : ℕ) → Some pool ≡ option_map (λ (p : PortState). p.pool) (port_in c.tables.ports n) → is_there c.tables.ports n ≡ true
was_there c n pool e = step (port_in c.tables.ports n) e
  where
    step : (o : Option PortState) → Some pool ≡ option_map (λ (p : PortState). p.pool) o → is_some o ≡ true
    step (Some p) e = refl
    step None e = absurd (none-some pool (sym e))

-- ---- its pool goes

module _ (c : ControlState) (place : ℕ) (order : IsControl c) where
  -- a pool that nobody has messages of, and whose port is gone, is in a free place
  free : is_idle c.tables.pools place ≡ true → is_there c.tables.ports (owner_of c.tables.pools place) ≡ false → IsFreePlace c.tables place
  free idle gone = step (pool_at c.tables.pools place) refl
    where
      step : (o : Option PoolState) → pool_at c.tables.pools place ≡ o → IsFreePlace c.tables place
      step None at = (places_become_free c.tables place order.order).empty at
      step (Some q) at =
          (places_become_free c.tables place order.order).left q at
          (ap (is_there c.tables.ports) (sym (ap (λ (o : Option PoolState). option_map_or (λ p. p.port) o 0) at)) ∙ gone)
          (λ k. idle_holders c.tables.pools place k idle)

  gone_control : IsFreePlace c.tables place → IsControl (with_pools c (without_pool c.tables.pools place))
  gone_control is = record {
    buffers = order.buffers;
    order = pools_may_go c.tables place order.order is;
    ports = room_as c.tables (with_pool_gone c.tables place) refl refl order.ports;
    counted = record {
      calls = order.counted.calls;
      ports = order.counted.ports;
      numbers = order.counted.numbers;
      loans = order.counted.loans;
      deliveries = order.counted.deliveries;
    };
    room = order.room;
    holders = order.holders;
  }

  -- whether it goes or stays, all that is so of a hub stays so
  pub pool_gone : (new : ControlState) → new ≡ with_pools c (with_left_pool_gone c.tables place)
      → IsControl new × ((x : Given) → state_shown x c.tables ≡ state_shown x new.tables)
  pool_gone new is = step (is_idle c.tables.pools place) refl (is_there c.tables.ports (owner_of c.tables.pools place)) refl is
    where
      stays : new ≡ c → IsControl new × ((x : Given) → state_shown x c.tables ≡ state_shown x new.tables)
      stays e = (subst IsControl (sym e) order, λ x. ap (λ (d : ControlState). state_shown x d.tables) (sym e))

      step : (a : Bool) → is_idle c.tables.pools place ≡ a → (b : Bool) → is_there c.tables.ports (owner_of c.tables.pools place) ≡ b
          → new ≡ with_pools c (if a && not b then without_pool c.tables.pools place else c.tables.pools)
          → IsControl new × ((x : Given) → state_shown x c.tables ≡ state_shown x new.tables)
      step true idle false gone e =
          let at = free idle gone in (
            subst IsControl (sym e) (gone_control at),
            λ x. free_pools_may_go x c.tables place ((places_become_free c.tables place order.order).nobody at) ∙ ap (λ (d : ControlState). state_shown x d.tables) (sym e),
          )
      step true idle true there e = stays e
      step false busy b there e = stays e

-- where the pool is idle and its port is not found, it goes
pub pool_gone_here : (c new : ControlState) (place : ℕ) (order : IsControl c) → is_idle c.tables.pools place ≡ true
    → None ≡ info_in c.tables.ports (owner_of c.tables.pools place) → new ≡ with_pools c (without_pool c.tables.pools place)
    → IsControl new × ((x : Given) → state_shown x c.tables ≡ state_shown x new.tables)
pool_gone_here c new place order idle none is =
    pool_gone c place order new
    (is ∙ ap₂ (λ (a b : Bool). with_pools c (if a && not b then without_pool c.tables.pools place else c.tables.pools)) (sym idle)
    (sym (ap (λ (o : Option PortState). is_some o) (info_none c.tables.ports (owner_of c.tables.pools place) none))))

-- where its port is found, it stays
pub pool_stays_here : (c : ControlState) (place : ℕ) (info : PortInfo) → Some info ≡ info_in c.tables.ports (owner_of c.tables.pools place)
    → c ≡ with_pools c (with_left_pool_gone c.tables place)
pool_stays_here c place info found = step (is_idle c.tables.pools place) (is_there c.tables.ports (owner_of c.tables.pools place)) (there (port_in c.tables.ports (owner_of c.tables.pools place)) found)
  where
    there : (o : Option PortState) → Some info ≡ option_map info_of o → is_some o ≡ true
    there None e = absurd (none-some info (sym e))
    there (Some p) e = refl

    step : (a b : Bool) → b ≡ true → c ≡ with_pools c (if a && not b then without_pool c.tables.pools place else c.tables.pools)
    step true true e = refl
    step true false e = absurd (true≢false (sym e))
    step false b e = refl
