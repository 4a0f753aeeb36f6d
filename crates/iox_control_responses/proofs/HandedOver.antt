-- A response that is put in line in place of its handle: all that is so of a hub stays so.
use Rattle.std.specs.Prelude.{◌≡◌, ◌⊎◌, ℕ, ◌+◌, ◌-◌, ◌^◌, ◌≤◌, ◌<◌, Bool, true, false, if◌then◌else◌, ◌==◌, List, [], ◌∷◌, map, Option, Some, None, refl}
use Rattle.std.specs.Option.{option_map_or}
use Rattle.std.proofs.Common.{sym, ap, ap₂, subst, ◌∙◌, arith}
use Rattle.std.proofs.lemmas.Option.{none-some, same_Some}
use Rattle.iox_model.specs.declared.way.Way.{Way}
use Rattle.iox_model.specs.Handles.{is_response_loan}
use Rattle.iox_model.specs.Maps.{AreDistinct}
use Rattle.iox_laws.proofs.WeaveLaws.MapLemmas.{eqb-refl}
use Rattle.iox_lanes.specs.Lanes.{LaneState, delivered, is_full, oldest}
use Rattle.iox_tables.specs.HubStates.Tables.{HandleState, HubTables, PoolState, PortState, numbers_of, slot_at}
use Rattle.iox_tables.specs.HubStates.Ways.{lane_on, with_lane_on}
use Rattle.iox_tables.specs.HubStates.Changes.{with_lanes}
use Rattle.iox_tables.specs.HubStates.Ends.{dropped_handles, with_call, with_dropped}
use Rattle.iox_tables.specs.HubStates.Steps.{places_on}
use Rattle.iox_tables.specs.HubStates.Wirings.{IsHandle}
use Rattle.iox_tables.specs.HubBooks.Counts.{handle_uses, how_often, is_at, lane_count, lane_uses, on_lanes, total}
use Rattle.iox_tables.specs.HubBooks.Hubs.{AreInOrder, HoldersAreCounted, IsUsed}
use Rattle.iox_tables.specs.HubBooks.Keeps.{AreTargetsOf, bare_pools, delivers}
use Rattle.iox_tables.specs.HubBooks.Rooms.{CanCountHolders, HasRoomForAll, own_count, spare}
use Rattle.iox_tables.proofs.HubBooks.Delivering.{lanes_keep_at}
use Rattle.iox_tables.proofs.HubBooks.Bounds.{all_lanes_from}
use Rattle.iox_tables.proofs.HubBooks.Eachs.{all_from, lane_is}
use Rattle.iox_tables.proofs.HubBooks.Frames.{bare_ports, lanes_on_bare}
use Rattle.iox_tables.proofs.HubBooks.HandleTotals.{handle_dropped}
use Rattle.iox_tables.proofs.HubBooks.LaneCounts.{evicted_places}
use Rattle.iox_tables.proofs.HubBooks.LaneLists.{lanes_same}
use Rattle.iox_tables.proofs.HubBooks.LaneTotals.{lane_changed}
use Rattle.iox_tables.proofs.HubBooks.Little.{little_changes_keep_order}
use Rattle.iox_tables.proofs.HubBooks.LoanDeliveries.{response_deliveries_keep_order}
use Rattle.iox_tables.proofs.HubBooks.Places.{has_often}
use Rattle.iox_tables.proofs.HubBooks.Release.{handles_apart}
use Rattle.iox_tables.proofs.HubBooks.Targets.{each_has_its_targets}
use Rattle.iox_tables.proofs.HubBooks.Used.{used_on_lane}
use Rattle.iox_tables.proofs.HubKeeping.Ordered.{names_apart}
use Rattle.iox_hub_phases.proofs.Agreeing.{way_agree}
use Rattle.iox_hub_ports.specs.Ports.{on_way, pushed, pushed_out, with_one_out}
use Rattle.iox_slots.specs.Pools.{with_slot}
use Rattle.iox_slots.specs.Slots.{let_go}
use Rattle.iox_control.specs.Controls.{AreCounted, ControlState, IsControl, with_handle_dropped, with_tables}
use Rattle.iox_control.proofs.RoomLemmas.{lanes_seats, room_as}
use Rattle.iox_control_responses.specs.Responses.{with_handed_over}
use Rattle.iox_control_responses.proofs.Lanes.{IsReady, count_pushed, delivers_is, out_at, pushed_is}
use Rattle.iox_slots.proofs.BareLemmas.{let_go_bare, let_go_one}
use Rattle.iox_tables.proofs.HubBooks.Left.{one_shorter, room_left}
use Rattle.iox_tables.proofs.HubBooks.Alike.{loans_stay, own_stays}
use Rattle.iox_tables.proofs.HubBooks.OneGiven.{gives_bare, gives_spare, once_more}
use Rattle.iox_tables.specs.HubStates.Releases.{way_to_client}

-- ---- pools

module _ (pools : List (Option PoolState)) (pool : ℕ) (o : Option ℕ) where
  abbrev after : List (Option PoolState)
  after = option_map_or (with_slot let_go pools pool) o pools

  pub after_bare : bare_pools pools ≡ bare_pools after
  after_bare = step o
    where
      step : (x : Option ℕ) → bare_pools pools ≡ bare_pools (option_map_or (with_slot let_go pools pool) x pools)
      step None = refl
      step (Some i) = let_go_bare pools pool i

  after_holders : ((i : ℕ) → o ≡ Some i → 1 ≤ (slot_at pools pool i).holders) → (Q j : ℕ)
      → (slot_at after Q j).holders + out_at pool o Q j ≡ (slot_at pools Q j).holders
  after_holders some Q j = step o some
    where
      none : (m : ℕ) → m + 0 ≡ m
      none m = omega arith

      step : (x : Option ℕ) → ((i : ℕ) → x ≡ Some i → 1 ≤ (slot_at pools pool i).holders)
          → (slot_at (option_map_or (with_slot let_go pools pool) x pools) Q j).holders + out_at pool x Q j ≡ (slot_at pools Q j).holders
      step None s = none _
      step (Some i) s = let_go_one pools pool i (s i refl) Q j

-- ---- the response

module _ (c : ControlState) (node n : ℕ) (h : HandleState) (order : IsControl c) (few : c.tables.calls < 2 ^ 56) (named : IsHandle c.tables node n h) (kind : is_response_loan h.kind ≡ true)
    (w : Way) (its_way : w ≡ way_to_client c.tables h) (l : LaneState) (at : lane_on c.tables.ports w ≡ Some l) (of_pool : l.pool ≡ h.pool) (ready : IsReady l)
    (may : (c.tables.settings.response_overflow ≡ true) ⊎ (is_full l ≡ false))
  where
    abbrev t : HubTables
    t = c.tables

    abbrev overflow : Bool
    overflow = t.settings.response_overflow

    abbrev g : LaneState → LaneState
    g = delivers overflow h.slot

    abbrev ports : List PortState
    ports = with_lane_on g t.ports w

    abbrev pools : List (Option PoolState)
    pools = option_map_or (with_slot let_go t.pools h.pool) (pushed_out l) t.pools

    -- the tables, as the machine's are
    abbrev pub handed_tables : HubTables
    handed_tables = record (with_call (with_dropped (with_lanes g t (w ∷ [])) node n)) { pools = pools }

    abbrev pub handed : ControlState
    handed = record c { tables = handed_tables; room = c.room + 1 }

    -- the changes in code come to that
    pub handed_is : with_handed_over c node n w h.pool h.slot ≡ handed
    handed_is =
        ap₂ (λ (ps : List PortState) (qs : List (Option PoolState)). record c { tables = record t { ports = ps; handles = dropped_handles node n t.handles; calls = t.calls + 1; pools = qs }; room = c.room + 1 })
        (way_agree (λ m. pushed m h.slot) g t.ports w
        (λ m e. subst (λ (x : LaneState). pushed x h.slot ≡ g x) (same_Some l m (sym at ∙ e)) (delivers_is overflow l h.slot ready may)))
        (ap (λ (o : Option LaneState). option_map_or (with_slot let_go t.pools h.pool) (option_map_or pushed_out o None) t.pools) at)

    -- ---- holders

    apart : AreDistinct (map (λ (k : HandleState). k.number) t.handles)
    apart = handles_apart (numbers_of t.ports) (map (λ k. k.number) t.handles) order.order.numbers.apart

    out_is_used : (i : ℕ) → pushed_out l ≡ Some i → 1 ≤ (slot_at t.pools h.pool i).holders
    out_is_used i is = subst (λ p. IsUsed t p i) of_pool (used_on_lane t order.order w l i at (has_often i (places_on l) (step (is_full l) is)))
      where
        step : (b : Bool) → (if b then oldest l else None) ≡ Some i → 1 ≤ how_often i (places_on l)
        step true e =
            let all = evicted_places (λ n. if n == i then 1 else 0) l in
            let one : ◌≡◌ {A = ℕ} (option_map_or (λ (n : ℕ). if n == i then 1 else 0) (oldest l) 0) 1 =
            ap (λ o. option_map_or (λ (n : ℕ). if n == i then 1 else 0) o 0) e ∙ ap (λ (b : Bool). if b then 1 else 0) (eqb-refl i) in
            omega (arith, all, one)
        step false e = absurd (none-some i e)

    g_is : g l ≡ delivered (with_one_out l) h.slot
    g_is = sym (delivers_is overflow l h.slot ready may) ∙ pushed_is l h.slot ready

    counted : HoldersAreCounted (record (with_dropped (with_lanes g t (w ∷ [])) node n) { pools = pools })
    counted Q j =
        let all = order.order.counted Q j in
        let handles = handle_dropped (λ k. if is_at Q j k then 1 else 0) t.handles node n h named.there apart in
        let lanes = lane_changed (lane_count Q j) g t.ports w l at in
        let lane = ap (λ m. lane_count Q j m + out_at h.pool (pushed_out l) Q j) g_is ∙ count_pushed h.pool Q j h.slot l of_pool in
        let slots = after_holders t.pools h.pool (pushed_out l) out_is_used Q j in
        sums (slot_at pools Q j).holders (slot_at t.pools Q j).holders (out_at h.pool (pushed_out l) Q j) (handle_uses (dropped_handles node n t.handles) Q j) (handle_uses t.handles Q j)
        (if is_at Q j h then 1 else 0) (lane_uses ports Q j) (lane_uses t.ports Q j) (lane_count Q j l) (lane_count Q j (g l)) slots all handles lanes lane
      where
        sums : (new old out new_handles handles one new_lanes lanes was is : ℕ) → new + out ≡ old → old ≡ handles + lanes → new_handles + one ≡ handles
            → new_lanes + was ≡ lanes + is → is + out ≡ was + one → new ≡ new_handles + new_lanes
        sums new old out new_handles handles one new_lanes lanes was is a b d e f = omega (arith, a, b, d, e, f)

    in_order : AreInOrder handed_tables
    in_order =
        (little_changes_keep_order _
        (response_deliveries_keep_order t node n h overflow (w ∷ []) pools order.order named kind
        (subst (λ v. AreTargetsOf t h (v ∷ [])) (sym its_way) (each_has_its_targets t node n h order.order named).response) (after_bare t.pools h.pool (pushed_out l)) counted)).2

    -- ---- counts and room

    alike : bare_ports ports ≡ bare_ports t.ports
    alike = lanes_on_bare g (gives_bare overflow h.slot) t.ports (w ∷ [])

    in_counts : AreCounted handed_tables
    in_counts = record {
      calls = let f = few in omega (arith, f);
      ports = order.counted.ports;
      numbers = let was = order.counted.numbers in omega (arith, was);
      loans =
          all_from (λ p. p.loans ≤ t.calls) (λ p. p.loans ≤ t.calls + 1) (λ p e. omega (arith, e)) ports (loans_stay t.calls t.ports ports alike order.counted.loans);
      deliveries =
          lanes_keep_at (λ x. x.deliveries ≤ t.calls + 1) g t.ports (w ∷ []) (refl, tt)
          (λ v x has there e. once_more overflow h.slot t.calls x (lane_is (λ y. y.deliveries ≤ t.calls) t.ports v x order.counted.deliveries there))
          (all_lanes_from (λ x. x.deliveries ≤ t.calls) (λ x. x.deliveries ≤ t.calls + 1) (λ x e. omega (arith, e)) t.ports order.counted.deliveries);
    }

    in_room : HasRoomForAll (c.room + 1) handed_tables
    in_room =
        let lanes : on_lanes spare ports ≡ on_lanes spare t.ports
        = lanes_same spare g (gives_spare overflow h.slot) t.ports (w ∷ []) in
        let own : total (λ p. p.size - own_count (dropped_handles node n t.handles) p) ports ≡ total (λ p. p.size - own_count (dropped_handles node n t.handles) p) t.ports
        = own_stays (dropped_handles node n t.handles) t.ports ports alike in
        let less = room_left t.handles node n h named.there apart t.ports (names_apart t order.order) in
        let was : HasRoomForAll c.room t = order.room in
        omega (arith, lanes, own, less, was)

    in_holders : CanCountHolders (c.room + 1) handed_tables
    in_holders =
        let lanes : on_lanes (λ x. 1) ports ≡ on_lanes (λ x. 1) t.ports = lanes_same (λ x. 1) g (λ x. refl) t.ports (w ∷ []) in
        let one = one_shorter t.handles node n h named.there apart in
        let was : CanCountHolders c.room t = order.holders in
        omega (arith, lanes, one, was)

    pub handed_keeps : IsControl handed
    handed_keeps = record {
      buffers = order.buffers;
      order = in_order;
      ports = room_as t handed_tables refl (lanes_seats g t.ports (w ∷ [])) order.ports;
      counted = in_counts;
      room = in_room;
      holders = in_holders;
    }

-- where nothing is pushed out, what code does one after another comes to that
pub handed_alone : (c c1 c2 c3 : ControlState) (node n : ℕ) (w : Way) (pool k : ℕ) → on_way pushed_out None c.tables.ports w ≡ None
    → c1 ≡ with_handle_dropped c node n → c2 ≡ with_tables c1 (with_lanes (λ l. pushed l k) c1.tables (w ∷ [])) → c3 ≡ with_tables c2 (with_call c2.tables)
    → c3 ≡ with_handed_over c node n w pool k
handed_alone c c1 c2 c3 node n w pool k none drops pushes counts =
    counts
    ∙ ap (λ (d : ControlState). with_tables d (with_call d.tables)) pushes
    ∙ ap (λ (d : ControlState). with_tables d (with_call (with_lanes (λ l. pushed l k) d.tables (w ∷ [])))) drops
    ∙ ap (λ (o : Option ℕ). record c {
      tables = record (with_call (with_dropped (with_lanes (λ l. pushed l k) c.tables (w ∷ [])) node n)) {
        pools = option_map_or (with_slot let_go c.tables.pools pool) o c.tables.pools;
      };
      room = c.room + 1;
    }) (sym none)
