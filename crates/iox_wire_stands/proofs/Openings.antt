-- As a wire opens, its words and nodes stand for a run without a beat.
use Rattle.std.specs.Prelude.{◌≤◌, ◌<◌, ◌^◌, ◌&&◌, not, nat_lt, find, flat_map, map, replicate, is_some, if◌then◌else◌}
use Rattle.std.specs.List.{list_all, range_with_len}
use Rattle.std.specs.Option.{option_map_or}
use Rattle.std.proofs.Common.{◌≡◌, ℕ, ◌+◌, Bool, true, false, ◌==◌, List, [], Some, None, refl, ap, sym, subst, ◌∙◌, arith, eq-eqb, eqb-true, true≢false}
use Rattle.std.proofs.lemmas.List.{length-replicate}
use Rattle.iox_model.specs.declared.way.Way.{Way}
use Rattle.iox_model.specs.Maps.{AreDistinctWays, AreDistinct, has_number, same_way}
use Rattle.iox_model.specs.Peers.{borrow_limit_on, buffer_on, is_connected_port, node_of_port, ways_from}
use Rattle.iox_model.specs.Runs.{IsReachableState}
use Rattle.iox_model.specs.States.{Fixed, Port, State}
use Rattle.iox_model.specs.WireCalls.{opened, wire_refusal}
use Rattle.iox_model.specs.Weaves.{World, at_work}
use Rattle.iox_laws.proofs.WeaveLaws.MapLemmas.{same_way-refl}
use Rattle.iox_laws.proofs.WeaveLedger.Lists.{IsAmong, among-any, among-filter, among-map, among-number, any-among, filter-among, map-among, number-among, way-among}
use Rattle.iox_laws.proofs.WeaveLedger.Truths.{none-some}
use Rattle.iox_steps.specs.declared.site.QueueKind.TheVariants.{Index, Overflowing}
use Rattle.iox_word_map.specs.WordMaps.{IsWay, MessageQueue, ReturningQueue, WireQueue, total_words}
use Rattle.iox_word_places.specs.declared.plan.PlanPort.{PlanPort}
use Rattle.iox_word_places.specs.declared.plan.WirePlan.{WirePlan}
use Rattle.iox_word_places.specs.Plans.{IsPlan, layout_of, planned_buffer, planned_overflow, role_of}
use Rattle.iox_word_places.proofs.PlanLawProofs.{plans_are_sized}
use Rattle.iox_wire_words.specs.BeginLaws.{AreEmptyQueues, empty_contents}
use Rattle.iox_wire_words.specs.Fits.{IsSized, WireContents}
use Rattle.iox_wire_words.specs.Programs.{WireLayout}
use Rattle.iox_wire_words.proofs.Begins.{empty_queues_fit}
use Rattle.iox_wire_moments.specs.MomentsOf.{serial_in}
use Rattle.iox_wire_moments.specs.Ties.{Suits}
use Rattle.iox_wire_locals.specs.declared.seat.Seat.{Seat}
use Rattle.iox_wire_locals.specs.declared.table.Borrowed.{Borrowed}
use Rattle.iox_wire_locals.specs.declared.table.Desk.{Desk}
use Rattle.iox_wire_locals.specs.declared.table.Entry.{Entry}
use Rattle.iox_wire_locals.specs.declared.table.Recorded.{Recorded}
use Rattle.iox_wire_locals.specs.Knowing.{Knows}
use Rattle.iox_wire_locals.specs.Known.{free_slots, loans_at}
use Rattle.iox_wire_locals.specs.Tables.{Setting}
use Rattle.iox_wire_laws.specs.WireKeeping.PoolSlots.{PoolFits}
use Rattle.iox_wire_laws.specs.WireKeeping.Records.{RecordsFit, recorded_of, slots_on}
use Rattle.iox_wire_laws.specs.WireKeeping.Shows.{ShowsWorld}
use Rattle.iox_wire_laws.specs.WireKeeping.UsedSlots.{PortFits, slots_used}
use Rattle.iox_wire_laws.specs.WireOwners.Borrowed.{HasCount}
use Rattle.iox_wire_laws.specs.WireRegions.OwnedBegins.{LayoutFits}
use Rattle.iox_wire_laws.specs.WireHolding.SlotsKnown.{HasEntry, IsPortOfSeat, SlotsKnown}
use Rattle.iox_wire_laws.proofs.WireHolding.WireWays.{among_flat, way_there}
use Rattle.iox_wire_layouts.specs.PlansOf.{IsSettingOf}
use Rattle.iox_wire_layouts.proofs.Layouts.{known_settings_are_planned, planned_layouts_fit, planned_queues_suit, planned_returns_have_room}
use Rattle.iox_wire_layouts.proofs.Planned.{same_found, same_numbers}
use Rattle.iox_wire_layouts.proofs.Regions.{ports_have_regions}
use Rattle.iox_wire_pools.specs.Uses.{UsesAreCounted, how_often}
use Rattle.iox_wire_stands.specs.Nodes.{NodeStands}
use Rattle.iox_wire_stands.specs.Openings.{AgreesWith, AWireOpens, OverflowsWithRoom, opened_desk, opened_seat, ports_on, ways_into, ways_on}
use Rattle.iox_wire_stands.specs.Stands.{AreNumbered, OwnersAre, word_of}
use Rattle.iox_wire_stands.proofs.PortWays.{sent_by, ways_apart}
use Rattle.iox_wire_stands.proofs.Ranges.{and_true, range_distinct, range_number, zero_word}
use Rattle.iox_wire_stands.proofs.OpenedDesks.{all_from, desk_there, empty_record, held_first, no_count, none_counted, none_on, none_recorded, number_in, same_slot, ways_recorded}

-- ---- the wire

module _ (plan : WirePlan) (p : Setting) (s : State) (is : IsPlan plan) (roomy : OverflowsWithRoom plan) (agrees : AgreesWith plan p s) where
  abbrev f : Fixed
  f = (opened s).fixed

  abbrev word : ℕ → ℕ
  word = word_of (replicate (total_words p.layout.sizes) 0)

  abbrev x : ℕ → Seat
  x n = opened_seat p n

  abbrev w : World
  w = at_work (opened s)

  fits : LayoutFits p f
  fits = planned_layouts_fit plan p f is agrees.plan_of agrees.layout

  knows : (n : ℕ) → Knows p (x n) f held_first
  knows n = record {
    limits = agrees.limits;
    ports = agrees.ports;
    unhandled = agrees.unhandled;
    handles = refl;
    forgot = refl;
    sent = λ port slot. refl;
  }

  setting : IsSettingOf plan p
  setting = known_settings_are_planned plan p (x 0) f held_first agrees.plan_of agrees.layout (knows 0)

  same_ways : (port : ℕ) → ways_on p port ≡ ways_from f port
  same_ways port = ap (λ (ports : List Port). ways_from (record f { ports = ports }) port) (sym agrees.ports)

  numbers_are : p.layout.sizes.ports ≡ map (λ (q : Port). q.number) f.ports
  numbers_are = ap (λ (l : WireLayout). l.sizes.ports) agrees.layout ∙ sym (same_numbers plan.ports.items f.ports agrees.plan_of.ports)

  connected : (port : ℕ) → has_number port p.layout.sizes.ports ≡ true → is_connected_port f port ≡ true
  connected port there =
      let r = map-among (λ (q : Port). q.number) port f.ports
      (number-among port (map (λ (q : Port). q.number) f.ports) (subst (λ ks. has_number port ks ≡ true) numbers_are there)) in
      among-any (λ (q : Port). q.number == port) r.0 f.ports r.1 (eq-eqb r.0.number port (sym r.2))

  listed : (port : ℕ) → is_connected_port f port ≡ true → has_number port p.layout.sizes.ports ≡ true
  listed port there =
      let r = any-among (λ (q : Port). q.number == port) f.ports there in
      subst (λ ks. has_number port ks ≡ true) (sym numbers_are)
      (among-number port (map (λ (q : Port). q.number) f.ports)
      (subst (λ k. IsAmong k (map (λ (q : Port). q.number) f.ports)) (eqb-true r.0.number port r.2) (among-map (λ (q : Port). q.number) r.0 f.ports r.1)))

  owners : OwnersAre p f
  owners port =
      ap (λ (l : WireLayout). l.owner port) agrees.layout
      ∙ sym (same_found (λ (q : PlanPort). q.node) (λ (r : Port). r.node) 0 port (λ q r like. like.node) plan.ports.items f.ports agrees.plan_of.ports)

  numbered : AreNumbered p
  numbered port there =
      number_in p port plan.ports.items setting.is_for.ports
      (ap (λ (l : WireLayout). has_number port l.sizes.ports) (sym agrees.layout) ∙ there)

  -- ---- words

  empty : AreEmptyQueues p.layout word
  empty q here = (
    overflowing q,
    zero_word (total_words p.layout.sizes) _ ∙ sym (zero_word (total_words p.layout.sizes) _),
    subst (λ k. k < 2 ^ 64) (sym (zero_word (total_words p.layout.sizes) _)) (omega arith),
  )
    where
      by_kind : (b : Bool) (room : ℕ) → (b ≡ true → 0 < room) → (if b then Overflowing else Index) ≡ Overflowing → 0 < room
      by_kind true room some kind = some refl
      by_kind false room some kind = absurd (let e : Index ≡ Overflowing = kind in (cc))

      planned : (r : WireQueue) → (layout_of plan).kind r ≡ Overflowing → 0 < (layout_of plan).capacity r
      planned (MessageQueue y) kind =
          by_kind (planned_overflow plan.limits (role_of plan y.sender)) (planned_buffer plan.limits (role_of plan y.sender)) (roomy (role_of plan y.sender))
          kind
      planned (ReturningQueue y) kind = absurd (let e : Index ≡ Overflowing = kind in (cc))

      overflowing : (r : WireQueue) → p.layout.kind r ≡ Overflowing → 0 < p.layout.capacity r
      overflowing r = subst (λ (l : WireLayout). l.kind r ≡ Overflowing → 0 < l.capacity r) (sym agrees.layout) (planned r)

  abbrev c : WireContents
  c = empty_contents p.layout word

  shows : IsReachableState s → wire_refusal s 0 true ≡ None → ShowsWorld p held_first word c x w
  shows reach allowed = record {
    reachable = (w, [], (s, reach, allowed, refl), refl);
    sized = subst IsSized (sym agrees.layout) (plans_are_sized plan is);
    suits = subst (λ l. Suits l f) (sym agrees.layout) (planned_queues_suit plan f agrees.plan_of);
    words = empty_queues_fit p.layout word empty;
    ties = record { waiting = λ y way on. refl; in_hand = λ y way on. refl; returned = λ y way on. refl };
    states = λ y way. zero_word (total_words p.layout.sizes) _;
    ids = λ y. tt;
    node = λ n. refl;
    counts = λ n lives. record {
      knows = knows n;
      on_wire = refl;
      next_number = agrees.next_number;
      handles_made = refl;
      expired = λ port. refl;
    };
    doing = λ n lives. refl;
  }

  -- ---- a node

  module _ (n : ℕ) where
    abbrev has : ℕ → Bool
    has port = has_number port (ports_on p n)

    desk_is : (port : ℕ) → find (λ d. d.port == port) (x n).desks ≡ (if has port then Some (opened_desk p port) else None)
    desk_is port = desk_there p (ports_on p n) port

    -- a port with a desk is the node's, and each of its ports has one
    own : (port : ℕ) → has port ≡ true → IsPortOfSeat p (x n) port
    own port there =
        let r = filter-among (λ k. p.layout.owner k == n) port p.layout.sizes.ports (number-among port (ports_on p n) there) in
        (among-number port p.layout.sizes.ports r.0, eqb-true (p.layout.owner port) n r.1)

    mine : (port : ℕ) → IsPortOfSeat p (x n) port → has port ≡ true
    mine port there =
        among-number port (ports_on p n)
        (among-filter (λ k. p.layout.owner k == n) port p.layout.sizes.ports (number-among port p.layout.sizes.ports there.0)
        (eq-eqb (p.layout.owner port) n there.1))

    recorded : (port : ℕ) → recorded_of (x n) port ≡ (if has port then map empty_record (ways_on p port) else [])
    recorded port = ap (λ o. option_map_or (λ (d : Desk). d.recorded) o []) (desk_is port) ∙ by_case (has port)
      where
        by_case : (b : Bool) → option_map_or (λ (d : Desk). d.recorded) (if b then Some (opened_desk p port) else None) []
            ≡ (if b then map empty_record (ways_on p port) else [])
        by_case true = refl
        by_case false = refl

    unused : (port : ℕ) → slots_used (x n) port ≡ []
    unused port = ap (λ rs. flat_map (λ (r : Recorded). r.slots) rs) (recorded port) ∙ by_case (has port)
      where
        by_case : (b : Bool) → flat_map (λ (r : Recorded). r.slots) (if b then map empty_record (ways_on p port) else []) ≡ []
        by_case true = none_recorded (ways_on p port)
        by_case false = refl

    not_used : (port slot : ℕ) → has_number slot (slots_used (x n) port) ≡ true → ⊥
    not_used port slot used = true≢false (sym used ∙ ap (has_number slot) (unused port))

    no_slots : (y : Way) → slots_on (x n) y ≡ []
    no_slots y =
        ap (λ rs. option_map_or (λ (r : Recorded). r.slots) (find (λ (r : Recorded). same_way r.way y) rs) []) (recorded y.sender) ∙ by_case (has y.sender)
      where
        by_case : (b : Bool)
            → option_map_or (λ (r : Recorded). r.slots) (find (λ (r : Recorded). same_way r.way y) (if b then map empty_record (ways_on p y.sender) else [])) []
            ≡ []
        by_case true = none_on y (ways_on p y.sender)
        by_case false = refl

    records : RecordsFit held_first (opened s) (x n)
    records = record {
      told = λ y k there. ap (λ ks. has_number k (map (serial_in held_first y) ks)) (sym (no_slots y));
      once = λ y there. subst (λ ks. AreDistinct (map (serial_in held_first y) ks)) (sym (no_slots y)) tt;
    }

    module _ (port : ℕ) (there : IsPortOfSeat p (x n) port) where
      abbrev pool : ℕ
      pool = (p.port port).pool

      desk_own : find (λ d. d.port == port) (x n).desks ≡ Some (opened_desk p port)
      desk_own = desk_is port ∙ ap (λ b. if b then Some (opened_desk p port) else None) (mine port there)

      recorded_own : recorded_of (x n) port ≡ map empty_record (ways_on p port)
      recorded_own = ap (λ o. option_map_or (λ (d : Desk). d.recorded) o []) desk_own

      free_own : free_slots (x n) port ≡ range_with_len 0 pool
      free_own = ap (λ o. option_map_or (λ (d : Desk). d.free) o []) desk_own

      pool_fits : PoolFits held_first (x n) port pool
      pool_fits = record {
        within = λ slot used. absurd (not_used port slot used);
        apart = λ i j used also same. absurd (not_used port i used);
        free_once = subst AreDistinct (sym free_own) (range_distinct pool);
        free = λ slot.
            ap (has_number slot) free_own ∙ range_number slot pool ∙ and_true (nat_lt slot pool)
            ∙ ap (λ ks. nat_lt slot pool && not (has_number slot ks)) (sym (unused port));
      }

      counted : UsesAreCounted (x n) port pool
      counted = record {
        desk = opened_desk p port;
        there = desk_own;
        ways = subst AreDistinctWays (sym (ways_recorded (ways_on p port))) (subst AreDistinctWays (sym (same_ways port)) (ways_apart f port fits.numbers));
        counts = record {
          words = length-replicate pool 0;
          told = λ slot low. zero_word pool slot ∙ ap (how_often slot) (sym (unused port));
          within = λ slot far. ap (how_often slot) (unused port);
          free_once = range_distinct pool;
          free = λ slot.
              range_number slot pool ∙ and_true (nat_lt slot pool)
              ∙ ap (λ ks. nat_lt slot pool && (how_often slot ks == 0)) (sym (unused port));
        };
      }

      port_fits_mine : node_of_port f port ≡ n
      port_fits_mine = sym (fits.owner port (connected port there.0)) ∙ there.1

      port_fits : PortFits held_first (opened s) (x n) port
      port_fits = record {
        mine = port_fits_mine;
        entries = refl;
        call = tt;
        ways = ap (map (λ (r : Recorded). r.way)) recorded_own ∙ ways_recorded (ways_on p port) ∙ same_ways port;
        apart =
            subst AreDistinctWays (sym (ap (map (λ (r : Recorded). r.way)) recorded_own ∙ ways_recorded (ways_on p port) ∙ same_ways port))
            (ways_apart f port fits.numbers);
        from =
            ap (list_all (λ (r : Recorded). r.way.sender == port)) recorded_own
            ∙ all_from port (ways_on p port) (λ y among. sent_by f port y (subst (IsAmong y) (same_ways port) among));
        records = records;
        counted = λ slot used. absurd (not_used port slot used);
      }

    slots : SlotsKnown p held_first (opened s) (x n)
    slots = record {
      desks = λ port slot free. own port (desk_free port slot free);
      pools = λ port there. pool_fits port there;
      ports = λ port there. port_fits port there;
      apart = λ port i j there low also same. same_slot i j same;
    }
      where
        by_case : (port slot : ℕ) (b : Bool)
            → has_number slot (option_map_or (λ (d : Desk). d.free) (if b then Some (opened_desk p port) else None) []) ≡ true → b ≡ true
        by_case port slot true free = refl
        by_case port slot false free = absurd (true≢false (sym free))

        desk_free : (port slot : ℕ) → has_number slot (free_slots (x n) port) ≡ true → has port ≡ true
        desk_free port slot free =
            by_case port slot (has port) (ap (λ o. has_number slot (option_map_or (λ (d : Desk). d.free) o [])) (sym (desk_is port)) ∙ free)

    no_loans : (port : ℕ) → 0 ≡ loans_at (x n) port
    no_loans port = by_case (has port) ∙ ap (λ o. option_map_or (λ (d : Desk). d.loans) o 0) (sym (desk_is port))
      where
        by_case : (b : Bool) → 0 ≡ option_map_or (λ (d : Desk). d.loans) (if b then Some (opened_desk p port) else None) 0
        by_case true = refl
        by_case false = refl

    has_count : (y : Way) → IsWay p.layout.sizes y → p.layout.owner y.receiver ≡ n → HasCount (x n) y
    has_count y way at =
        let there = way_there p f fits y way in
        let among : IsAmong y (ways_on p y.sender)
        = subst (IsAmong y) (sym (same_ways y.sender)) (way-among y (ways_from f y.sender) there.1) in
        let all : IsAmong y (flat_map (ways_on p) p.layout.sizes.ports)
        = among_flat (ways_on p) y.sender y p.layout.sizes.ports
        (number-among y.sender p.layout.sizes.ports (listed y.sender there.0.0)) among in
        among-any (λ (b : Borrowed). same_way b.way y) (no_count y) (map no_count (ways_into p n))
        (among-map no_count y (ways_into p n)
        (among-filter (λ (v : Way). p.layout.owner v.receiver == n) y (flat_map (ways_on p) p.layout.sizes.ports) all
        (eq-eqb (p.layout.owner y.receiver) n at)))
        (same_way-refl y)

    node : NodeStands p held_first w.state (x n)
    node = record {
      owns = record { owns = tt; closes = tt };
      names = record { entries = λ e there. none_there e there; place = tt };
      name_slots = record { entries = λ e there. none_there e there; place = tt };
      in_pools = λ e there. none_there e there;
      lends = tt;
      slots = slots;
      at_desks = λ port some. own port (with_desk port some);
      uses = λ port there. counted port there;
      loans = λ port there. no_loans port;
      borrowed = λ y at. none_counted y (ways_into p n);
      counted = has_count;
      numbers = tt;
      released = λ e there. none_there e there;
      states = λ e there. none_there e there;
      opened = tt;
      tells = tt;
    }
      where
        by_case : (port : ℕ) (b : Bool) → is_some (if b then Some (opened_desk p port) else None) ≡ true → b ≡ true
        by_case port true some = refl
        by_case port false some = absurd (true≢false (sym some))

        with_desk : (port : ℕ) → is_some (find (λ d. d.port == port) (x n).desks) ≡ true → has port ≡ true
        with_desk port some = by_case port (has port) (ap is_some (sym (desk_is port)) ∙ some)

        none_there : {A : Type 0} (e : Entry) → HasEntry (x n) e → A
        none_there e there = absurd (none-some e there)

pub a_wire_opens : AWireOpens
a_wire_opens plan p s is roomy agrees reach allowed =
    let z : World = at_work (opened s) in (
      record { first = z; beats = []; last = z; opened = (s, reach, allowed, refl); woven = refl },
      refl,
      refl,
      refl,
      record {
        held = held_first;
        contents = empty_contents p.layout (word_of (replicate (total_words p.layout.sizes) 0));
        shows = shows plan p s is roomy agrees reach allowed;
        length_is = length-replicate (total_words p.layout.sizes) 0;
        layout = fits plan p s is roomy agrees;
        owners = owners plan p s is roomy agrees;
        numbers = numbered plan p s is roomy agrees;
        regions = λ port there. ports_have_regions plan p port is (setting plan p s is roomy agrees) there;
        rooms = room;
        queues = record {
          waiting = λ y slot way on has. absurd (true≢false (sym has));
          in_hand = λ y slot way on has. absurd (true≢false (sym has));
          returned = λ y slot way on has. absurd (true≢false (sym has));
        };
        nodes = λ n lives. node plan p s is roomy agrees n;
        histories = λ n. refl;
      },
      λ port slot. beyond slot,
    )
  where
    beyond : (slot : ℕ) → 2 ^ 64 ≤ 2 ^ 64 + slot
    beyond slot = omega arith

    room : (y : Way) → IsWay p.layout.sizes y
        → p.layout.capacity (ReturningQueue y) ≡ buffer_on (opened s).fixed y + borrow_limit_on (opened s).fixed y + 1
    room y =
        subst (λ (l : WireLayout). IsWay l.sizes y → l.capacity (ReturningQueue y) ≡ buffer_on (opened s).fixed y + borrow_limit_on (opened s).fixed y + 1)
        (sym agrees.layout) (planned_returns_have_room plan (opened s).fixed y is agrees.plan_of)
