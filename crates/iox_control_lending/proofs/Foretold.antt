-- How many have a slot once its port got back all that was given back, told before.
use Rattle.std.specs.Prelude.{◌≡◌, ℕ, ◌+◌, ◌-◌, ◌<◌, ◌≤◌, zero, suc, Bool, true, false, if◌then◌else◌, ◌==◌, List, [], ◌∷◌, ◌++◌, filter, flat_map, length, map, Option, Some, None, slice_get, refl}
use Rattle.std.specs.List.{range_with_len}
use Rattle.std.specs.Option.{option_map, option_map_or}
use Rattle.std.proofs.Common.{sym, ap, subst, ◌∙◌, arith, eqb-true, true≢false}
use Rattle.std.proofs.lemmas.Option.{none-some, same_Some}
use Rattle.iox_model.specs.declared.way.Way.{Way}
use Rattle.iox_model.specs.Maps.{AreDistinct}
use Rattle.iox_model.specs.Settings.{is_client, same_role}
use Rattle.iox_laws.proofs.WeaveLaws.MapLemmas.{eqb-refl}
use Rattle.iox_lanes.specs.Lanes.{LaneState, returned_times}
use Rattle.iox_tables.specs.HubStates.Tables.{HubTables, PoolState, PortState, SlotState, no_slot, numbers_of, port_in, slot_at, slots_of}
use Rattle.iox_tables.specs.HubStates.Ways.{lane_on}
use Rattle.iox_tables.specs.HubStates.Shown.{by_lane}
use Rattle.iox_tables.specs.HubBooks.Counts.{how_often, total}
use Rattle.iox_tables.specs.HubBooks.Hubs.{AreInOrder}
use Rattle.iox_tables.proofs.HubBooks.Frames.{some_map}
use Rattle.iox_tables.proofs.HubBooks.Totals.{total-append}
use Rattle.iox_tables.specs.HubLending.Emptying.{AreGotBack, returned_count, returned_on}
use Rattle.iox_tables.proofs.HubLending.Owning.{number_is, slot_count}
use Rattle.iox_tables.proofs.HubStates.Fixing.{first_key}
use Rattle.iox_tables.specs.HubLoans.Lenders.{Lender, ways_by}
use Rattle.iox_hub_ports.specs.declared.info.PortInfo.{PortInfo}
use Rattle.iox_hub_ports.specs.Ports.{info_at, info_in, info_of, on_way_at}
use Rattle.iox_hub_ports.proofs.Seats.{first_at}
use Rattle.iox_control.specs.Controls.{ControlState, IsControl}
use Rattle.iox_control_retrieving.specs.Retrieving.{first_ways, ways_to}
use Rattle.iox_control_retrieving.proofs.AtPlaces.{IsInPlace, told_there}
use Rattle.iox_control_retrieving.proofs.Infos.{pool_is}
use Rattle.iox_control_retrieving.proofs.Lanes.{first_lanes, lane_way, none_alike, ways_are, width}
use Rattle.iox_control_retrieving.proofs.Places.{ways_by_place}
use Rattle.iox_control_lending.specs.declared.asked.Asked.{Asked}
use Rattle.iox_control_lending.specs.declared.asked.Loaned.{Loaned}
use Rattle.iox_control_lending.specs.Lends.{HasFreeThen, IsLoaned, MayBeMade}
use Rattle.iox_control_lending.proofs.GotBack.{got_back}

-- ---- one lane

often_is : (k : ℕ) (ks : List ℕ) → length (filter (λ n. n == k) ks) ≡ how_often k ks
often_is k [] = refl
often_is k (j ∷ js) = step (j == k) (often_is k js)
  where
    step : (b : Bool) → length (filter (λ n. n == k) js) ≡ how_often k js
        → length (if b then j ∷ filter (λ n. n == k) js else filter (λ n. n == k) js) ≡ (if b then 1 else 0) + how_often k js
    step true e = omega (arith, e)
    step false e = omega (arith, e)

-- how often the slot was given back on the way
abbrev pub given_on : ControlState → PortInfo → ℕ → Way → ℕ
given_on c from slot = by_lane (returned_count from.pool slot) 0 (lane_on c.tables.ports)

-- the ways to a port
abbrev pub ways_to_port : ControlState → PortInfo → PortState → List Way
ways_to_port c from p = ways_to from.role c.tables from.number (info_of p)

module _ (c : ControlState) (from : PortInfo) (order : IsControl c) (said : info_in c.tables.ports from.number ≡ Some from) (slot : ℕ) where
  abbrev given : Way → ℕ
  given = given_on c from slot

  on_way_is : (w : Way) → w.sender ≡ from.number → option_map_or (λ l. returned_times l slot) (lane_on c.tables.ports w) 0 ≡ given w
  on_way_is w own = step (lane_on c.tables.ports w) refl
    where
      step : (o : Option LaneState) → lane_on c.tables.ports w ≡ o → option_map_or (λ l. returned_times l slot) o 0 ≡ option_map_or (returned_count from.pool slot) o 0
      step None at = refl
      step (Some l) at =
          let of : l.pool ≡ from.pool = pool_is c from w order (ap (info_in c.tables.ports) own ∙ said) l at in
          often_is slot l.returned
          ∙ ap (λ (b : Bool). if b then how_often slot l.returned else 0) (sym (ap (λ n. l.pool == n) (sym of) ∙ eqb-refl l.pool))

  pub times_are : (at n lane : ℕ) → IsInPlace c.tables.ports at n
      → on_way_at (λ l. returned_times l slot) 0 c.tables.ports at from.number lane ≡ given (lane_way from.number n lane)
  times_are at n lane there =
      told_there c.tables.ports at (lane_way from.number n lane) there (λ l. returned_times l slot) 0
      ∙ on_way_is (lane_way from.number n lane) refl

  -- ---- the lanes to one port

  lanes_from : (n a d : ℕ) → total given (map (lane_way from.number n) (range_with_len a (suc d)))
      ≡ total given (map (lane_way from.number n) (range_with_len a d)) + given (lane_way from.number n (a + d))
  lanes_from n a zero =
      let e : given (lane_way from.number n (a + 0)) ≡ given (lane_way from.number n a) = ap (λ k. given (lane_way from.number n k)) (omega arith) in
      omega (arith, e)
  lanes_from n a (suc d) =
      let r = lanes_from n (a + 1) d in
      let e : given (lane_way from.number n (a + 1 + d)) ≡ given (lane_way from.number n (a + suc d)) = ap (λ k. given (lane_way from.number n k)) (omega arith) in
      omega (arith, r, e)

  pub lane_more : (n d holders left times : ℕ) → left ≡ holders - total given (first_lanes from.number n d) → times ≡ given (lane_way from.number n d)
      → left - times ≡ holders - total given (first_lanes from.number n (d + 1))
  lane_more n d holders left times was now =
      let r = lanes_from n 0 d in
      let s : total given (first_lanes from.number n (d + 1)) ≡ total given (first_lanes from.number n (suc d)) = ap (λ j. total given (first_lanes from.number n j)) (let e : d + 1 ≡ suc d = omega arith in e) in
      let e : given (lane_way from.number n (0 + d)) ≡ given (lane_way from.number n d) = ap (λ k. given (lane_way from.number n k)) (omega arith) in
      omega (arith, r, s, e, was, now)

  pub lanes_all : (to : PortInfo) (d holders left : ℕ) → same_role from.role to.role ≡ false → d ≡ width c.tables.ports to
      → left ≡ holders - total given (first_lanes from.number to.number d) → left ≡ holders - total given (ways_to from.role c.tables from.number to)
  lanes_all to d holders left differ all is =
      is ∙ ap (λ ws. holders - total given ws)
      (ap (first_lanes from.number to.number) all ∙ sym (ways_are from.role c.tables from.number to differ))

  pub lanes_alike : (to : PortInfo) (holders : ℕ) → same_role from.role to.role ≡ true → holders ≡ holders - total given (ways_to from.role c.tables from.number to)
  lanes_alike to holders alike =
      let none : total given (ways_to from.role c.tables from.number to) ≡ 0 = ap (total given) (none_alike from.role c.tables from.number to alike) in
      omega (arith, none)

  -- ---- all ports

  abbrev its_ways : PortState → List Way
  its_ways = ways_to_port c from

  no_ways : (ports : List PortState) → first_ways its_ways ports zero ≡ []
  no_ways [] = refl
  no_ways (p ∷ ps) = refl

  port_next : (ports : List PortState) (i : ℕ) (p : PortState) → slice_get ports i ≡ Some p
      → total given (first_ways its_ways ports (suc i)) ≡ total given (first_ways its_ways ports i) + total given (its_ways p)
  port_next [] i p at = absurd (none-some p at)
  port_next (q ∷ qs) zero p at =
      let same : total given (its_ways q) ≡ total given (its_ways p) = ap (λ r. total given (its_ways r)) (same_Some q p at) in
      let none : total given (first_ways its_ways qs zero) ≡ 0 = ap (total given) (no_ways qs) in
      let both = total-append given (its_ways q) (first_ways its_ways qs zero) in omega (arith, same, none, both)
  port_next (q ∷ qs) (suc i) p at =
      let rest = port_next qs i p at in
      let more = total-append given (its_ways q) (first_ways its_ways qs (suc i)) in
      let less = total-append given (its_ways q) (first_ways its_ways qs i) in omega (arith, rest, more, less)

  ways_all : (ports : List PortState) (i : ℕ) → length ports ≤ i → first_ways its_ways ports i ≡ flat_map its_ways ports
  ways_all [] i all = refl
  ways_all (p ∷ ps) zero all = absurd (omega (arith, all))
  ways_all (p ∷ ps) (suc i) all = ap (λ ws. its_ways p ++ ws) (ways_all ps i (omega (arith, all)))

  pub port_more : (i holders left left' : ℕ) (to : PortInfo) → Some to ≡ info_at c.tables.ports i
      → left ≡ holders - total given (first_ways its_ways c.tables.ports i) → left' ≡ left - total given (ways_to from.role c.tables from.number to)
      → left' ≡ holders - total given (first_ways its_ways c.tables.ports (i + 1))
  port_more i holders left left' to at was now =
      let found = some_map info_of (slice_get c.tables.ports i) to (sym at) in
      let next = port_next c.tables.ports i found.0 found.1 in
      let same : total given (its_ways found.0) ≡ total given (ways_to from.role c.tables from.number to) = ap (λ j. total given (ways_to from.role c.tables from.number j)) found.2 in
      let s : total given (first_ways its_ways c.tables.ports (i + 1)) ≡ total given (first_ways its_ways c.tables.ports (suc i)) = ap (λ j. total given (first_ways its_ways c.tables.ports j)) (let e : i + 1 ≡ suc i = omega arith in e) in
      omega (arith, was, now, next, same, s)

  pub ports_none : (holders : ℕ) → holders ≡ holders - total given (first_ways its_ways c.tables.ports 0)
  ports_none holders = let none : total given (first_ways its_ways c.tables.ports 0) ≡ 0 = ap (total given) (no_ways c.tables.ports) in omega (arith, none)

  pub ports_all : (i holders left : ℕ) → length c.tables.ports ≤ i → left ≡ holders - total given (first_ways its_ways c.tables.ports i)
      → left ≡ holders - returned_on c.tables (ways_by from.role c.tables from.number) from.pool slot
  ports_all i holders left all is =
      is ∙ ap (λ ws. holders - total given ws) (ways_all c.tables.ports i all ∙ sym (ways_by_place c.tables from.number from.role))

-- ---- ports by place

-- there is a port in each place before the last
pub info_there : (ports : List PortState) (i : ℕ) → i < length ports → info_at ports i ≡ None → ⊥
info_there [] i low none = absurd (omega (arith, low))
info_there (p ∷ ps) zero low none = none-some (info_of p) (sym none)
info_there (p ∷ ps) (suc i) low none = info_there ps i (omega (arith, low)) none

pub to_said : (ports : List PortState) (i : ℕ) (to : PortInfo) → AreDistinct (numbers_of ports) → Some to ≡ info_at ports i → info_in ports to.number ≡ Some to
to_said ports i to apart at =
    let f = some_map info_of (slice_get ports i) to (sym at) in
    ap (λ (j : PortInfo). info_in ports j.number) (sym f.2) ∙ ap (option_map info_of) (first_at ports i f.0 apart f.1) ∙ ap (λ j. Some j) f.2

pub width_is : (ports : List PortState) (to : PortInfo) (lanes : ℕ) → info_in ports to.number ≡ Some to → lanes ≡ (if is_client to.role then to.size else 1) → lanes ≡ width ports to
width_is ports to lanes said is =
    let f = some_map info_of (port_in ports to.number) to said in
    is ∙ ap (λ n. if is_client to.role then n else 1)
    (sym (ap (λ o. option_map_or (λ (p : PortState). p.size) o 0) f.1 ∙ ap (λ (j : PortInfo). j.size) f.2))

-- ---- a loan that was made might be made

pub made_may_be : (c : ControlState) (y : Lender) (n : ℕ) (a : Asked) (l : Loaned) (new : ControlState) → port_in c.tables.ports n ≡ Some y.port → IsLoaned c y a l new → MayBeMade c y a
made_may_be c y n a l new there is = record {
  passes = is.passes;
  free = record {
    pools = is.between.tables.pools;
    back = is.back.back;
    slot = l.slot;
    free = record {
      there = ap (port_in c.tables.ports) (first_key (λ (p : PortState). p.number) c.tables.ports n y.port there) ∙ there;
      within = is.made.within;
      free = is.made.free;
    };
  };
}

-- ---- some slot is free then

module _ (t : HubTables) (order : AreInOrder t) (n : ℕ) (p : PortState) (there : port_in t.ports n ≡ Some p) where
  -- how many have the slot then
  abbrev pub left_of : ℕ → ℕ
  left_of slot = (slot_at t.pools p.pool slot).holders - returned_on t (ways_by p.role t p.number) p.pool slot

  pub free_then : (slot : ℕ) → slot < length (slots_of t.pools p.pool) → left_of slot ≡ 0 → HasFreeThen t p
  free_then slot low none =
      let pools : (ps : List (Option PoolState)) × AreGotBack t p ps = got_back t p order in
      let holders = pools.1.holders p.pool slot in
      let size = slot_count t order n p there in record {
        pools = pools.0;
        back = pools.1;
        slot = slot;
        free = record {
          there = ap (port_in t.ports) (number_is t order n p there) ∙ there;
          within = omega (arith, low, size);
          free = omega (arith, holders, none);
        };
      }

  pub never_then : ((slot : ℕ) → slot < length (slots_of t.pools p.pool) → 1 ≤ left_of slot) → HasFreeThen t p → ⊥
  never_then none is =
      let size = slot_count t order n p there in
      let low = is.free.within in
      let holders = is.back.holders p.pool is.slot in
      let free = is.free.free in
      let some = none is.slot (omega (arith, low, size)) in omega (arith, holders, free, some)

-- ---- in code: what is said of the port, and of its slots in turn

slot_found : (t : HubTables) (pool slot : ℕ) (s : SlotState) → Some s ≡ slice_get (slots_of t.pools pool) slot → slot_at t.pools pool slot ≡ s
slot_found t pool slot s at = ap (λ o. option_map_or (λ z. z) o no_slot) (sym at)

pub slot_within : (ss : List SlotState) (i : ℕ) → i < length ss → slice_get ss i ≡ None → ⊥
slot_within [] i low none = absurd (omega (arith, low))
slot_within (s ∷ ss) zero low none = none-some s (sym none)
slot_within (s ∷ ss) (suc i) low none = slot_within ss i (omega (arith, low)) none

module _ (t : HubTables) (order : AreInOrder t) (info : PortInfo) (said : info_in t.ports info.number ≡ Some info) where
  -- how many have the slot then
  abbrev pub left_by_info : ℕ → ℕ
  left_by_info slot = (slot_at t.pools info.pool slot).holders - returned_on t (ways_by info.role t info.number) info.pool slot

  -- what is left of the holders that the slot has
  pub left_is : (slot left : ℕ) (s : SlotState) → Some s ≡ slice_get (slots_of t.pools info.pool) slot
      → left ≡ s.holders - returned_on t (ways_by info.role t info.number) info.pool slot → left ≡ left_by_info slot
  left_is slot left s at is = is ∙ ap (λ (z : SlotState). z.holders - returned_on t (ways_by info.role t info.number) info.pool slot) (sym (slot_found t info.pool slot s at))

  -- one more slot has holders left
  pub left_more : (slot left : ℕ) → ((k : ℕ) → k < slot → 1 ≤ left_by_info k) → left ≡ left_by_info slot → (left ≡ 0 → ⊥) → (k : ℕ) → k < slot + 1 → 1 ≤ left_by_info k
  left_more slot left before is some k low = step (k == slot) refl
    where
      below : (i j : ℕ) → i < j + 1 → (i ≡ j → ⊥) → i < j
      below i j near other = omega (arith, near, other)

      step : (b : Bool) → (k == slot) ≡ b → 1 ≤ left_by_info k
      step true e = subst (λ i. 1 ≤ left_by_info i) (sym (eqb-true k slot e)) (positive left is)
        where
          positive : (n : ℕ) → n ≡ left_by_info slot → 1 ≤ left_by_info slot
          positive zero same = absurd (some (is ∙ sym same))
          positive (suc n) same = omega (arith, same)
      step false e = before k (below k slot low (λ same. true≢false (sym (ap (λ i. k == i) (sym same) ∙ eqb-refl k) ∙ e)))

  module _ (p : PortState) (there : port_in t.ports info.number ≡ Some p) where
    its_info : info_of p ≡ info
    its_info = let f = some_map info_of (port_in t.ports info.number) info said in ap info_of (same_Some p f.0 (sym there ∙ f.1)) ∙ f.2

    left_same : (slot : ℕ) → left_of t order info.number p there slot ≡ left_by_info slot
    left_same slot = ap (λ (i : PortInfo). (slot_at t.pools i.pool slot).holders - returned_on t (ways_by i.role t i.number) i.pool slot) its_info

    length_same : length (slots_of t.pools info.pool) ≡ length (slots_of t.pools p.pool)
    length_same = ap (λ (i : PortInfo). length (slots_of t.pools i.pool)) (sym its_info)

    pub free_told : (slot left : ℕ) → slot < length (slots_of t.pools info.pool) → left ≡ left_by_info slot → left ≡ 0 → HasFreeThen t p
    free_told slot left low is none =
        free_then t order info.number p there slot (omega (arith, low, length_same)) (left_same slot ∙ sym is ∙ none)

    pub never_told : (n : ℕ) → length (slots_of t.pools info.pool) ≤ n → ((k : ℕ) → k < n → 1 ≤ left_by_info k) → HasFreeThen t p → ⊥
    never_told n all some is =
        never_then t order info.number p there
        (λ slot low. let e = left_same slot in let s = some slot (omega (arith, low, all, length_same)) in omega (arith, e, s)) is
