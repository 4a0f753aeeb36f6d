-- Where a loan is the only message of its pool that somebody has, nothing is left to get back of that pool.
use Rattle.std.specs.Prelude.{◌≡◌, ℕ, zero, suc, ◌-◌, ◌≤◌, ◌==◌, Bool, true, false, ◌||◌, List, [], ◌∷◌, ◌++◌, Some, filter, if◌then◌else◌, length, slice_get, refl}
use Rattle.std.specs.Option.{option_map_or}
use Rattle.std.proofs.Common.{sym, ap, subst, ◌∙◌, arith, inl, inr, true≢false, eqb-true}
use Rattle.std.proofs.lemmas.List.Sums.{length-filter}
use Rattle.iox_slots.specs.Pools.{free_count}
use Rattle.iox_model.specs.declared.way.Way.{Way}
use Rattle.iox_model.specs.Maps.{has_number}
use Rattle.iox_laws.proofs.WeaveLaws.MapLemmas.{eqb-refl}
use Rattle.iox_laws.proofs.WeaveLedger.Lists.{IsAmong}
use Rattle.iox_lanes.specs.Lanes.{LaneState}
use Rattle.iox_tables.specs.HubStates.Tables.{HubTables, PortState, SlotState, is_free, no_slot, port_in, slot_at, slots_of}
use Rattle.iox_tables.specs.HubStates.Steps.{places_on}
use Rattle.iox_tables.specs.HubStates.Ways.{lane_on}
use Rattle.iox_tables.specs.HubBooks.Counts.{how_often}
use Rattle.iox_tables.specs.HubBooks.Handles.{IsAlone}
use Rattle.iox_tables.specs.HubBooks.Hubs.{AreInOrder, IsUsed}
use Rattle.iox_tables.specs.HubLoans.Lenders.{ways_by}
use Rattle.iox_tables.proofs.HubBooks.Places.{often_has}
use Rattle.iox_tables.proofs.HubBooks.Used.{handle_is, on_no_lane, used_by_handle, used_on_lane}
use Rattle.iox_tables.proofs.HubLending.Owning.{number_is}
use Rattle.iox_tables.proofs.HubLoans.Dry.{sender_is}
use Rattle.iox_hub_phases.specs.Phases.{OfEachWay}
use Rattle.iox_control.specs.Controls.{ControlState, IsControl, with_tables}
use Rattle.iox_control_retrieving.specs.Alone.{HasOneLoan}
use Rattle.iox_control_retrieving.specs.Retrieving.{GetsBack}
use Rattle.iox_control_retrieving.proofs.Emptied.{IsEmptied, all_emptied, none_counted}

-- ---- lists of slots

-- somebody has the slot of that number
abbrev is_held : List SlotState → ℕ → Type 0
is_held ss k = 1 ≤ (option_map_or (λ s. s) (slice_get ss k) no_slot).holders

-- how many nobody has
abbrev free_len : List SlotState → ℕ
free_len ss = length (filter is_free ss)

free_few : (ss : List SlotState) → free_len ss ≤ length ss
free_few [] = omega arith
free_few (s ∷ ss) = step (is_free s) (free_few ss)
  where
    step : (b : Bool) → free_len ss ≤ length ss → length (if b then s ∷ filter is_free ss else filter is_free ss) ≤ suc (length ss)
    step true rest = omega (arith, rest)
    step false rest = omega (arith, rest)

never_free : (n : ℕ) → 1 ≤ n → (n == 0) ≡ false
never_free n some = grind (arith, some)

-- where all are free nobody has any
none_held : (ss : List SlotState) (k : ℕ) → free_len ss ≡ length ss → is_held ss k → ⊥
none_held [] k all held = absurd (omega (arith, held))
none_held (s ∷ ss) k all held = step (is_free s) refl all (none_held ss)
  where
    at : (j : ℕ) → is_free s ≡ true → free_len ss ≡ length ss → ((i : ℕ) → free_len ss ≡ length ss → is_held ss i → ⊥) → is_held (s ∷ ss) j → ⊥
    at zero free rest others h = true≢false (sym free ∙ never_free s.holders h)
    at (suc j) free rest others h = others j rest h

    step : (b : Bool) → is_free s ≡ b → length (if b then s ∷ filter is_free ss else filter is_free ss) ≡ suc (length ss)
        → ((i : ℕ) → free_len ss ≡ length ss → is_held ss i → ⊥) → ⊥
    step true e more others = at k e (omega (arith, more)) others held
    step false e more others = let few = free_few ss in absurd (omega (arith, more, few))

-- where all but one are free it is the one that somebody has
only_one : (ss : List SlotState) (j k : ℕ) → length ss - free_len ss ≡ 1 → is_held ss j → is_held ss k → j ≡ k
only_one [] j k one a b = absurd (omega (arith, a))
only_one (s ∷ ss) j k one a b = step (is_free s) refl one (only_one ss)
  where
    at_first : (i : ℕ) → free_len ss ≡ length ss → is_held (s ∷ ss) i → i ≡ 0
    at_first zero all h = refl
    at_first (suc i) all h = absurd (none_held ss i all h)

    later : (x y : ℕ) → is_free s ≡ true → is_held (s ∷ ss) x → is_held (s ∷ ss) y → ((i n : ℕ) → is_held ss i → is_held ss n → i ≡ n) → x ≡ y
    later zero y free h g rest = absurd (true≢false (sym free ∙ never_free s.holders h))
    later (suc x) zero free h g rest = absurd (true≢false (sym free ∙ never_free s.holders g))
    later (suc x) (suc y) free h g rest = ap suc (rest x y h g)

    step : (c : Bool) → is_free s ≡ c → suc (length ss) - length (if c then s ∷ filter is_free ss else filter is_free ss) ≡ 1
        → ((i n : ℕ) → length ss - free_len ss ≡ 1 → is_held ss i → is_held ss n → i ≡ n) → j ≡ k
    step true e left rest = later j k e a b (λ i n. rest i n (omega (arith, left)))
    step false e left rest =
        let few = free_few ss in
        let all : free_len ss ≡ length ss = omega (arith, left, few) in at_first j all a ∙ sym (at_first k all b)

-- ---- what is on a lane

on_both : (k : ℕ) (ks js : List ℕ) → has_number k ks ≡ true → has_number k (ks ++ js) ≡ true
on_both k [] js has = absurd (true≢false (sym has))
on_both k (n ∷ ks) js has = step (n == k) has (on_both k ks js)
  where
    step : (b : Bool) → (b || has_number k ks) ≡ true → (has_number k ks ≡ true → has_number k (ks ++ js) ≡ true) → (b || has_number k (ks ++ js)) ≡ true
    step true h rest = refl
    step false h rest = rest h

on_second : (k : ℕ) (ks js : List ℕ) → has_number k js ≡ true → has_number k (ks ++ js) ≡ true
on_second k [] js has = has
on_second k (n ∷ ks) js has = step (n == k) (on_second k ks js has)
  where
    step : (b : Bool) → has_number k (ks ++ js) ≡ true → (b || has_number k (ks ++ js)) ≡ true
    step true rest = refl
    step false rest = rest

module _ (t : HubTables) (order : AreInOrder t) (pool : ℕ) (one : HasOneLoan t pool) where
  alone : (slot_at t.pools one.handle.pool one.handle.slot).holders ≡ 1
  alone = handle_is (IsAlone t) t.handles one.node one.number one.handle order.alone one.named.there one.loan

  its_slot : IsUsed t pool one.handle.slot
  its_slot = subst (λ q. IsUsed t q one.handle.slot) one.of_pool (used_by_handle t order one.node one.number one.handle one.named.there)

  one_held : length (slots_of t.pools pool) - free_len (slots_of t.pools pool) ≡ 1
  one_held =
      let counts = eqb-true (length (slots_of t.pools pool) - free_count t.pools pool) 1 one.one in
      let same = length-filter is_free (slots_of t.pools pool) in omega (arith, counts, same)

  -- nothing is on a lane of the pool
  nothing_on : (w : Way) (l : LaneState) → lane_on t.ports w ≡ Some l → l.pool ≡ pool → (k : ℕ) → has_number k (places_on l) ≡ true → ⊥
  nothing_on w l at is k has =
      let used : IsUsed t pool k = subst (λ q. IsUsed t q k) is (used_on_lane t order w l k at has) in
      let same : k ≡ one.handle.slot = only_one (slots_of t.pools pool) k one.handle.slot one_held used its_slot in
      let some = often_has k (places_on l) has in
      let none = on_no_lane t order one.node one.number one.handle one.named.there alone w l at (is ∙ sym one.of_pool) in
      let some_of = subst (λ j. 1 ≤ how_often j (places_on l)) same some in
      omega (arith, some_of, none)

  pub nothing_left : (w : Way) (l : LaneState) → lane_on t.ports w ≡ Some l → l.pool ≡ pool → l.returned ≡ []
  nothing_left w l at is = step l.returned refl
    where
      step : (ks : List ℕ) → l.returned ≡ ks → l.returned ≡ []
      step [] e = e
      step (k ∷ ks) e =
          absurd (nothing_on w l at is k
          (on_both k l.returned (l.waiting ++ l.taken) (ap (has_number k) e ∙ ap (λ (b : Bool). b || has_number k ks) (eqb-refl k))))

  pub nothing_waits : (w : Way) (l : LaneState) → lane_on t.ports w ≡ Some l → l.pool ≡ pool → l.waiting ≡ []
  nothing_waits w l at is = step l.waiting refl
    where
      step : (ks : List ℕ) → l.waiting ≡ ks → l.waiting ≡ []
      step [] e = e
      step (k ∷ ks) e =
          absurd (nothing_on w l at is k
          (on_second k l.returned (l.waiting ++ l.taken)
          (on_both k l.waiting l.taken (ap (has_number k) e ∙ ap (λ (b : Bool). b || has_number k ks) (eqb-refl k)))))

-- ---- nothing is got back

gets_none : (c : ControlState) (ws : List Way) → IsControl c → OfEachWay (IsEmptied c.tables.ports) ws → GetsBack c ws c
gets_none c ws order none = record {
  left = ap (λ ps. with_tables c (record (c.tables) { ports = ps })) (sym (all_emptied c.tables.ports ws none));
  fewer = record {
    same = refl;
    holders = λ pool k. let no = none_counted c.tables.ports pool k ws none in omega (arith, no);
  };
  order = order;
}

each_way : (P : Way → Type 0) (ws : List Way) → ((w : Way) → IsAmong w ws → P w) → OfEachWay P ws
each_way P [] all = tt
each_way P (w ∷ ws) all = (all w (inl refl), each_way P ws (λ v among. all v (inr among)))

pub none_on_way : (c : ControlState) (w : Way) (pool : ℕ) → IsControl c → HasOneLoan c.tables pool
    → ((l : LaneState) → lane_on c.tables.ports w ≡ Some l → l.pool ≡ pool) → GetsBack c (w ∷ []) c
none_on_way c w pool order one is = gets_none c (w ∷ []) order (λ l at. nothing_left c.tables order.order pool one w l at (is l at), tt)

pub none_by_port : (c : ControlState) (n : ℕ) (p : PortState) → IsControl c → port_in c.tables.ports n ≡ Some p → HasOneLoan c.tables p.pool
    → GetsBack c (ways_by p.role c.tables p.number) c
none_by_port c n p order there one =
    gets_none c (ways_by p.role c.tables p.number) order
    (each_way (IsEmptied c.tables.ports) (ways_by p.role c.tables p.number) at_way)
  where
    from : port_in c.tables.ports p.number ≡ Some p
    from = ap (port_in c.tables.ports) (number_is c.tables order.order n p there) ∙ there

    at_way : (w : Way) → IsAmong w (ways_by p.role c.tables p.number) → IsEmptied c.tables.ports w
    at_way w among l at =
        nothing_left c.tables order.order p.pool one w l at
        (order.order.lanes w l p at (ap (port_in c.tables.ports) (sender_is c.tables p.role p.number w among) ∙ from)).of_pool
