-- Pools as they are once lanes are emptied: each slot has as many holders as it has uses then.
use Rattle.std.specs.Prelude.{◌≡◌, ℕ, ◌+◌, zero, suc, Bool, true, false, if◌then◌else◌, ◌==◌, List, [], ◌∷◌, map, Option, Some, None, slice_get, refl}
use Rattle.std.specs.Option.{option_map, option_map_or}
use Rattle.std.proofs.Common.{ap, ap₂, ◌∙◌, arith}
use Rattle.iox_model.specs.declared.way.Way.{Way}
use Rattle.iox_lanes.specs.Lanes.{LaneState}
use Rattle.iox_tables.specs.HubStates.Tables.{HubTables, PoolState, PortState, SlotState, no_slot, slot_at}
use Rattle.iox_tables.specs.HubStates.Ways.{lane_on, with_lanes_on}
use Rattle.iox_tables.specs.HubStates.Changes.{emptied_lane}
use Rattle.iox_tables.specs.HubStates.Shown.{by_lane}
use Rattle.iox_tables.specs.HubStates.Steps.{places_on}
use Rattle.iox_tables.specs.HubBooks.Counts.{handle_uses, how_often, lane_count, lane_uses, total}
use Rattle.iox_tables.specs.HubBooks.Hubs.{AreInOrder}
use Rattle.iox_tables.specs.HubBooks.Keeps.{bare_pool, bare_pools, bare_slot}
use Rattle.iox_tables.proofs.HubBooks.LaneCounts.{emptied_places}
use Rattle.iox_tables.proofs.HubBooks.LaneLists.{lanes_total}
use Rattle.iox_tables.specs.HubLending.Emptying.{AreGotBack, returned_count, returned_on}
use Rattle.iox_tables.specs.HubLoans.Lenders.{ways_by}
use Rattle.iox_tables.proofs.HubLending.Back.{ways_apart}

-- ---- pools with other holders

-- slots from this number on, with so many holders each
abbrev held_slots : (ℕ → ℕ) → ℕ → List SlotState → List SlotState
held_slots f i [] = []
held_slots f i (s ∷ ss) = record s { holders = f i } ∷ held_slots f (suc i) ss

-- pools from this place on, with so many holders of each slot
abbrev held_pools : (ℕ → ℕ → ℕ) → ℕ → List (Option PoolState) → List (Option PoolState)
held_pools f i [] = []
held_pools f i (o ∷ os) = option_map (λ (p : PoolState). record p { slots = held_slots (f i) 0 p.slots }) o ∷ held_pools f (suc i) os

slots_bare : (f : ℕ → ℕ) (i : ℕ) (ss : List SlotState) → map bare_slot ss ≡ map bare_slot (held_slots f i ss)
slots_bare f i [] = refl
slots_bare f i (s ∷ ss) = ap (λ bs. bare_slot s ∷ bs) (slots_bare f (suc i) ss)

pools_bare : (f : ℕ → ℕ → ℕ) (i : ℕ) (ps : List (Option PoolState)) → bare_pools ps ≡ bare_pools (held_pools f i ps)
pools_bare f i [] = refl
pools_bare f i (o ∷ os) = ap₂ (λ a bs. a ∷ bs) (one o) (pools_bare f (suc i) os)
  where
    one : (q : Option PoolState) → option_map bare_pool q ≡ option_map bare_pool (option_map (λ (p : PoolState). record p { slots = held_slots (f i) 0 p.slots }) q)
    one (Some p) = ap (λ ss. Some (record p { slots = ss })) (slots_bare (f i) 0 p.slots)
    one None = refl

abbrev slot_in : List SlotState → ℕ → SlotState
slot_in ss k = option_map_or (λ s. s) (slice_get ss k) no_slot

slots_held : (f : ℕ → ℕ) (i n : ℕ) (ss : List SlotState) (k : ℕ) → (slot_in ss k).holders ≡ f (i + k) + n
    → (slot_in ss k).holders ≡ (slot_in (held_slots f i ss) k).holders + n
slots_held f i n [] k e = omega (arith, e)
slots_held f i n (s ∷ ss) zero e = e ∙ ap (λ j. f j + n) (omega arith)
slots_held f i n (s ∷ ss) (suc k) e = slots_held f (suc i) n ss k (e ∙ ap (λ j. f j + n) (omega arith))

pools_held : (f : ℕ → ℕ → ℕ) (i n : ℕ) (ps : List (Option PoolState)) (pool k : ℕ) → (slot_at ps pool k).holders ≡ f (i + pool) k + n
    → (slot_at ps pool k).holders ≡ (slot_at (held_pools f i ps) pool k).holders + n
pools_held f i n [] pool k e = omega (arith, e)
pools_held f i n (Some p ∷ os) zero k e =
    slots_held (f i) 0 n p.slots k (e ∙ ap₂ (λ (a b : ℕ). f a b + n) (omega arith) (omega arith))
pools_held f i n (None ∷ os) zero k e = omega (arith, e)
pools_held f i n (o ∷ os) (suc pool) k e = pools_held f (suc i) n os pool k (e ∙ ap (λ a. f a k + n) (omega arith))

-- ---- what is left on lanes

one_lane : (pool k : ℕ) (l : LaneState) → lane_count pool k (emptied_lane l) + returned_count pool k l ≡ lane_count pool k l
one_lane pool k l = step (l.pool == pool)
  where
    none : 0 + 0 ≡ 0
    none = omega arith

    step : (b : Bool) → (if b then how_often k (places_on (emptied_lane l)) else 0) + (if b then how_often k l.returned else 0) ≡ (if b then how_often k (places_on l) else 0)
    step true = emptied_places (λ n. if n == k then 1 else 0) l
    step false = none

module _ (t : HubTables) (pool k : ℕ) where
  sums : (ws : List Way)
      → total (by_lane (λ l. lane_count pool k (emptied_lane l)) 0 (lane_on t.ports)) ws + returned_on t ws pool k
      ≡ total (by_lane (lane_count pool k) 0 (lane_on t.ports)) ws
  sums [] = omega arith
  sums (w ∷ ws) = step (lane_on t.ports w) (sums ws)
    where
      step : (o : Option LaneState)
          → total (by_lane (λ l. lane_count pool k (emptied_lane l)) 0 (lane_on t.ports)) ws + returned_on t ws pool k ≡ total (by_lane (lane_count pool k) 0 (lane_on t.ports)) ws
          → (option_map_or (λ l. lane_count pool k (emptied_lane l)) o 0 + total (by_lane (λ l. lane_count pool k (emptied_lane l)) 0 (lane_on t.ports)) ws)
          + (option_map_or (returned_count pool k) o 0 + returned_on t ws pool k)
          ≡ option_map_or (lane_count pool k) o 0 + total (by_lane (lane_count pool k) 0 (lane_on t.ports)) ws
      step (Some l) rest = let e = one_lane pool k l in omega (arith, e, rest)
      step None rest = omega (arith, rest)

-- ---- such pools

-- how many lanes and handles have the message in that slot, once the port got back all
abbrev uses_left : HubTables → PortState → ℕ → ℕ → ℕ
uses_left t p pool k =
    handle_uses t.handles pool k + lane_uses (with_lanes_on emptied_lane t.ports (ways_by p.role t p.number)) pool k

pub got_back : (t : HubTables) (p : PortState) → AreInOrder t → (pools : List (Option PoolState)) × AreGotBack t p pools
got_back t p order = (held_pools (uses_left t p) 0 t.pools, record { same = pools_bare (uses_left t p) 0 t.pools; holders = holders })
  where
    holders : (pool k : ℕ) → (slot_at t.pools pool k).holders
        ≡ (slot_at (held_pools (uses_left t p) 0 t.pools) pool k).holders + returned_on t (ways_by p.role t p.number) pool k
    holders pool k =
        let counted = order.counted pool k in
        let all = lanes_total (lane_count pool k) emptied_lane t.ports (ways_by p.role t p.number) (ways_apart t order p.role p.number) in
        let sum = sums t pool k (ways_by p.role t p.number) in
        let split : (slot_at t.pools pool k).holders
        ≡ (handle_uses t.handles pool k + lane_uses (with_lanes_on emptied_lane t.ports (ways_by p.role t p.number)) pool k) + returned_on t (ways_by p.role t p.number) pool k
        = omega (arith, counted, all, sum) in
        pools_held (uses_left t p) 0 (returned_on t (ways_by p.role t p.number) pool k) t.pools pool k (split ∙ ap (λ i. uses_left t p i k + returned_on t (ways_by p.role t p.number) pool k) (omega arith))
