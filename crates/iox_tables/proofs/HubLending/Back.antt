-- A port gets back all that was given back: its ways differ, it stays as it is, and its pool is dry
-- exactly where somebody has each slot.
use Rattle.std.specs.Prelude.{◌≡◌, ℕ, ◌+◌, zero, suc, Bool, false, ◌&&◌, ◌||◌, if◌then◌else◌, ◌==◌, List, [], ◌∷◌, map, flat_map, length, Option, Some, slice_get, refl}
use Rattle.std.specs.List.{list_all, list_any, range_with_len}
use Rattle.std.specs.Option.{option_map, option_map_or}
use Rattle.std.proofs.Common.{sym, ap, ap₂, subst, ◌∙◌, arith, true≢false, eqb-true, inl, inr}
use Rattle.iox_model.specs.declared.kind.Role.{Role}
use Rattle.iox_model.specs.declared.kind.Role.TheVariants.{Client, Server}
use Rattle.iox_model.specs.declared.way.Way.{Way}
use Rattle.iox_model.specs.Maps.{AreDistinctWays, has_number, has_way}
use Rattle.iox_model.specs.Messages.{request_way, response_way}
use Rattle.iox_model.specs.Settings.{is_client, other_role}
use Rattle.iox_laws.proofs.WeaveLedger.Lists.{IsAmong, NoRepeats, flat-among, map-among, no_repeats-append, no_repeats-map, way-among}
use Rattle.iox_laws.proofs.WeaveLedger.Ranges.{range-apart}
use Rattle.iox_lanes.specs.Lanes.{LaneState}
use Rattle.iox_lanes.specs.Pipes.{with_lane}
use Rattle.iox_tables.specs.HubStates.Tables.{HubTables, PoolState, PortState, SlotState, no_slot, port_in, slot_at, slots_of}
use Rattle.iox_tables.specs.HubStates.Ways.{lane_on, with_lane_on, with_lanes_on, with_pipe_of}
use Rattle.iox_tables.specs.HubStates.Changes.{emptied_lane}
use Rattle.iox_tables.specs.HubStates.Steps.{places_on}
use Rattle.iox_tables.specs.HubStates.Wirings.{numbers_of_role}
use Rattle.iox_tables.proofs.HubStates.Keys.{first_changed, lane_sender, same_number}
use Rattle.iox_tables.specs.HubBooks.Hubs.{AreInOrder}
use Rattle.iox_tables.proofs.HubBooks.Sendable.{of_role, roles_apart}
use Rattle.iox_tables.specs.HubLoans.Lenders.{size_in, ways_by, ways_to_client, with_got_back}
use Rattle.iox_tables.specs.HubLoans.Pools.{is_slot_held, is_slot_kept}
use Rattle.iox_tables.proofs.HubLoans.GotBack.{dry_pools_are_kept}
use Rattle.iox_tables.specs.HubLending.Emptying.{AreGotBack, DryPoolsHaveHolders, GettingBackKeepsOrder, with_back}
use Rattle.iox_tables.specs.HubLending.Keeping.{has_holder}
use Rattle.iox_tables.proofs.HubLending.Kept.{held_slots_are_kept}
use Rattle.iox_tables.proofs.HubLending.Owning.{handles_are_on_nodes, keeps_its_own, not_true, number_is, port_is, slot_count}
use Rattle.iox_tables.proofs.HubLending.Emptied.{emptying_keeps_order}

-- ---- ways

apart_ways : (ws : List Way) → NoRepeats ws → AreDistinctWays ws
apart_ways [] once = tt
apart_ways (w ∷ ws) once = (not_true (has_way w ws) (λ e. once.0 (way-among w ws e)), apart_ways ws once.1)

no_repeats-flat : {A B : Type 0} (f : A → List B) (xs : List A) → NoRepeats xs → ((a : A) → NoRepeats (f a))
    → ((a c : A) (b : B) → IsAmong b (f a) → IsAmong b (f c) → a ≡ c) → NoRepeats (flat_map f xs)
no_repeats-flat f [] once each one = tt
no_repeats-flat f (x ∷ xs) once each one =
    no_repeats-append (f x) (flat_map f xs) (each x) (no_repeats-flat f xs once.1 each one)
    (λ b p q.
    let r = flat-among f b xs q in
    once.0 (subst (λ a. IsAmong a xs) (sym (one x r.0 b p r.2)) r.1))

module _ (t : HubTables) (order : AreInOrder t) where
  pub ways_apart : (role : Role) (n : ℕ) → AreDistinctWays (ways_by role t n)
  ways_apart Client n =
      apart_ways (map (request_way n) (numbers_of_role Server t.ports))
      (no_repeats-map (request_way n) (numbers_of_role Server t.ports) (λ a b e. ap (λ (w : Way). w.receiver) e) (roles_apart t order Server))
  ways_apart Server n =
      apart_ways (flat_map (ways_to_client t n) (numbers_of_role Client t.ports))
      (no_repeats-flat (ways_to_client t n) (numbers_of_role Client t.ports) (roles_apart t order Client)
      (λ client. no_repeats-map (λ lane. response_way client lane n) (range_with_len 0 (size_in t.ports client)) (λ a b e. ap (λ (w : Way). w.lane) e) (range-apart 0 (size_in t.ports client)))
      (λ a c w p q. sym (to_client a w p) ∙ to_client c w q))
    where
      to_client : (client : ℕ) (w : Way) → IsAmong w (ways_to_client t n client) → w.receiver ≡ client
      to_client client w p = let r = map-among (λ lane. response_way client lane n) w (range_with_len 0 (size_in t.ports client)) p in ap (λ (v : Way). v.receiver) r.2

  -- whom a port sends to
  receivers : (role : Role) (n : ℕ) (w : Way) → IsAmong w (ways_by role t n) → IsAmong w.receiver (numbers_of_role (other_role role) t.ports)
  receivers Client n w p =
      let r = map-among (request_way n) w (numbers_of_role Server t.ports) p in
      subst (λ i. IsAmong i (numbers_of_role Server t.ports)) (sym (ap (λ (v : Way). v.receiver) r.2)) r.1
  receivers Server n w p =
      let r = flat-among (ways_to_client t n) w (numbers_of_role Client t.ports) p in
      let s = map-among (λ lane. response_way r.0 lane n) w (range_with_len 0 (size_in t.ports r.0)) r.2 in
      subst (λ i. IsAmong i (numbers_of_role Client t.ports)) (sym (ap (λ (v : Way). v.receiver) s.2)) r.1

not_itself : (r : Role) → r ≡ other_role r → ⊥
not_itself Client e = true≢false (ap is_client e)
not_itself Server e = true≢false (sym (ap is_client e))

-- a port to which none of the lanes leads stays
port_elsewhere : (g : LaneState → LaneState) (n : ℕ) (ws : List Way) (ports : List PortState) → ((w : Way) → IsAmong w ws → (n == w.receiver) ≡ false)
    → port_in (with_lanes_on g ports ws) n ≡ port_in ports n
port_elsewhere g n [] ports off = refl
port_elsewhere g n (w ∷ ws) ports off =
    port_elsewhere g n ws (with_lane_on g ports w) (λ v p. off v (inr p))
    ∙ first_changed (λ (p : PortState). p.number) (λ p. with_pipe_of (λ q. with_lane g q w.lane) p w.sender) (λ p. same_number (λ q. with_lane g q w.lane) (lane_sender g w.lane) w.sender p) ports w.receiver n
    ∙ ap
    (λ (b : Bool). if b then option_map (λ p. with_pipe_of (λ q. with_lane g q w.lane) p w.sender) (port_in ports n) else port_in ports n)
    (off w (inl refl))

module _ (t : HubTables) (order : AreInOrder t) (n : ℕ) (p : PortState) (there : port_in t.ports n ≡ Some p) where
  pub port_stays : port_in (with_got_back t p).ports n ≡ Some p
  port_stays =
      port_elsewhere emptied_lane n (ways_by p.role t p.number) t.ports (λ w a. not_true (n == w.receiver) (λ e. never w a (eqb-true n w.receiver e))) ∙ there
    where
      never : (w : Way) → IsAmong w (ways_by p.role t p.number) → n ≡ w.receiver → ⊥
      never w a e =
          let q = of_role t order (other_role p.role) w.receiver (receivers t order p.role p.number w a) in
          let same : q.0 ≡ p = port_is t order n p there w.receiver q.0 q.1 (sym e ∙ sym (number_is t order n p there)) in
          not_itself p.role (ap (λ (r : PortState). r.role) (sym same) ∙ q.2)

  pub back_in_order : (pools : List (Option PoolState)) → AreGotBack t p pools → AreInOrder (with_back t p pools)
  back_in_order pools fewer = emptying_keeps_order t (ways_by p.role t p.number) pools order (ways_apart t order p.role p.number) fewer

pub getting_back_keeps_order : GettingBackKeepsOrder
getting_back_keeps_order t n p pools order there fewer = (back_in_order t order n p there pools fewer, port_stays t order n p there)

-- ---- all slots

all_same : {A : Type 0} (f g : A → Bool) → ((x : A) → f x ≡ g x) → (xs : List A) → list_all f xs ≡ list_all g xs
all_same f g same [] = refl
all_same f g same (x ∷ xs) = ap₂ (λ a b. a && b) (same x) (all_same f g same xs)

one_up : (k : ℕ) → k + 1 ≡ suc k
one_up k = omega arith

all_up : (f : ℕ → Bool) (a n : ℕ) → list_all f (range_with_len (a + 1) n) ≡ list_all (λ k. f (k + 1)) (range_with_len a n)
all_up f a zero = refl
all_up f a (suc n) = ap (λ b. f (a + 1) && b) (all_up f (a + 1) n)

abbrev get_slot : List SlotState → ℕ → SlotState
get_slot ss k = option_map_or (λ s. s) (slice_get ss k) no_slot

-- all of a list pass exactly if each by its number does
all_slots : (test : SlotState → Bool) (ss : List SlotState) → list_all (λ k. test (get_slot ss k)) (range_with_len 0 (length ss)) ≡ list_all test ss
all_slots test [] = refl
all_slots test (s ∷ ss) =
    ap (λ b. test s && b)
    (all_up (λ k. test (get_slot (s ∷ ss) k)) 0 (length ss)
    ∙ all_same (λ k. test (get_slot (s ∷ ss) (k + 1))) (λ k. test (get_slot ss k)) (λ k. ap (λ i. test (get_slot (s ∷ ss) i)) (one_up k)) (range_with_len 0 (length ss))
    ∙ all_slots test ss)

-- ways, and what is kept, do not depend on holders
same_ways : (t : HubTables) (pools : List (Option PoolState)) (role : Role) (n : ℕ) → ways_by role t n ≡ ways_by role (record t { pools = pools }) n
same_ways t pools Client n = refl
same_ways t pools Server n = refl

same_kept : (t : HubTables) (pools : List (Option PoolState)) (p : PortState) (k : ℕ) → is_slot_kept t p k ≡ is_slot_kept (record t { pools = pools }) p k
same_kept t pools p k =
    ap (λ ws. is_slot_held t p k || list_any (λ w. option_map_or (λ l. has_number k (places_on l)) (lane_on t.ports w) false) ws) (same_ways t pools p.role p.number)

pub dry_pools_have_holders : DryPoolsHaveHolders
dry_pools_have_holders x t n p pools order messages there fewer =
    dry_pools_are_kept x t p (ap (port_in t.ports) (number_is t order n p there) ∙ there) (handles_are_on_nodes t order) (keeps_its_own t order n p there)
    ∙ all_same (is_slot_kept (with_got_back t p) p) (λ k. has_holder (slot_at pools p.pool k))
    (λ k. same_kept (with_got_back t p) pools p k ∙ held_slots_are_kept (with_back t p pools) n k p back messages (port_stays t order n p there)) (range_with_len 0 p.size)
    ∙ ap (λ m. list_all (λ k. has_holder (slot_at pools p.pool k)) (range_with_len 0 m)) (sym (slot_count (with_back t p pools) back n p (port_stays t order n p there)))
    ∙ all_slots has_holder (slots_of pools p.pool)
  where
    back : AreInOrder (with_back t p pools)
    back = back_in_order t order n p there pools fewer
