-- What a port keeps is of its own pool, and what has no holder nobody has.
use Rattle.std.specs.Prelude.{◌≡◌, ℕ, zero, suc, ◌<◌, ◌≤◌, Bool, true, false, ◌&&◌, ◌==◌, List, [], ◌∷◌, length, Option, Some, None, slice_get, refl}
use Rattle.std.specs.List.{list_any}
use Rattle.std.specs.Option.{option_map_or}
use Rattle.std.proofs.Common.{sym, ap, subst, ◌∙◌, arith, inl, inr, true≢false, eqb-true}
use Rattle.std.proofs.lemmas.Option.{slice_get_within}
use Rattle.iox_model.specs.declared.way.Way.{Way}
use Rattle.iox_model.specs.Handles.{is_own}
use Rattle.iox_model.specs.Maps.{has_number}
use Rattle.iox_laws.proofs.WeaveLedger.Lists.{IsAmong, any-among}
use Rattle.iox_lanes.specs.Lanes.{LaneState}
use Rattle.iox_tables.specs.HubStates.Tables.{HandleState, HubTables, PoolState, PortState, SlotState, no_slot, port_in, slot_at, slots_of}
use Rattle.iox_tables.specs.HubStates.Ways.{lane_on}
use Rattle.iox_tables.specs.HubStates.States.{no_id}
use Rattle.iox_tables.specs.HubStates.Ends.{OfEachHandle}
use Rattle.iox_tables.specs.HubStates.Steps.{places_on}
use Rattle.iox_tables.proofs.HubStates.Fixing.{first_key}
use Rattle.iox_tables.specs.HubBooks.Handles.{IsOfPort}
use Rattle.iox_tables.specs.HubBooks.Hubs.{AreInOrder, HasPool, IsUsed}
use Rattle.iox_tables.proofs.HubBooks.Going.{each_both}
use Rattle.iox_tables.proofs.HubBooks.Held.{IsCountedIn, each_counts, each_handle_from, used_by_counted}
use Rattle.iox_tables.proofs.HubBooks.Used.{used_on_lane}
use Rattle.iox_tables.specs.HubLoans.Counts.{IsOnNode}
use Rattle.iox_tables.specs.HubLoans.Lenders.{ways_by}
use Rattle.iox_tables.specs.HubLoans.Loans.{HasItsPool}
use Rattle.iox_tables.specs.HubLoans.Pools.{CarriesIts, HoldsItsOwn, KeepsItsOwn, is_slot_held, is_slot_kept, is_slot_out}
use Rattle.iox_tables.specs.HubLoans.Slots.{HasSlot, IsUnused, is_place}
use Rattle.iox_tables.proofs.HubLoans.Dry.{either, sender_is}
use Rattle.iox_tables.specs.HubLending.Premises.{FreeSlotsAreUnused, HandlesAreOnNodes, PortsAreReadyToLend}
use Rattle.iox_tables.proofs.HubBooks.Sendable.{there_below}
pub use Rattle.iox_tables.proofs.HubLoans.Dry.{of_each}
pub use Rattle.iox_tables.proofs.HubLoans.Spare.{not_true}

-- ---- tests and lists

pub two : (a b : Bool) → (a && b) ≡ true → (a ≡ true) × (b ≡ true)
two true b e = (refl, e)
two false b e = absurd (true≢false (sym e))

pub same_some : {A : Type 0} (a b : A) → Some a ≡ Some b → a ≡ b
same_some a b e = ap (λ o. option_map_or (λ z. z) o a) e

pub handles_are_on_nodes : HandlesAreOnNodes
handles_are_on_nodes t order =
    each_handle_from (IsOfPort t) (IsOnNode t) (λ h of. record { port = of.port; there = of.there; node = of.on_node }) t.handles order.ports

module _ (t : HubTables) (order : AreInOrder t) where
  -- a handle's slot has a holder
  pub used_among : (h : HandleState) → IsAmong h t.handles → IsUsed t h.pool h.slot
  used_among h among = used_by_counted t order h (of_each (IsCountedIn t.handles) h t.handles (each_counts t.handles) among)

  used_slot : (pool k : ℕ) → IsUsed t pool k → (s : SlotState) × (slice_get (slots_of t.pools pool) k ≡ Some s)
  used_slot pool k used = step (slice_get (slots_of t.pools pool) k) refl used
    where
      step : (o : Option SlotState) → slice_get (slots_of t.pools pool) k ≡ o → 1 ≤ (option_map_or (λ s. s) o no_slot).holders
          → (s : SlotState) × (slice_get (slots_of t.pools pool) k ≡ Some s)
      step (Some s) is u = (s, is)
      step None is u = absurd (omega (arith, u))

  pub free_is_unused : (pool k : ℕ) → (slot_at t.pools pool k).holders ≡ 0 → IsUnused t pool k
  free_is_unused pool k free = record { lanes = lanes; handles = handles }
    where
      never : IsUsed t pool k → ⊥
      never used = omega (arith, used, free)

      lanes : (w : Way) (l : LaneState) → lane_on t.ports w ≡ Some l → l.pool ≡ pool → has_number k (places_on l) ≡ false
      lanes w l at e = not_true (has_number k (places_on l)) (λ has. never (subst (λ i. IsUsed t i k) e (used_on_lane t order w l k at has)))

      handles : list_any (λ h. is_place pool k h.pool h.slot) t.handles ≡ false
      handles =
          not_true (list_any (λ h. is_place pool k h.pool h.slot) t.handles)
          (λ some.
          let r = any-among (λ h. is_place pool k h.pool h.slot) t.handles some in
          let both = two (r.0.pool == pool) (r.0.slot == k) r.2 in
          never (subst (λ j. IsUsed t pool j) (eqb-true r.0.slot k both.1) (subst (λ i. IsUsed t i r.0.slot) (eqb-true r.0.pool pool both.0) (used_among r.0 r.1))))

  module _ (n : ℕ) (p : PortState) (there : port_in t.ports n ≡ Some p) where
    pub number_is : p.number ≡ n
    number_is = first_key (λ (x : PortState). x.number) t.ports n p there

    abbrev pub has : HasPool t p
    has = order.pools.each n p there

    pub slots_are : slots_of t.pools p.pool ≡ has.pool.slots
    slots_are = ap (λ o. option_map_or (λ (q : PoolState). q.slots) o []) has.there

    pub slot_count : length (slots_of t.pools p.pool) ≡ p.size
    slot_count = ap (λ (ss : List SlotState). length ss) slots_are ∙ has.size

    pub used_within : (k : ℕ) → IsUsed t p.pool k → k < p.size
    used_within k used =
        let s = used_slot p.pool k used in
        subst (λ i. k < i) slot_count (slice_get_within (slots_of t.pools p.pool) k s.0 s.1)

    pub slot_there : (k : ℕ) → k < p.size → HasSlot t.pools p.pool k
    slot_there k low = there_below (slots_of t.pools p.pool) k (subst (λ i. k < i) (sym slot_count) low)

    pub port_is : (m : ℕ) (q : PortState) → port_in t.ports m ≡ Some q → m ≡ p.number → q ≡ p
    port_is m q at e = same_some q p (sym at ∙ ap (port_in t.ports) (e ∙ number_is) ∙ there)

    holds : (h : HandleState) → IsCountedIn t.handles h → IsOfPort t h → HoldsItsOwn p h
    holds h counts of at own =
        let pool : h.pool ≡ p.pool = of.of_pool own ∙ ap (λ (q : PortState). q.pool) (port_is h.port of.port of.there at) in
        (pool, used_within h.slot (subst (λ i. IsUsed t i h.slot) pool (used_by_counted t order h counts)))

    carries : (w : Way) (l : LaneState) → lane_on t.ports w ≡ Some l → w.sender ≡ p.number → CarriesIts p l
    carries w l at from =
        let pool : l.pool ≡ p.pool = (order.lanes w l p at (ap (port_in t.ports) (from ∙ number_is) ∙ there)).of_pool in
        (pool, λ k on. used_within k (subst (λ i. IsUsed t i k) pool (used_on_lane t order w l k at on)))

    held_used : (k : ℕ) → is_slot_held t p k ≡ true → IsUsed t p.pool k
    held_used k e =
        let r = any-among (λ h. (h.port == p.number) && (is_own h.kind && is_place p.pool k h.pool h.slot)) t.handles e in
        let place = two (r.0.pool == p.pool) (r.0.slot == k) (two (is_own r.0.kind) _ (two (r.0.port == p.number) _ r.2).1).1 in
        subst (λ j. IsUsed t p.pool j) (eqb-true r.0.slot k place.1) (subst (λ i. IsUsed t i r.0.slot) (eqb-true r.0.pool p.pool place.0) (used_among r.0 r.1))

    out_used : (k : ℕ) → is_slot_out t p k ≡ true → IsUsed t p.pool k
    out_used k e =
        let r = any-among (λ w. option_map_or (λ l. has_number k (places_on l)) (lane_on t.ports w) false) (ways_by p.role t p.number) e in
        step r.0 (sender_is t p.role p.number r.0 r.1) (lane_on t.ports r.0) refl r.2
      where
        step : (w : Way) → w.sender ≡ p.number → (o : Option LaneState) → lane_on t.ports w ≡ o → option_map_or (λ l. has_number k (places_on l)) o false ≡ true → IsUsed t p.pool k
        step w from None is out = absurd (true≢false (sym out))
        step w from (Some l) is out = subst (λ i. IsUsed t i k) (carries w l is from).0 (used_on_lane t order w l k is out)

    pub kept_used : (k : ℕ) → is_slot_kept t p k ≡ true → IsUsed t p.pool k
    kept_used k e = elim (either (is_slot_held t p k) (is_slot_out t p k) e) as (λ u. IsUsed t p.pool k) [
      | inl q ↦ held_used k q
      | inr q ↦ out_used k q
    ]

    pub keeps_its_own : KeepsItsOwn t p
    keeps_its_own = record {
      handles =
          each_handle_from (λ h. IsCountedIn t.handles h × IsOfPort t h) (HoldsItsOwn p) (λ h both. holds h both.0 both.1) t.handles
          (each_both (IsCountedIn t.handles) (IsOfPort t) t.handles (each_counts t.handles) order.ports);
      lanes = carries;
      apart = λ j k a b e. order.serials.apart p.pool j k (kept_used j a) (kept_used k b) e;
      below = λ k a. order.serials.below n k p there (kept_used k a);
    }

    pub has_its_pool : HasItsPool t p
    has_its_pool = record {
      owner = ap (λ o. option_map_or (λ (q : PoolState). q.port) o 0) has.there ∙ has.port;
      node_id = ap (λ o. option_map_or (λ (q : PoolState). q.node_id) o no_id) has.there ∙ has.node_id;
      port_id = ap (λ o. option_map_or (λ (q : PoolState). q.port_id) o no_id) has.there ∙ has.port_id;
    }

pub ports_are_ready : PortsAreReadyToLend
ports_are_ready t n p order there = record {
  keeps = keeps_its_own t order n p there;
  pool = has_its_pool t order n p there;
  slots = slot_there t order n p there;
}

pub free_slots_are_unused : FreeSlotsAreUnused
free_slots_are_unused t pool k order free = free_is_unused t order pool k free
