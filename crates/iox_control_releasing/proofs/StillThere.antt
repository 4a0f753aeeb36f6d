-- Where nothing may be gone after a handle ended, its pool and that of its port are there.
use Rattle.std.specs.Prelude.{◌≡◌, ℕ, true, [], Option, Some, None, is_some, slice_get, refl}
use Rattle.std.specs.Option.{option_map_or}
use Rattle.std.proofs.Common.{sym, ap, subst, ◌∙◌, arith}
use Rattle.iox_tables.specs.HubStates.Tables.{HandleState, HubTables, PoolState, PortState, SlotState, no_slot, pool_at, port_in, slot_at}
use Rattle.iox_tables.specs.HubStates.Wirings.{handle_in}
use Rattle.iox_tables.specs.HubBooks.Handles.{IsOfPort}
use Rattle.iox_tables.specs.HubBooks.Hubs.{AreInOrder, IsUsed}
use Rattle.iox_tables.specs.HubBooks.Keeps.{bare_pools}
use Rattle.iox_tables.proofs.HubBooks.Frames.{AreAlike, port_before}
use Rattle.iox_tables.proofs.HubBooks.Structures.{pool_after}
use Rattle.iox_tables.proofs.HubBooks.Used.{handle_is, used_by_handle}
use Rattle.iox_slots.specs.Pools.{with_slot}
use Rattle.iox_slots.specs.Slots.{let_go}
use Rattle.iox_slots.proofs.BareLemmas.{let_go_bare}
use Rattle.iox_control_releasing.specs.Endings.{with_ended}
use Rattle.iox_control_releasing.specs.Goings.{ArePoolsThere}
use Rattle.iox_control_releasing.proofs.Tidy.{up_alike}

-- a pool of which somebody has a message is there
used_there : (t : HubTables) (place k : ℕ) → IsUsed t place k → (p : PoolState) × (pool_at t.pools place ≡ Some p)
used_there t place k used = step (pool_at t.pools place) refl
  where
    none : pool_at t.pools place ≡ None → (slot_at t.pools place k).holders ≡ 0
    none e = ap (λ o. (option_map_or (λ (s : SlotState). s) (slice_get (option_map_or (λ (p : PoolState). p.slots) o []) k) no_slot).holders) e

    step : (o : Option PoolState) → pool_at t.pools place ≡ o → (p : PoolState) × (pool_at t.pools place ≡ Some p)
    step (Some p) is = (p, is)
    step None is = let zero = none is in absurd (omega (arith, used, zero))

-- the port of a handle is there
pub handle_has_port : (t : HubTables) → AreInOrder t → (node n : ℕ) (h : HandleState) → handle_in t.handles node n ≡ Some h → is_some (port_in t.ports h.port) ≡ true
handle_has_port t order node n h found = ap (λ (o : Option PortState). is_some o) (handle_is (IsOfPort t) t.handles node n h order.ports found).there

module _ (t u : HubTables) (h : HandleState) (is : u ≡ record (with_ended t h) { pools = with_slot let_go t.pools h.pool h.slot }) where
  -- the handle's port has the same pool
  pub port_after : (p : PortState) → port_in t.ports h.port ≡ Some p → (q : PortState) × (port_in u.ports h.port ≡ Some q) × (q.pool ≡ p.pool)
  port_after p at =
      let q = port_before u.ports t.ports (sym (subst (AreAlike t.ports) (sym (ap (λ (v : HubTables). v.ports) is)) (up_alike t h h.kind))) h.port p at in
      (q.0, q.1, ap (λ (z : PortState). z.pool) q.2)

  -- pools stay as a message is let go
  stays : (place : ℕ) (p : PoolState) → pool_at t.pools place ≡ Some p → is_some (pool_at u.pools place) ≡ true
  stays place p at =
      let q = pool_after t.pools u.pools (let_go_bare t.pools h.pool h.slot ∙ ap (λ (v : HubTables). bare_pools v.pools) (sym is)) place p at in
      ap (λ (o : Option PoolState). is_some o) q.1

  pub pools_there : AreInOrder t → (node n : ℕ) → Some h ≡ handle_in t.handles node n → ArePoolsThere t.ports u.pools h
  pools_there order node n found = record {
    message =
        let p = used_there t h.pool h.slot (used_by_handle t order node n h (sym found)) in stays h.pool p.0 p.1;
    port = λ p at. let has = order.pools.each h.port p at in stays p.pool has.pool has.there;
  }
