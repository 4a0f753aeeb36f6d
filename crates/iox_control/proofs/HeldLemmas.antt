-- What is there by what is so of a hub between calls: the slot and the pool of a handle, and the pool
-- of a port. Somebody has the message of a handle, and what is on a lane.
use Rattle.std.specs.Prelude.{◌≡◌, ◌<◌, ◌≤◌, ℕ, true, Option, Some, is_some}
use Rattle.std.proofs.Common.{ap, arith}
use Rattle.iox_model.specs.declared.way.Way.{Way}
use Rattle.iox_model.specs.Maps.{has_number}
use Rattle.iox_lanes.specs.Lanes.{LaneState}
use Rattle.iox_hub_ports.specs.HubStates.Steps.{places_on}
use Rattle.iox_hub_ports.specs.HubStates.Tables.{HandleState, HubTables, PoolState, PortState, pool_at, port_in, slot_at}
use Rattle.iox_hub_ports.specs.HubStates.Ways.{lane_on}
use Rattle.iox_hub_ports.specs.HubStates.Wirings.{handle_in}
use Rattle.iox_hub_ports.specs.HubBooks.Hubs.{AreInOrder}
use Rattle.iox_hub_ports.proofs.HubBooks.Used.{used_by_handle, used_on_lane}
use Rattle.iox_slots.specs.Pools.{has_slot}
use Rattle.iox_slots.proofs.CallerLemmas.{pool_of_slot, taken_is_there}

module _ (t : HubTables) (order : AreInOrder t) where
  pub handle_holds : (node n : ℕ) (h : HandleState) → handle_in t.handles node n ≡ Some h → 0 < (slot_at t.pools h.pool h.slot).holders
  handle_holds node n h there =
      let used : 1 ≤ (slot_at t.pools h.pool h.slot).holders = used_by_handle t order node n h there in omega (arith, used)

  pub handle_has_slot : (node n : ℕ) (h : HandleState) → handle_in t.handles node n ≡ Some h → has_slot t.pools h.pool h.slot ≡ true
  handle_has_slot node n h there = taken_is_there t.pools h.pool h.slot (handle_holds node n h there)

  pub handle_has_pool : (node n : ℕ) (h : HandleState) → handle_in t.handles node n ≡ Some h → is_some (pool_at t.pools h.pool) ≡ true
  handle_has_pool node n h there = pool_of_slot t.pools h.pool h.slot (handle_has_slot node n h there)

  pub lane_holds : (w : Way) (l : LaneState) (k : ℕ) → lane_on t.ports w ≡ Some l → has_number k (places_on l) ≡ true → 0 < (slot_at t.pools l.pool k).holders
  lane_holds w l k there has =
      let used : 1 ≤ (slot_at t.pools l.pool k).holders = used_on_lane t order w l k there has in omega (arith, used)

  pub port_has_pool : (n : ℕ) (p : PortState) → port_in t.ports n ≡ Some p → is_some (pool_at t.pools p.pool) ≡ true
  port_has_pool n p there = ap (λ (o : Option PoolState). is_some o) (order.pools.each n p there).there
