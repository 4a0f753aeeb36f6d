-- A loan in the slot of the message that was got back last.
use Rattle.std.specs.Prelude.{◌≡◌, ℕ, if◌then◌else◌, List, Option, Some, None}
use Rattle.iox_model.specs.declared.kind.Role.{Role}
use Rattle.iox_model.specs.declared.kind.Role.TheVariants.{Client}
use Rattle.iox_model.specs.Settings.{is_client}
use Rattle.iox_tables.specs.HubStates.Tables.{PoolState, PortState, port_in, slot_at, slots_of}
use Rattle.iox_slots.specs.Lanes.{AreOnOwnLanes}
use Rattle.iox_slots.specs.Pools.{with_slot}
use Rattle.iox_slots.specs.Slots.{let_go}
use Rattle.iox_control.specs.Controls.{ControlState, IsControl, with_pools}
use Rattle.iox_control_lending.specs.declared.asked.Lending.{Lending}
use Rattle.iox_control_lending.specs.Lends.{IsGotBack, IsPortOf, IsTaken, lender_of}

-- the tables once one less has the slot of that pool, if one is told
abbrev pub with_last_let_go : ControlState → ℕ → Option ℕ → ControlState
with_last_let_go c pool None = c
with_last_let_go c pool (Some slot) =
    with_pools c (with_slot let_go c.tables.pools pool slot)

-- Just one has the message in that slot, and each message of a client's pool is on its slot's own
-- lane. So once that one lets it go, a loan may take the slot, a client's on the slot's own lane.
pub record MayBeRetaken (role : Role) (pools : List (Option PoolState)) (pool slot : ℕ) : Type 0
  where
    pub one : (slot_at pools pool slot).holders ≡ 1
    pub lanes : role ≡ Client → AreOnOwnLanes (slots_of pools pool)

-- the lane of a loan in such a slot: a client's is that of the message before; a server's that of
-- its request
abbrev pub lane_anew : Lending → List (Option PoolState) → ℕ → ℕ
lane_anew l pools slot =
    if is_client l.port.role then (slot_at pools l.port.pool slot).lane else l.lane

-- A slot that nobody had has the message of the lender's loan. Nothing else changed, and the tables
-- were in order.
pub record IsTakenFor
    (c : ControlState) (l : Lending) (elements slot : ℕ) (new : ControlState) : Type 0 where
  pub order : IsControl c
  pub port : IsPortOf c.tables l
  pub taken : IsTaken c.tables (lender_of port.port l) elements slot new.tables.pools
  pub left : new ≡ with_pools c new.tables.pools

-- All that was given back to the lender is got back, and then a slot is taken for its loan.
pub record IsTakenAnew
    (c : ControlState) (l : Lending) (elements slot : ℕ) (new : ControlState) : Type 0 where
  pub between : ControlState
  pub back :
      (p : PortState) → port_in c.tables.ports l.port.number ≡ Some p → IsGotBack c p between
  pub taken : IsTakenFor between l elements slot new
