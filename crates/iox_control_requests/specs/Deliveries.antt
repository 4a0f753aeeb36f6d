-- What the delivery of a request to all servers leaves.
use Rattle.std.specs.Prelude.{◌≡◌, ℕ, ◌-◌, ◌<◌, ◌≤◌, ◌^◌, Bool, false, if◌then◌else◌, List, [], None}
use Rattle.iox_model.specs.declared.way.Way.{Way}
use Rattle.iox_model.specs.declared.way.RequestState.TheVariants.{Named}
use Rattle.iox_model.specs.Maps.{not_in}
use Rattle.iox_model.specs.Messages.{request_way, response_way}
use Rattle.iox_lanes.specs.declared.wanted.Label.{Label}
use Rattle.iox_lanes.specs.Lanes.{LaneState}
use Rattle.iox_tables.specs.HubStates.Steps.{full_in}
use Rattle.iox_tables.specs.HubStates.Tables.{HandleState, PortState}
use Rattle.iox_tables.specs.HubStates.Ways.{lane_on, with_lane_on, with_state_on}
use Rattle.iox_hub_ports.specs.Ports.{on_way, on_way_at, pushed, pushed_out, with_lane_at}
use Rattle.iox_tables.specs.HubBooks.Keeps.{delivers}
use Rattle.iox_slots.specs.Pools.{with_slot}
use Rattle.iox_slots.specs.Slots.{held}
use Rattle.iox_hub_delivering.specs.Deliveries.{pushed_out_by}
use Rattle.iox_hub_delivering.specs.Steps.{with_out}
use Rattle.iox_control.specs.Controls.{ControlState, with_tables}

-- with overflow each way gets the message, without it each that is not full
abbrev pub ways_that_get : Bool → List PortState → List Way → List Way
ways_that_get overflow ports ws =
    if overflow then ws else not_in (full_in (lane_on ports) ws []) ws

-- The lane can take one message more of that pool, once its oldest is out where it is full: at least
-- one may wait, its sender got all back, and its deliveries can still be counted.
pub record CanTake (pool : ℕ) (l : LaneState) : Type 0 where
  pub of_pool : l.pool ≡ pool
  pub buffer : 1 ≤ l.buffer
  pub returned : l.returned ≡ []
  pub deliveries : l.deliveries < 2 ^ 64 - 1

-- The handle's message is delivered to the port in that place: one more has it, and one less has
-- what is pushed out.
abbrev pub with_given : ControlState → ℕ → HandleState → Bool → ControlState
with_given c place h overflow =
    with_tables c (record (c.tables) {
      ports = with_lane_at (delivers overflow h.slot) c.tables.ports place h.port 0;
      pools =
          with_out (with_slot held c.tables.pools h.pool h.slot) h.pool
          (on_way_at (pushed_out_by overflow h.slot) None c.tables.ports place h.port 0);
    })

-- The handle's request, of that label, is opened with the server and put last in line for it, where
-- the oldest is pushed out of a full lane: one more has it, and one less has what is pushed out.
abbrev pub with_pushed : ControlState → ℕ → HandleState → Label → ControlState
with_pushed c server h label =
    with_tables c (record (c.tables) {
      ports =
          with_lane_on (λ l. pushed l h.slot)
          (with_state_on (λ r. Named label.request false) c.tables.ports
          (response_way h.port label.lane server))
          (request_way h.port server);
      pools =
          with_out (with_slot held c.tables.pools h.pool h.slot) h.pool
          (on_way pushed_out None c.tables.ports (request_way h.port server));
    })
