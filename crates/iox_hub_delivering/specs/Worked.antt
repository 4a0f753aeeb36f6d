-- Worked pools: one message waits where one may, and the next pushes it out.
use Rattle.std.specs.Prelude.{ℕ, true, false, List, [], ◌∷◌, Option, Some}
use Rattle.iox_model.specs.declared.way.Way.{Way}
use Rattle.iox_model.specs.Messages.{request_way}
use Rattle.iox_lanes.specs.Lanes.{LaneState}
use Rattle.iox_tables.specs.HubStates.Tables.{PoolState}
use Rattle.iox_tables.specs.HubStates.Ways.{OnWays, lane_on}
use Rattle.iox_tables.specs.HubStates.States.{no_id}
use Rattle.iox_tables.specs.HubStates.Worked.{one_request}
use Rattle.iox_hub_delivering.specs.Deliveries.{HasDelivered}

-- the pool of client 0: so many have its first message, and so many its second
abbrev pub pool_of_two : ℕ → ℕ → List (Option PoolState)
pool_of_two first second =
    Some
    (record {
      port = 0;
      node_id = no_id;
      port_id = no_id;
      slots =
          record { serial = 0; lane = 0; request = 7; elements = 1; holders = first }
          ∷ record { serial = 1; lane = 0; request = 8; elements = 1; holders = second } ∷ [];
    })
    ∷ []

-- The client has both messages, and the first waits at server 1, where one may wait. As the second
-- is delivered with overflow, one more has it, and one less the first. Without overflow nobody less
-- has the first; with overflow it may not be so.
abbrev pub TheSecondPushesOutTheFirst : Type 0
TheSecondPushesOutTheFirst =
    (let lanes : OnWays LaneState = lane_on one_request.ports in
    let ways : List Way = request_way 0 1 ∷ [] in
    HasDelivered true 1 lanes ways (pool_of_two 2 1) (pool_of_two 1 2)
    × HasDelivered false 1 lanes ways (pool_of_two 2 1) (pool_of_two 2 2)
    × (HasDelivered true 1 lanes ways (pool_of_two 2 1) (pool_of_two 2 2) → ⊥))
