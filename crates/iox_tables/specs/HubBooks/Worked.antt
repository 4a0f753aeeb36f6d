-- Worked tables: they are in order, and not so with one holder more.
use Rattle.std.specs.Prelude.{ℕ, [], ◌∷◌, Some}
use Rattle.iox_model.specs.declared.kind.Kind.TheVariants.{PendingResponse}
use Rattle.iox_tables.specs.HubStates.Tables.{HandleState, HubTables, PoolState}
use Rattle.iox_tables.specs.HubStates.States.{no_id}
use Rattle.iox_tables.specs.HubStates.Worked.{one_request}
use Rattle.iox_tables.specs.HubBooks.Hubs.{AreInOrder}

-- the pending response of client 0, to the request in its only slot
abbrev pub the_pending : HandleState
the_pending = record {
  node = 0;
  number = 2;
  kind = PendingResponse;
  port = 0;
  pool = 0;
  slot = 0;
  client = 0;
  connections = 1;
}

-- a pool of the port, with one message that so many have
abbrev pub pool_with : ℕ → ℕ → PoolState
pool_with port holders = record {
  port = port;
  node_id = no_id;
  port_id = no_id;
  slots = record { serial = 0; lane = 0; request = 7; elements = 1; holders = holders } ∷ [];
}

-- Client 0 sent a request with the id 7 to server 1, where it waits. So many have the request.
abbrev pub with_holders : ℕ → HubTables
with_holders n = record one_request {
  handles = the_pending ∷ [];
  pools = Some (pool_with 0 n) ∷ Some (pool_with 1 0) ∷ [];
}

-- The lane and the pending response have it. With one holder more nothing would agree.
abbrev pub TwoHaveTheRequest : Type 0
TwoHaveTheRequest = AreInOrder (with_holders 2) × (AreInOrder (with_holders 3) → ⊥)
