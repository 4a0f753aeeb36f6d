-- Worked tables: a server lends a response; its client, whose only message is out, may lend nothing.
use Rattle.std.specs.Prelude.{◌≡◌, true}
use Rattle.iox_model.specs.declared.kind.Role.TheVariants.{Client, Server}
use Rattle.iox_lanes.specs.Pipes.{new_pipe}
use Rattle.iox_tables.specs.HubStates.Tables.{HubTables, PortState, slot_at}
use Rattle.iox_tables.specs.HubStates.Worked.{port_with, requests}
use Rattle.iox_tables.specs.HubBooks.Hubs.{AreInOrder}
use Rattle.iox_tables.specs.HubBooks.Worked.{with_holders}
use Rattle.iox_tables.specs.HubLoans.Lenders.{Lender, lender_of_request}
use Rattle.iox_tables.specs.HubLoans.Loans.{with_loaned}
use Rattle.iox_tables.specs.HubLoans.Pools.{is_slot_kept}
use Rattle.iox_tables.specs.HubLending.Keeping.{HaveMessages}
use Rattle.iox_tables.specs.HubLending.Lending.{MayLend}

-- client 0, whose request waits at server 1
abbrev pub the_client : PortState
the_client = port_with 0 Client (new_pipe 1 1 1 1 1 0)

-- server 1 lends a response to the request with the id 7
abbrev pub responder : Lender
responder = record { port = port_with 1 Server requests; client = 0; lane = 0; request = 7 }

-- the tables with that loan, in slot 0
abbrev pub with_response : HubTables
with_response = with_loaned (with_holders 2) responder true 1 0

-- The server may lend the slot, and the tables with its loan are in order. The slot then has one
-- holder.
abbrev pub ServerMayLend : Type 0
ServerMayLend =
    HaveMessages (with_holders 2) × MayLend (with_holders 2) responder 0
    × AreInOrder with_response × ((slot_at with_response.pools 1 0).holders ≡ 1)

-- The client keeps its only slot, so it may not lend it.
abbrev pub ClientMayNotLend : Type 0
ClientMayNotLend =
    (is_slot_kept (with_holders 2) the_client 0 ≡ true)
    × (MayLend (with_holders 2) (lender_of_request the_client 0) 0 → ⊥)
