-- What the end of a loan leaves of the tables of a hub, where its message goes to nobody.
use Rattle.std.specs.Prelude.{◌≡◌, ℕ, ◌+◌, true}
use Rattle.iox_tables.specs.HubStates.Tables.{HandleState, HubTables}
use Rattle.iox_tables.specs.HubStates.Ends.{with_dropped}
use Rattle.iox_tables.specs.HubStates.Wirings.{IsHandle}
use Rattle.iox_tables.specs.HubBooks.Handles.{is_loan}
use Rattle.iox_slots.specs.Pools.{with_slot}
use Rattle.iox_slots.specs.Slots.{let_go}
use Rattle.iox_control.specs.Controls.{ControlState}

-- The number names a loan of the node.
pub record IsLoan (t : HubTables) (node n : ℕ) : Type 0 where
  pub handle : HandleState
  pub named : IsHandle t node n handle
  pub loan : is_loan handle.kind ≡ true

-- the tables once the loan ended: its handle is gone, and its slot has one holder less
abbrev pub with_loan_ended : HubTables → ℕ → ℕ → HandleState → HubTables
with_loan_ended t node n h =
    record (with_dropped t node n) { pools = with_slot let_go t.pools h.pool h.slot }

-- the same, and there is room for another handle
abbrev pub with_ended : ControlState → ℕ → ℕ → HandleState → ControlState
with_ended c node n h =
    record c { tables = with_loan_ended c.tables node n h; room = c.room + 1 }
