use Rattle.std.proofs.Common.{◌≡◌, ◌≤◌, ◌<◌, ◌-◌, ℕ, length}
use Rattle.iox_tables.specs.HubStates.Tables.{slot_at, slots_of}
use Rattle.iox_tables.specs.HubLending.Emptying.{returned_on}
use Rattle.iox_tables.specs.HubLoans.Lenders.{ways_by}
use Rattle.iox_control_lending.proofs.foretelling.has_free_then.Given as goal

-- somebody will have each of the first slots
abbrev pub invariant-loop-slot : goal.invariant-loop-slot
invariant-loop-slot l = record {
  none : (k : ℕ) → k < l.slot → 1 ≤ (slot_at l.control.tables.pools l.port.pool k).holders - returned_on l.control.tables (ways_by l.port.role l.control.tables l.port.number) l.port.pool k;
  size : l.slot-end ≡ length (slots_of l.control.tables.pools l.port.pool);
}
