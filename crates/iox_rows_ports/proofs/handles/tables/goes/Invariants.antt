use Rattle.std.specs.Prelude.{◌≤◌}
use Rattle.iox_rows_ports.proofs.handles.tables.goes.Given as goal

abbrev pub invariant-loop-deed : goal.invariant-loop-deed
invariant-loop-deed g l = l.table.next ≤ l.next
