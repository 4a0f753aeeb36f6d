use Rattle.iox_control.specs.Controls.{IsControl}
use Rattle.iox_rows_ports.proofs.control.goes.Given as goal

abbrev pub invariant-loop-deed : goal.invariant-loop-deed
invariant-loop-deed g l = IsControl l.control
