use Rattle.std.proofs.Common.{subst, sym}
use Rattle.iox_control.specs.Controls.{IsControl}
use Rattle.iox_control_ending.proofs.Ended.{count_keeps}
use Rattle.iox_control_ending.proofs.count.Goals as goal

pub returns-clause-order : goal.returns-clause-order
returns-clause-order c = subst IsControl (sym c.count_call.ensures) (count_keeps c.args.control.now c.requires.order c.requires.calls)
