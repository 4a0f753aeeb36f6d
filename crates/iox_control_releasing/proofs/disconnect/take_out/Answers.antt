use Rattle.std.proofs.Common.{sym, ◌∙◌}
use Rattle.iox_control_releasing.proofs.Removed.{none_out}
use Rattle.iox_control_releasing.proofs.disconnect.take_out.Goals as goal

pub returns-in-None-clause-left : goal.returns-in-None-clause-left
returns-in-None-clause-left c =
    none_out c.args.control.now c.remove_port.new.self c.args.port (c.remove_port.ensures.unchanged c.in-None.is) (sym c.remove_port.ensures.port ∙ c.in-None.is)
