use Rattle.std.proofs.Common.{sym, ap, ◌∙◌, subst}
use Rattle.iox_tables.specs.HubStates.States.{state_shown}
use Rattle.iox_tables.specs.HubMaking.Disconnections.{with_released}
use Rattle.iox_control.specs.Controls.{ControlState, IsControl}
use Rattle.iox_control_releasing.specs.Goings.{NoLeftPool}
use Rattle.iox_control_releasing.proofs.Tidy.{value_goes}
use Rattle.iox_control_releasing.proofs.Valued.{port_released, value_gone}
use Rattle.iox_control_releasing.proofs.port_value.release_port.Goals as goal

pub disconnect_if_unused-requires : goal.disconnect_if_unused-requires
disconnect_if_unused-requires c =
    record { order = subst IsControl (sym c.release_value.ensures) (value_gone c.args.control.now c.args.port c.requires.order) }

pub returns-clause-whole : goal.returns-clause-whole
returns-clause-whole c x =
    port_released x c.args.control.now c.args.node c.args.port c.disconnect_if_unused.new.control.tables c.requires.order c.requires.port
    (ap (λ (d : ControlState). state_shown x (with_released d.tables c.args.port)) (sym c.release_value.ensures) ∙ c.disconnect_if_unused.ensures.shown x)

pub returns-clause-tidy : goal.returns-clause-tidy
returns-clause-tidy c place none =
    c.disconnect_if_unused.ensures.tidy place
    (subst (λ (d : ControlState). NoLeftPool d.tables place) (sym c.release_value.ensures) (value_goes c.args.control.now.tables c.args.port place none))
