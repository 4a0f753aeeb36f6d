use Rattle.iox_model.specs.declared.command.Command.TheVariants.{Leave}
use Rattle.std.proofs.Common.{ap}
use Rattle.iox_nodes.specs.Shown.{tables_of}
use Rattle.iox_nodes.proofs.Lacking.{if_err}
use Rattle.iox_nodes.proofs.Leading.{done_service, leave_so}
use Rattle.iox_nodes.proofs.service.Service.leave.Goals as goal

pub invariant_of-self : goal.invariant_of-self
invariant_of-self g c =
    done_service c.self.inside.members c.leave.new.self c.self.inside.hub c.self.inside.hub (Leave c.args.node) c.leave.result c.self.invariant
    (leave_so c.self.inside.members.members c.leave.new.self.members c.self.inside.hub c.args.node c.has_values-has_values.result c.leave.result c.leave.ensures.left
    c.has_values-has_values.ensures)
    c.leave.ensures.register c.self.invariant.service.defaults

pub returns-clause-done : goal.returns-clause-done
returns-clause-done g c =
    rw (← c.self.view_is)
    (leave_so c.self.inside.members.members c.leave.new.self.members c.self.inside.hub c.args.node c.has_values-has_values.result c.leave.result c.leave.ensures.left
    c.has_values-has_values.ensures)

pub returns-clause-unchanged : goal.returns-clause-unchanged
returns-clause-unchanged g c =
    rw (← c.self.view_is) (if_err c.leave.result (ap (λ m. tables_of m c.self.inside.hub)) c.leave.ensures.unchanged)
