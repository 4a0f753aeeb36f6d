use Rattle.std.specs.Prelude.{length}
use Rattle.std.proofs.Common.{ap}
use Rattle.iox_model.specs.declared.command.Command.TheVariants.{DeclareDead}
use Rattle.iox_nodes.specs.Shown.{tables_of}
use Rattle.iox_nodes.proofs.Lacking.{if_err}
use Rattle.iox_nodes.proofs.Leading.{death_so, done_service}
use Rattle.iox_nodes.proofs.service.Service.declare_dead.Goals as goal

pub invariant_of-self : goal.invariant_of-self
invariant_of-self g c =
    done_service c.self.inside.members c.declare_dead.new.self c.self.inside.hub c.self.inside.hub (DeclareDead c.args.node) c.declare_dead.result
    c.self.invariant
    (death_so c.self.inside.members.members c.declare_dead.new.self.members c.self.inside.hub c.args.node c.declare_dead.result c.declare_dead.ensures.declared)
    (ap (λ r. r.service) c.declare_dead.ensures.registry, ap (λ r. length r.slots) c.declare_dead.ensures.registry) c.self.invariant.service.defaults

pub returns-clause-done : goal.returns-clause-done
returns-clause-done g c =
    rw (← c.self.view_is)
    (death_so c.self.inside.members.members c.declare_dead.new.self.members c.self.inside.hub c.args.node c.declare_dead.result c.declare_dead.ensures.declared)

pub returns-clause-unchanged : goal.returns-clause-unchanged
returns-clause-unchanged g c =
    rw (← c.self.view_is) (if_err c.declare_dead.result (ap (λ m. tables_of m c.self.inside.hub)) c.declare_dead.ensures.unchanged)
