use Rattle.std.specs.Prelude.{⊤}
use Rattle.iox_model.specs.declared.command.Command.TheVariants.{Cleanup}
use Rattle.iox_nodes.proofs.Leading.{cleanup_done, cleanup_refused, done_service, same_defaults}
use Rattle.iox_nodes.proofs.service.Service.cleanup.Goals as goal

pub returns-in-Err-clause-done : goal.returns-in-Err-clause-done
returns-in-Err-clause-done g c =
    rw (← c.self.view_is)
    (cleanup_refused ⊤ c.self.inside.members.members c.self.inside.hub c.args.node c.in-Err.refusal c.in-Err.ensures)

pub invariant_of-self : goal.invariant_of-self
invariant_of-self g c =
    done_service c.self.inside.members c.remove.new.self c.self.inside.hub c.release_all.new.self (Cleanup c.args.node) c.dead.result c.self.invariant
    (rw c.in_default.is
    (cleanup_done c.self.inside.members.members c.remove.new.self.members c.self.inside.hub c.release_all.new.self c.args.node c.in_default.field-0
    c.in_default.ensures c.release_all.ensures.released c.remove.ensures.left))
    c.remove.ensures.register (same_defaults c.self.inside.hub c.release_all.new.self c.release_all.ensures.request c.release_all.ensures.response c.self.invariant.service.defaults)

pub returns-clause-done : goal.returns-clause-done
returns-clause-done g c =
    rw (← c.self.view_is)
    (cleanup_done c.self.inside.members.members c.remove.new.self.members c.self.inside.hub c.release_all.new.self c.args.node c.in_default.field-0
    c.in_default.ensures c.release_all.ensures.released c.remove.ensures.left)
