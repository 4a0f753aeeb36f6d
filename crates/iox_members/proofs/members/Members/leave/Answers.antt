use Rattle.iox_types.specs.declared.identifiers.system_id.UniqueSystemId.{UniqueSystemId}
use Rattle.iox_members.proofs.Stepping.{leave_done, leave_refused}
use Rattle.iox_members.proofs.members.Members.leave.Goals as goal

pub returns-in-Err-clause-left : goal.returns-in-Err-clause-left
returns-in-Err-clause-left g c = leave_refused UniqueSystemId c.args.self.now.members c.args.node c.args.has_values c.in-Err.refusal c.in-Err.ensures.refused

pub returns-clause-left : goal.returns-clause-left
returns-clause-left g c =
    rw c.if-has_values.false
    (leave_done c.args.self.now.members c.args.node c.in_default.field-0 c.remove.new.self.members c.in_default.ensures.refused c.remove.ensures.left)
