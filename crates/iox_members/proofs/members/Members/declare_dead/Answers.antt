use Rattle.iox_types.specs.declared.identifiers.system_id.UniqueSystemId.{UniqueSystemId}
use Rattle.iox_members.proofs.Stepping.{death_refused}
use Rattle.iox_members.proofs.members.Members.declare_dead.Goals as goal

pub returns-in-Err-clause-declared : goal.returns-in-Err-clause-declared
returns-in-Err-clause-declared g c = death_refused UniqueSystemId c.args.self.now.members c.args.node c.in-Err.refusal c.in-Err.ensures.refused
