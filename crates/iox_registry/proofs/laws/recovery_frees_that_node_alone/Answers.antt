use Rattle.std.proofs.Common.{None, Some, cond, ap, ◌∙◌}
use Rattle.iox_registry.proofs.IdLemmas.{same_id-not, same_id-of}
use Rattle.iox_registry.proofs.LawLemmas.{recovered-of}
use Rattle.iox_registry.proofs.laws.recovery_frees_that_node_alone.Goals as goal

pub returns-clause-frees : goal.returns-clause-frees
returns-clause-frees g c old id handle details told is =
    recovered-of g.D.HasNode.node id old handle details told ∙ ap (λ b. cond b None (Some details)) (same_id-of _ _ is)

pub returns-clause-keeps : goal.returns-clause-keeps
returns-clause-keeps g c old id handle details told is =
    recovered-of g.D.HasNode.node id old handle details told ∙ ap (λ b. cond b None (Some details)) (same_id-not _ _ is)
