use Rattle.iox_registry.proofs.CountLemmas.{none_listed}
use Rattle.iox_registry.proofs.LawLemmas.{ended-from-new, stays-locked}
use Rattle.iox_registry.proofs.laws.a_locked_register_is_empty_and_stays_so.Goals as goal

pub returns-clause-empty : goal.returns-clause-empty
returns-clause-empty g c service role limit later last leads locked =
    none_listed _ (ended-from-new g.D.HasNode.node service role limit later last leads locked).0

pub returns-clause-nodes : goal.returns-clause-nodes
returns-clause-nodes g c service role limit later last leads locked =
    (ended-from-new g.D.HasNode.node service role limit later last leads locked).1

pub returns-clause-stays : goal.returns-clause-stays
returns-clause-stays g c old next locked none change = stays-locked g.D.HasNode.node old next locked none change
