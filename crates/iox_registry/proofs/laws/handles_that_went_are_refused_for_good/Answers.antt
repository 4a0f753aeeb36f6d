use Rattle.std.proofs.Common.{is_some, ap}
use Rattle.iox_registry.proofs.LawLemmas.{given-later, gone-for-good, own-given}
use Rattle.iox_registry.proofs.RegisterLemmas.{spent}
use Rattle.iox_registry.proofs.laws.handles_that_went_are_refused_for_good.Goals as goal

pub returns-clause-gone : goal.returns-clause-gone
returns-clause-gone g c old later last handle leads given gone =
    gone-for-good g.D.HasNode.node old later last handle leads given gone

pub returns-clause-refused : goal.returns-clause-refused
returns-clause-refused g c old later last handle leads given gone =
    spent last handle (own-given last handle (given-later g.D.HasNode.node old later last handle leads given))
    (ap is_some (gone-for-good g.D.HasNode.node old later last handle leads given gone))
