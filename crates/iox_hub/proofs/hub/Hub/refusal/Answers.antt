use Rattle.iox_hub.proofs.AskingLemmas.{begins}
use Rattle.iox_hub.proofs.SendingHubs.{given_of}
use Rattle.iox_hub.proofs.hub.Hub.refusal.Goals as goal

pub returns-clause-whole : goal.returns-clause-whole
returns-clause-whole g c =
    rw (← c.self.view_is)
    (λ x call number asks r is. c.refusal.ensures.whole (given_of c.self.invariant x) call number asks r is)

pub returns-clause-has : goal.returns-clause-has
returns-clause-has g c =
    rw (← c.self.view_is)
    (begins c.self.inside.control.tables c.args.node c.args.number c.args.asked c.refusal.result c.refusal.ensures.told)
