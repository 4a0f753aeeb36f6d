use Rattle.iox_store.proofs.WidthLemmas.{length-words}
use Rattle.iox_store.proofs.cell.Cell.payload.Goals as goal

pub returns-clause-width : goal.returns-clause-width
returns-clause-width g c =
    rw (← c.self.view_is)
    (length-words g.E.Words.WORDS g.E.Words.words c.self.inside.payload.items c.self.invariant.payload)
