use Rattle.std.proofs.Common.{ℕ, ◌<◌, ◌∙◌, ap, subst, sym, length}
use Rattle.iox_store.specs.Stored.{StoredMessage}
use Rattle.iox_store.proofs.WidthLemmas.{words-at}
use Rattle.iox_store.proofs.cell.Cell.element.Goals as goal

pub returns : goal.returns
returns g c =
    let within : c.args.index < length c.self.inside.payload.items =
    subst (λ (n : ℕ). c.args.index < n) (ap (λ (x : StoredMessage). x.filled) (sym c.self.view_is)) c.requires in
    rw (← c.self.view_is)
    (ap g.E.Words.words c.index.ensures
    ∙ sym (words-at g.E.Words.WORDS g.E.Words.words c.self.inside.payload.items c.args.index c.index.result.now c.self.invariant.payload within))
