use Rattle.std.proofs.Common.{ℕ, List, [], ◌<◌, ap, ap₂, subst, sym, length}
use Rattle.std.proofs.lemmas.List.{length-set}
use Rattle.iox_store.specs.Stored.{StoredMessage}
use Rattle.iox_store.proofs.WidthLemmas.{words-set}
use Rattle.iox_store.proofs.cell.Cell.set_element.Goals as goal

-- the cell with so many filled elements, and these words
with_words : StoredMessage → ℕ → List ℕ → StoredMessage
with_words x filled payload = record x { filled = filled; payload = payload }

pub returns : goal.returns
unfolding with_words
returns g c =
    let within : c.args.index < length c.self.inside.payload.items =
    subst (λ (n : ℕ). c.args.index < n) (ap (λ (x : StoredMessage). x.filled) (sym c.self.view_is)) c.requires in
    rw (← c.self.view_is)
    (ap₂
    (with_words (record { room = c.self.inside.room; elements = c.self.inside.elements; filled = 0; user = g.H.Words.words c.self.inside.user; payload = [] }))
    (length-set c.self.inside.payload.items c.args.index c.args.value)
    (words-set g.E.Words.WORDS g.E.Words.words c.self.inside.payload.items c.args.index c.args.value c.self.invariant.payload within))
