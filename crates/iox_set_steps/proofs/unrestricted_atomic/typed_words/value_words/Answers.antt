use Rattle.std.proofs.Common.{sym, ◌∙◌, arith}
use Rattle.std.proofs.lemmas.List.{get_or_default, same_lists}
use Rattle.iox_set_steps.proofs.unrestricted_atomic.typed_words.value_words.Goals as goal

pub returns-clause-words : goal.returns-clause-words
returns-clause-words g c =
    let laws = g.met.T.Words.laws in
    let counted = laws.counted (g.T.Words.words c.args.value) (laws.meets c.args.value c.known.ensures) in
    let size = c.loop-index.invariant.size in
    same_lists _ _ (size ∙ sym c.requires ∙ sym counted) (λ k default below.
    get_or_default c.loop-index.words k default 0 below ∙ c.loop-index.invariant.done k (omega arith)
    ∙ sym (get_or_default (g.T.Words.words c.args.value) k default 0 (omega (arith, counted, c.requires, size))))
