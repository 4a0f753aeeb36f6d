use Rattle.std.proofs.Common.{◌≡◌, ◌+◌, ◌++◌, ◌∷◌, [], ◌∙◌, ap, sym, subst, rules, of_calls, length, length-append, zero-add, ℕ}
use Rattle.iox_store.proofs.FillLemmas.{Answers-more, written-more}
use Rattle.iox_store.proofs.cell.Cell.write_from_fn.Goals as goal

pub loop-index-preserved : goal.loop-index-preserved
loop-index-preserved g c =
    let before = c.loop-index.invariant in
    let at_end : 0 + length before.values ≡ c.loop-index.index = zero-add (length before.values) ∙ before.count in
    record {
      callable = search (rules, of_calls);
      values = before.values ++ c.f-value.result ∷ [];
      answered = Answers-more (goal.F-step g) c.args.f 0 before.values c.loop-index.f c.f-value.result c.f-value.new.self before.answered
          (subst (λ (n : ℕ). goal.F-step g c.loop-index.f n c.f-value.result c.f-value.new.self) (sym at_end) c.f-value.ensures);
      count = length-append before.values (c.f-value.result ∷ []) ∙ ap (λ n. n + 1) before.count;
      left = c.write_next.ensures ∙ written-more g.E.Words.words c.loop-index.self c.args.self.now before.values c.f-value.result c.loop-index.index before.left;
    }
