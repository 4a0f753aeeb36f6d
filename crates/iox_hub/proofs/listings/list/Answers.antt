use Rattle.std.proofs.Common.{◌≡◌, ◌++◌, ◌∷◌, [], ap, sym, ◌∙◌, arith, rules}
use Rattle.iox_hub.proofs.ListingLemmas.{none_listed, one_listed}
use Rattle.iox_hub.proofs.listings.list.Goals as goal
use Rattle.iox_hub.proofs.listings.list.Goals.{in-Some+in_ok-push, in_default}

pub loop-at-preserved : goal.loop-at-preserved
loop-at-preserved c = record {
  numbers = elim c.match-number_at.branch [
    | in-Some+in_ok-push w ↦
        let pushed : w.push.new.self.items ≡ c.loop-at.numbers.items ++ w.in-Some.number ∷ [] = search rules in
        ap (λ v. v.items) w.numbers-is ∙ pushed ∙ ap (λ ns. ns ++ w.in-Some.number ∷ []) c.loop-at.invariant.numbers
        ∙ sym (one_listed c.args.role c.args.ports.now.ports c.loop-at.at (omega (arith, c.loop-at-test.true, c.loop-at.invariant.size))
        w.in-Some.number (sym c.number_at.ensures ∙ w.in-Some.is))
    | in_default w ↦
        ap (λ v. v.items) w.numbers-is ∙ c.loop-at.invariant.numbers
        ∙ sym (none_listed c.args.role c.args.ports.now.ports c.loop-at.at (omega (arith, c.loop-at-test.true, c.loop-at.invariant.size))
        (sym c.number_at.ensures ∙ w.in_default.is))
  ];
  size = c.loop-at.invariant.size;
}
