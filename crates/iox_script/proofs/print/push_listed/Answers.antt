use Rattle.std.proofs.Common.{◌≡◌, ℕ, ◌++◌, List, length, take, flat_map, refl, sym, ap, ◌∙◌, arith, length-append}
use Rattle.std.proofs.lemmas.List.{take-take, take_at}
use Rattle.iox_script.specs.Texts.{spaced}
use Rattle.iox_script.proofs.print.push_listed.Goals as goal

begun-more : (old more mid new : List ℕ) → mid ≡ old ++ more → take (length mid) new ≡ mid → take (length old) new ≡ old
begun-more old more mid new grown begun =
    sym (take-take (length old) (length mid) new (omega (arith, ap length grown, length-append old more))) ∙ ap (take (length old)) (begun ∙ grown) ∙ take_at old more (length old) refl

pub returns-in_err-push_spaced-clause-begun : goal.returns-in_err-push_spaced-clause-begun
returns-in_err-push_spaced-clause-begun c =
    begun-more c.args.out.now.items (c.args.name.now ++ flat_map spaced (take c.loop-number.number-index c.args.numbers.now)) _ _ c.loop-number.invariant c.in_err-push_spaced.ensures.begun
