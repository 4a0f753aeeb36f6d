use Rattle.std.proofs.Common.{◌≡◌, ◌∙◌, ◌∷◌, ℕ, List, true, sym, subst, ap, arith, inl, rules, of_calls}
use Rattle.std.proofs.lemmas.Grind.{common_steps}
use Rattle.std.specs.Fn.{CalledAt}
use Rattle.iox_names.specs.Texts.{text_eq}
use Rattle.iox_attributes.specs.Sets.{values_of}
use Rattle.iox_attributes.specs.Visits.{VisitsInOrder}
use Rattle.iox_words.specs.declared.callback_progression.CallbackProgression.TheVariants.{Stop}
use Rattle.iox_attributes.proofs.ValueLemmas.{values-here}
use Rattle.iox_attributes.proofs.attribute_set.AttributeSet.iter_key_values.Goals as goal

pub returns-then-eq-2 : goal.returns-then-eq-2
returns-then-eq-2 g c =
    let split : c.loop-first.rest.now ≡ c.in-Some.first.now ∷ c.in-Some.later.now =
    search rules in
    let has : text_eq c.in-Some.first.now.key c.args.key.now ≡ true = first_of (search rules, grind (arith, common_steps)) in
    let stop : c.callback.result ≡ Stop = first_of (search rules, grind (arith, common_steps)) in
    let values : values_of c.args.key.now c.loop-first.rest.now
    ≡ c.in-Some.first.now.value ∷ values_of c.args.key.now c.in-Some.later.now =
    ap (values_of c.args.key.now) split ∙ values-here c.args.key.now c.in-Some.first.now c.in-Some.later.now has in
    let call : CalledAt g.F.FnMut c.loop-first.callback c.in-Some.first.now.value Stop c.callback.new.self =
    search (rules, of_calls) in
    c.loop-first.invariant.visits
    (subst (λ (items : List (List ℕ)). VisitsInOrder (CalledAt g.F.FnMut) c.loop-first.callback items) (sym values)
    (c.callback.new.self, inl call))
