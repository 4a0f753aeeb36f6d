use Rattle.std.proofs.Common.{◌≡◌, ◌∙◌, ◌∷◌, List, Some, true, sym, subst, ap, arith, inl, inr, rules, of_calls}
use Rattle.std.proofs.lemmas.Grind.{common_steps}
use Rattle.std.specs.Fn.{CalledAt}
use Rattle.std.proofs.lemmas.Fn.{called_at}
use Rattle.iox_words.specs.declared.callback_progression.CallbackProgression.TheVariants.{Stop, Continue}
use Rattle.iox_registry.specs.Registers.{details_in}
use Rattle.iox_registry.specs.Standing.{shown_slots}
use Rattle.iox_attributes.specs.Visits.{VisitsInOrder}
use Rattle.iox_registry.proofs.register.Register.list.Goals as goal

pub returns-then-eq : goal.returns-then-eq
returns-then-eq g c =
    let split : c.loop-first.rest.now ≡ c.in-Some.first.now ∷ c.in-Some.later.now = search rules in
    let has : c.in-Some.first.now ≡ Some c.in-Some-first.kept = search rules in
    let stop : c.callback.result ≡ Stop = first_of (search rules, grind (arith, common_steps)) in
    let call : CalledAt g.F.FnMut c.loop-first.callback c.in-Some-first.kept.details Stop c.callback.new.self =
    called_at g.F.FnMut c.callback.ensures stop in
    c.loop-first.invariant.visits (rw (split, has) (c.callback.new.self, inl call))

pub loop-first-preserved : goal.loop-first-preserved
loop-first-preserved g c =
    let split : c.loop-first.rest.now ≡ c.in-Some.first.now ∷ c.in-Some.later.now = search rules in
    let has : c.in-Some.first.now ≡ Some c.in-Some-first.kept = search rules in
    let more : c.callback.result ≡ Continue = first_of (search rules, grind (arith, common_steps)) in
    let call : CalledAt g.F.FnMut c.loop-first.callback c.in-Some-first.kept.details Continue c.callback.new.self =
    called_at g.F.FnMut c.callback.ensures more in
    record {
      callable = search (rules, of_calls);
      visits = λ rest. c.loop-first.invariant.visits (rw (split, has) (c.callback.new.self, inr (call, rest)));
    }
