use Rattle.std.proofs.Common.{◌≡◌, ◌∙◌, sym, subst, arith, inl, inr, rules, of_calls}
use Rattle.std.proofs.lemmas.Grind.{common_steps}
use Rattle.std.proofs.lemmas.Fn.{called_at}
use Rattle.std.specs.Fn.{CalledAt}
use Rattle.iox_words.specs.declared.callback_progression.CallbackProgression.TheVariants.{Continue, Stop}
use Rattle.iox_attributes.specs.Visits.{VisitsInOrder}
use Rattle.iox_hub.proofs.VisitLemmas.{none_visited, one_visited}
use Rattle.iox_hub.proofs.listings.list_ids.Goals as goal

pub loop-at-preserved-in_default : goal.loop-at-preserved-in_default
loop-at-preserved-in_default g c = record {
  callable = c.loop-at.invariant.callable;
  visits = λ rest.
      c.loop-at.invariant.visits
      (subst (VisitsInOrder (CalledAt g.F.FnMut) c.loop-at.callback)
      (sym (none_visited c.args.role c.args.ports.now.ports c.loop-at.at (omega (arith, c.loop-at-test.true, c.loop-at.invariant.size))
      (sym c.id_at.ensures ∙ c.in_default.is)))
      rest);
  size = c.loop-at.invariant.size;
}

pub returns-then-eq : goal.returns-then-eq
returns-then-eq g c =
    let stop : c.callback.result ≡ Stop = first_of (search rules, grind (arith, common_steps)) in
    let call : CalledAt g.F.FnMut c.loop-at.callback c.new.result Stop c.callback.new.self = called_at g.F.FnMut c.callback.ensures stop in
    c.loop-at.invariant.visits
    (subst (VisitsInOrder (CalledAt g.F.FnMut) c.loop-at.callback)
    (sym (one_visited c.args.role c.args.ports.now.ports c.loop-at.at c.in-Some.id
    (omega (arith, c.loop-at-test.true, c.loop-at.invariant.size)) (sym c.id_at.ensures ∙ c.in-Some.is)))
    (c.callback.new.self, inl (subst (λ id. CalledAt g.F.FnMut c.loop-at.callback id Stop c.callback.new.self) c.new.ensures call)))

pub loop-at-preserved : goal.loop-at-preserved
loop-at-preserved g c =
    let more : c.callback.result ≡ Continue = first_of (search rules, grind (arith, common_steps)) in
    let call : CalledAt g.F.FnMut c.loop-at.callback c.new.result Continue c.callback.new.self = called_at g.F.FnMut c.callback.ensures more in
    record {
      callable = search (rules, of_calls);
      visits = λ rest.
          c.loop-at.invariant.visits
          (subst (VisitsInOrder (CalledAt g.F.FnMut) c.loop-at.callback)
          (sym (one_visited c.args.role c.args.ports.now.ports c.loop-at.at c.in-Some.id
          (omega (arith, c.loop-at-test.true, c.loop-at.invariant.size)) (sym c.id_at.ensures ∙ c.in-Some.is))) (
            c.callback.new.self,
            inr (subst (λ id. CalledAt g.F.FnMut c.loop-at.callback id Continue c.callback.new.self) c.new.ensures call, rest),
          ));
      size = c.loop-at.invariant.size;
    }
