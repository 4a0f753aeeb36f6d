use Rattle.std.proofs.Common.{◌≡◌, ◌∷◌, List, false, true, sym, subst, rules}
use Rattle.iox_names.specs.declared.attribute.Attribute.{Attribute}
use Rattle.iox_attributes.specs.Sets.{is_sorted}
use Rattle.iox_attributes.specs.Verifiers.{IsLeastMissing, has_pair}
use Rattle.iox_attributes.proofs.VerifierLemmas.{least-first}
use Rattle.iox_attributes.proofs.attribute_verifier.missing_pair.Goals as goal

pub returns-then-not-contains-clause-missing : goal.returns-then-not-contains-clause-missing
returns-then-not-contains-clause-missing c =
    let split : c.loop-first.rest.now ≡ c.in-Some.first.now ∷ c.in-Some.later.now =
    search rules in
    let missing : has_pair c.args.defined.now c.in-Some.first.now ≡ false =
    search rules in
    let sorted : is_sorted (c.in-Some.first.now ∷ c.in-Some.later.now) ≡ true =
    subst (λ (list : List Attribute). is_sorted list ≡ true) split c.loop-first.invariant.sorted in
    c.loop-first.invariant.missing c.in-Some.first.now
    (subst (λ (list : List Attribute). IsLeastMissing list c.args.defined.now c.in-Some.first.now) (sym split)
    (least-first c.args.defined.now c.in-Some.later.now c.in-Some.first.now sorted missing))
