use Rattle.std.proofs.Common.{ℕ, ◌≡◌, ◌∷◌, List, false, true, sym, subst, rules}
use Rattle.std.specs.List.{list_all}
use Rattle.iox_attributes.specs.Verifiers.{IsFirstMissing, has_key}
use Rattle.iox_attributes.proofs.SortedLemmas.{and-so}
use Rattle.iox_attributes.proofs.VerifierLemmas.{first-here, first-more}
use Rattle.iox_attributes.proofs.attribute_verifier.missing_key.Goals as goal

pub returns-then-not-is_defined-clause-missing : goal.returns-then-not-is_defined-clause-missing
returns-then-not-is_defined-clause-missing c =
    let split : c.loop-first.rest.now ≡ c.in-Some.first.now ∷ c.in-Some.later.now =
    search rules in
    let missing : has_key c.args.defined.now c.in-Some.first.now ≡ false =
    search rules in
    c.loop-first.invariant.missing c.in-Some.first.now
    (subst (λ (list : List (List ℕ)). IsFirstMissing list c.args.defined.now c.in-Some.first.now) (sym split)
    (first-here c.args.defined.now c.in-Some.later.now c.in-Some.first.now missing))

pub loop-first-preserved : goal.loop-first-preserved
loop-first-preserved c =
    let split : c.loop-first.rest.now ≡ c.in-Some.first.now ∷ c.in-Some.later.now =
    search rules in
    let there : has_key c.args.defined.now c.in-Some.first.now ≡ true =
    search rules in
    record {
      met = λ all. c.loop-first.invariant.met
          (subst (λ (list : List (List ℕ)). list_all (has_key c.args.defined.now) list ≡ true) (sym split)
          (and-so (has_key c.args.defined.now c.in-Some.first.now)
          (list_all (has_key c.args.defined.now) c.in-Some.later.now) there all));
      missing = λ key h. c.loop-first.invariant.missing key
          (subst (λ (list : List (List ℕ)). IsFirstMissing list c.args.defined.now key) (sym split)
          (first-more c.args.defined.now c.in-Some.later.now c.in-Some.first.now key there h));
    }
