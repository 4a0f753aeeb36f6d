use Rattle.std.proofs.Common.{◌≡◌, ◌∷◌, ◌∙◌, ◌+◌, ℕ, List, Option, Some, None, false, length, ap, sym, subst, arith, rules}
use Rattle.std.proofs.lemmas.Bool.{both_ways}
use Rattle.iox_types.specs.declared.identifiers.system_id.UniqueSystemId.{UniqueSystemId}
use Rattle.iox_registry.specs.declared.registered.Registered.{Registered}
use Rattle.iox_registry.specs.Registers.{details_in}
use Rattle.iox_registry.specs.Standing.{HasNoOwner, HasOwner, shown_slots}
use Rattle.iox_registry.proofs.IdLemmas.{same_id-is, same_id-of}
use Rattle.iox_registry.proofs.OwnerLemmas.{none-first, none-left, none-other, owner-first, owner-later}
use Rattle.iox_registry.proofs.registered.owner_of.Goals as goal

pub returns-then-left-eq0-clause-none : goal.returns-then-left-eq0-clause-none
returns-then-left-eq0-clause-none g c =
    c.loop-first.invariant.none
    (none-left g.D.HasNode.node c.args.id c.loop-first.rest.now (sym c.loop-first.invariant.count ∙ c.if-left-eq0.true))

pub loop-first-preserved-in_default-first : goal.loop-first-preserved-in_default-first
loop-first-preserved-in_default-first g c =
    let split : c.loop-first.rest.now ≡ c.in-Some.first.now ∷ c.in-Some.later.now = search rules in
    let nothing : c.in-Some.first.now ≡ None = search rules in
    let is : c.loop-first.rest.now ≡ None ∷ c.in-Some.later.now = split ∙ ap (λ x. x ∷ c.in-Some.later.now) nothing in
    record {
      found = λ owner has. c.loop-first.invariant.found owner
          (subst (λ xs. HasOwner g.D.HasNode.node xs c.args.id owner) (sym is)
          (owner-later g.D.HasNode.node c.args.id None c.in-Some.later.now owner has));
      none = λ none. c.loop-first.invariant.none
          (subst (λ xs. HasNoOwner g.D.HasNode.node xs c.args.id) (sym is)
          (none-first g.D.HasNode.node c.args.id c.in-Some.later.now none));
      count = c.loop-first.invariant.count ∙ ap (λ xs. length (details_in (shown_slots xs))) is;
    }

pub returns-then-eq-clause-found : goal.returns-then-eq-clause-found
returns-then-eq-clause-found g c =
    let split : c.loop-first.rest.now ≡ c.in-Some.first.now ∷ c.in-Some.later.now = search rules in
    let kept : c.in-Some.first.now ≡ Some c.in-Some-first.kept = search rules in
    let is : c.loop-first.rest.now ≡ Some c.in-Some-first.kept ∷ c.in-Some.later.now = split ∙ ap (λ x. x ∷ c.in-Some.later.now) kept in
    c.loop-first.invariant.found c.in-Some-first.kept.owner
    (subst (λ xs. HasOwner g.D.HasNode.node xs c.args.id c.in-Some-first.kept.owner) (sym is)
    (owner-first g.D.HasNode.node c.args.id c.in-Some-first.kept c.in-Some.later.now
    (sym c.node_id.ensures ∙ same_id-is c.node_id.result c.args.id (sym c.eq.ensures ∙ c.if-eq.true))))

pub loop-first-preserved : goal.loop-first-preserved
loop-first-preserved g c =
    let split : c.loop-first.rest.now ≡ c.in-Some.first.now ∷ c.in-Some.later.now = search rules in
    let kept : c.in-Some.first.now ≡ Some c.in-Some-first.kept = search rules in
    let is : c.loop-first.rest.now ≡ Some c.in-Some-first.kept ∷ c.in-Some.later.now = split ∙ ap (λ x. x ∷ c.in-Some.later.now) kept in
    let many : c.loop-first.left ≡ length (details_in (shown_slots c.in-Some.later.now)) + 1 =
    c.loop-first.invariant.count ∙ ap (λ xs. length (details_in (shown_slots xs))) is ∙ omega arith in
    record {
      found = λ owner has. c.loop-first.invariant.found owner
          (subst (λ xs. HasOwner g.D.HasNode.node xs c.args.id owner) (sym is)
          (owner-later g.D.HasNode.node c.args.id (Some c.in-Some-first.kept) c.in-Some.later.now owner has));
      none = λ none. c.loop-first.invariant.none
          (subst (λ xs. HasNoOwner g.D.HasNode.node xs c.args.id) (sym is)
          (none-other g.D.HasNode.node c.args.id c.in-Some-first.kept c.in-Some.later.now
          (λ same. both_ways _ (sym c.eq.ensures ∙ c.if-eq.false) (same_id-of c.node_id.result c.args.id (c.node_id.ensures ∙ same)))
          none));
      count = omega (arith, many);
    }
