use Rattle.std.proofs.Common.{◌≡◌, ◌==◌, Some, find, length, ap, sym, subst, refl, ◌∙◌}
use Rattle.std.proofs.lemmas.List.{get_or_default}
use Rattle.std.proofs.lemmas.Option.{slice_get_read}
use Rattle.iox_members.specs.declared.member.Member.{Member}
use Rattle.iox_members.proofs.Among.{found-at}
use Rattle.iox_members.proofs.lists.find.Goals as goal

pub returns-then-nodes-place : goal.returns-then-nodes-place
returns-then-nodes-place c =
    let seen : Member = c.index-nodes-place.result in
    let told : Member = c.index-nodes-place-then-nodes-place.result in
    let same : told ≡ seen =
    c.index-nodes-place-then-nodes-place.is ∙ get_or_default c.args.nodes.now c.args.node told seen c.if-place-nodes.true ∙ sym c.index-nodes-place.is in
    let number : told.number ≡ c.args.node = ap (λ (x : Member). x.number) (same ∙ c.index-nodes-place.is) ∙ c.if-nodes-place.true in
    sym (subst (λ n. find (λ x. x.number == n) c.args.nodes.now ≡ Some told) number
    (found-at c.args.nodes.now c.args.node told
    (slice_get_read c.args.nodes.now (length c.args.nodes.now) c.args.node told refl c.if-place-nodes.true c.index-nodes-place-then-nodes-place.is) c.requires))
