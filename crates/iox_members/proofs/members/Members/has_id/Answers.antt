use Rattle.std.specs.List.{list_any}
use Rattle.std.proofs.Common.{ap, sym, ◌∙◌}
use Rattle.iox_model.specs.Joins.{same_id}
use Rattle.iox_members.specs.declared.member.Member.{Member}
use Rattle.iox_members.proofs.Kept.{any_kept}
use Rattle.iox_members.proofs.members.Members.has_id.Goals as goal

pub returns : goal.returns
returns c =
    rw (← c.self.view_is)
    (sym
    (any_kept c.args.id c.self.inside.nodes.items
    ∙ ap (list_any (λ (m : Member). same_id m.id c.args.id)) (sym c.deref.ensures.value) ∙ sym c.has_id.ensures))
