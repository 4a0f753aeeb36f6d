use Rattle.std.specs.Prelude.{map}
use Rattle.std.specs.Fn.{CalledAt}
use Rattle.std.proofs.Common.{ap, subst, sym, ◌∙◌}
use Rattle.iox_attributes.specs.Visits.{VisitsInOrder}
use Rattle.iox_members.specs.declared.member.Member.{Member}
use Rattle.iox_members.proofs.Kept.{ids_kept}
use Rattle.iox_members.proofs.members.Members.list_ids.Goals as goal

pub returns : goal.returns
returns g c =
    rw (← c.self.view_is)
    (subst (VisitsInOrder (CalledAt g.F.FnMut) c.args.callback)
    (ap (map (λ (m : Member). m.id)) c.deref.ensures.value ∙ sym (ids_kept c.self.inside.nodes.items)) c.list_ids.ensures)
