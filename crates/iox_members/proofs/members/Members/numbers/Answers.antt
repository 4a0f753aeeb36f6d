use Rattle.std.specs.Prelude.{map}
use Rattle.std.proofs.Common.{ap, sym, ◌∙◌}
use Rattle.iox_members.specs.declared.member.Member.{Member}
use Rattle.iox_members.proofs.Kept.{numbers_kept}
use Rattle.iox_members.proofs.Stepping.{if_ok}
use Rattle.iox_members.proofs.members.Members.numbers.Goals as goal

pub returns : goal.returns
returns c =
    rw (← c.self.view_is)
    (if_ok c.numbers_of.result
    (λ numbers is. is ∙ ap (map (λ (m : Member). m.number)) c.deref.ensures.value ∙ sym (numbers_kept c.self.inside.nodes.items))
    c.numbers_of.ensures)
