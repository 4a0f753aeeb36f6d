use Rattle.std.specs.Prelude.{◌==◌, find}
use Rattle.std.specs.Option.{option_map}
use Rattle.std.proofs.Common.{ap, sym, ◌∙◌}
use Rattle.iox_members.specs.declared.member.Member.{Member}
use Rattle.iox_members.specs.Nodes.{node_of}
use Rattle.iox_members.proofs.Kept.{find_kept}
use Rattle.iox_members.proofs.members.Members.find.Goals as goal

pub returns : goal.returns
returns c =
    rw (← c.self.view_is)
    (find_kept c.args.node c.self.inside.nodes.items
    ∙ ap (option_map node_of)
    (ap (find (λ (m : Member). m.number == c.args.node)) (sym c.deref.ensures.value) ∙ sym c.find.ensures))
