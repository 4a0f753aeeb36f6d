use Rattle.std.specs.Prelude.{slice_index_or, slice_set}
use Rattle.std.proofs.Common.{ap, ◌∙◌, refl}
use Rattle.iox_members.specs.Nodes.{killed}
use Rattle.iox_members.proofs.Kept.{all_mapped, one_more}
use Rattle.iox_members.proofs.lists.kill.Goals as goal

pub loop-member-init : goal.loop-member-init
loop-member-init c = refl

pub loop-member-preserved : goal.loop-member-preserved
loop-member-preserved c =
    ap (slice_set c.loop-member.nodes c.loop-member.member-index) c.killed.ensures
    ∙ ap (λ xs. slice_set xs c.loop-member.member-index (killed c.args.node (slice_index_or xs c.loop-member.member-index c.member-item.result))) c.loop-member.invariant
    ∙ one_more (killed c.args.node) c.loop-member.member-index c.args.nodes.now c.member-item.result c.loop-member-test.true

pub returns : goal.returns
returns c = c.loop-member.invariant ∙ all_mapped (killed c.args.node) c.loop-member.member-index c.args.nodes.now c.loop-member-test.false
