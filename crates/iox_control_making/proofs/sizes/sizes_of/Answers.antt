use Rattle.std.proofs.Common.{ap, ◌∙◌, arith}
use Rattle.iox_control_making.specs.Sizes.{sizes_among}
use Rattle.iox_control_making.proofs.Walks.{sizes_next, take_whole}
use Rattle.iox_control_making.proofs.sizes.sizes_of.Goals as goal

pub loop-place-preserved : goal.loop-place-preserved
loop-place-preserved c =
    sizes_next c.args.ports.now.ports c.loop-place.place c.in_ok-info.info c.loop-place.sizes c.in_ok-more.more c.in_ok-sizes.sizes c.kept.result c.loop-place.invariant
    c.in_ok-info.ensures c.kept.ensures c.in_ok-more.ensures c.in_ok-sizes.ensures

pub returns : goal.returns
returns c =
    c.loop-place.invariant ∙ ap sizes_among (take_whole c.args.ports.now.ports c.loop-place.place (omega (arith, c.loop-place-test.false, c.len-place-end.ensures.len)))
