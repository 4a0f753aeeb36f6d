use Rattle.std.proofs.Common.{◌≡◌, ◌<◌, None, get_or, length, ap, ◌∙◌, arith}
use Rattle.std.proofs.lemmas.List.{get_or_default}
use Rattle.iox_registry.specs.Standing.{kept_without_node}
use Rattle.iox_registry.proofs.KeptLemmas.{Above-more, Below-more, kept_without-end}
use Rattle.iox_registry.proofs.registered.forget.Goals as goal

pub loop-slot-preserved : goal.loop-slot-preserved
loop-slot-preserved g c =
    let i = c.loop-slot.slot-index in
    let slots = c.loop-slot.slots in
    let kept = c.loop-slot.invariant in
    let within : c.loop-slot.slot-index < length c.loop-slot.slots = omega arith in
    let read = get_or_default slots i c.slot-item.result None within in
    let is = c.without_node.ensures ∙ ap (kept_without_node g.D.HasNode.node c.args.id) read in
    record {
      below = Below-more g.D.HasNode.node c.args.id c.args.slots.now slots i kept.below kept.above _ within is;
      above = Above-more g.D.HasNode.node c.args.id c.args.slots.now slots i kept.below kept.above _;
    }

pub returns : goal.returns
returns g c =
    kept_without-end g.D.HasNode.node c.args.id c.args.slots.now c.loop-slot.slots c.loop-slot.slot-index
    c.loop-slot.auto.slots c.loop-slot-test.false c.loop-slot.invariant.below
