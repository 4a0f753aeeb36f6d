use Rattle.std.proofs.Common.{◌≡◌, ◌∙◌, arith, sym}
use Rattle.iox_control_lending.proofs.Foretold.{lane_more, lanes_alike, lanes_all, times_are, width_is}
use Rattle.iox_control_lending.proofs.foretelling.left_by.Goals as goal

pub loop-lane-init : goal.loop-lane-init
loop-lane-init c = record {
  left = omega arith;
  within = omega arith;
  size = width_is c.args.control.now.tables.ports c.args.to.now _ c.requires.to c.lanes_to-lane-end.ensures;
}

pub loop-lane-preserved : goal.loop-lane-preserved
loop-lane-preserved c = record {
  left = c.saturating_sub-left.ensures ∙ lane_more c.args.control.now c.args.sender.now c.requires.order c.requires.from c.args.slot c.args.to.now.number c.loop-lane.lane c.args.holders c.loop-lane.left _ c.loop-lane.invariant.left
      (c.returned_times_at-times.ensures ∙ times_are c.args.control.now c.args.sender.now c.requires.order c.requires.from c.args.slot c.args.at c.args.to.now.number c.loop-lane.lane c.requires.place);
  within = omega (arith, c.loop-lane-test.true);
  size = c.loop-lane.invariant.size;
}

pub returns-then-is_same_role : goal.returns-then-is_same_role
returns-then-is_same_role c =
    lanes_alike c.args.control.now c.args.sender.now c.requires.order c.requires.from c.args.slot c.args.to.now c.args.holders (sym c.is_same_role.ensures ∙ c.if-is_same_role.true)

pub returns : goal.returns
returns c =
    lanes_all c.args.control.now c.args.sender.now c.requires.order c.requires.from c.args.slot c.args.to.now c.loop-lane.lane c.args.holders c.loop-lane.left (sym c.is_same_role.ensures ∙ c.if-is_same_role.false)
    (let end : c.loop-lane.lane ≡ c.lanes_to-lane-end.result = omega (arith, c.loop-lane.invariant.within, c.loop-lane-test.false) in end ∙ c.loop-lane.invariant.size)
    c.loop-lane.invariant.left
