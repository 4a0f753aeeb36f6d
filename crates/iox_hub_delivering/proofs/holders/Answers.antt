use Rattle.iox_hub_delivering.proofs.Both.{each_hand_over_is_both, each_way_is_one_delivery, one_lane_may_take_over, pushed_out_is_the_oldest}
use Rattle.iox_hub_delivering.proofs.holders.Goals as goal

pub returns-clause-oldest : goal.returns-clause-oldest
returns-clause-oldest c = pushed_out_is_the_oldest

pub returns-clause-each : goal.returns-clause-each
returns-clause-each c = each_way_is_one_delivery

pub returns-clause-both : goal.returns-clause-both
returns-clause-both c = each_hand_over_is_both

pub returns-clause-one : goal.returns-clause-one
returns-clause-one c = one_lane_may_take_over
