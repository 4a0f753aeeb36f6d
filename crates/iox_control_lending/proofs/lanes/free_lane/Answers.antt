use Rattle.std.proofs.Common.{ap, not, sym, arith, ◌∙◌}
use Rattle.iox_tables.specs.HubLoans.Counts.{is_lane_taken}
use Rattle.iox_control_lending.proofs.CountLemmas.{search_goes_on}
use Rattle.iox_control_lending.proofs.lanes.free_lane.Goals as goal

pub loop-lane-preserved : goal.loop-lane-preserved
loop-lane-preserved c =
    c.loop-lane.invariant
    ∙ search_goes_on (λ lane. not (is_lane_taken c.args.control.now.tables c.args.client lane)) c.args.size c.loop-lane.lane (omega (arith, c.loop-lane-test.true))
    (ap not (sym c.is_lane_taken.ensures ∙ c.if-not-is_lane_taken.false))
