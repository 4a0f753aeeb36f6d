use Rattle.std.proofs.Common.{ap, ◌∙◌}
use Rattle.iox_steps.specs.declared.site.Site.{Site}
use Rattle.iox_wire_stops.proofs.LaneReturnLemmas.{room_there}
use Rattle.iox_wire_stops.proofs.lane_returns.return_on.Goals as goal

pub returns-clause-room : goal.returns-clause-room
returns-clause-room c =
    ap (λ (s : Site). s.capacity) c.returning_queue-site.ensures
    ∙ room_there c.args.map.now c.plan.ensures.plan c.args.server c.requires.1 c.args.client c.args.lane c.requires.0
