use Rattle.std.proofs.Common.{ap, ◌∙◌}
use Rattle.iox_steps.specs.declared.site.Site.{Site}
use Rattle.iox_wire_ways.proofs.ReturnLemmas.{room_is}
use Rattle.iox_wire_ways.proofs.returns.return_from.Goals as goal

pub returns-clause-room : goal.returns-clause-room
returns-clause-room c =
    ap (λ (s : Site). s.capacity) c.returning_queue-site.ensures
    ∙ room_is c.args.map.now c.args.client c.args.server c.plan.ensures.plan c.requires.0 c.requires.1
