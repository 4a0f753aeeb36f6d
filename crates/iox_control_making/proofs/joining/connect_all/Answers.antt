use Rattle.std.proofs.Common.{◌∙◌}
use Rattle.iox_control_making.proofs.Walks.{control_next}
use Rattle.iox_control_making.proofs.joining.connect_all.Goals as goal

pub loop-link-preserved : goal.loop-link-preserved
loop-link-preserved c =
    control_next c.loop-link.control c.connect.new.self c.loop-link.links.items c.pop.new.self.items c.in-Some.link c.connect.ensures.connected c.in-Some.ensures.items
    ∙ c.loop-link.invariant
