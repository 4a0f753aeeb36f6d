use Rattle.std.proofs.Common.{sym, ◌∙◌}
use Rattle.iox_tables.specs.Pipes.{with_lane}
use Rattle.iox_hub_ports.specs.Ports.{port_of}
use Rattle.iox_hub_ports.proofs.Firsts.{changed_expired, changed_other, told_expired, told_other}
use Rattle.iox_hub_ports.proofs.port.Port.on_lane.Goals as goal

pub returns-in-Some-clause-told : goal.returns-in-Some-clause-told
returns-in-Some-clause-told g c =
    rw (← c.self.view_is)
    (c.on_lane.ensures.told ∙ told_expired (g.S.LaneStep.told c.args.step.now) (g.S.LaneStep.none c.args.step.now)
    (port_of c.self.inside.info c.self.inside.expired c.self.inside.incoming) c.args.sender c.args.lane c.in-Some.rank
    (sym c.rank.ensures.first ∙ c.in-Some.is))

pub returns-in-Some-clause-changed : goal.returns-in-Some-clause-changed
returns-in-Some-clause-changed g c =
    rw (c.on_lane.ensures.changed, ← c.self.view_is)
    (changed_expired (λ q. with_lane (g.S.LaneStep.changed c.args.step.now) q c.args.lane)
    (port_of c.self.inside.info c.self.inside.expired c.self.inside.incoming) c.args.sender c.in-Some.rank
    (sym c.rank.ensures.first ∙ c.in-Some.is))

pub returns-in-None-clause-told : goal.returns-in-None-clause-told
returns-in-None-clause-told g c =
    rw (← c.self.view_is)
    (c.on_lane-in-None.ensures.told ∙ told_other (g.S.LaneStep.told c.args.step.now) (g.S.LaneStep.none c.args.step.now)
    (port_of c.self.inside.info c.self.inside.expired c.self.inside.incoming) c.args.sender c.args.lane (sym c.rank.ensures.first ∙ c.in-None.is))

pub returns-in-None-clause-changed : goal.returns-in-None-clause-changed
returns-in-None-clause-changed g c =
    rw (c.on_lane-in-None.ensures.changed, ← c.self.view_is)
    (changed_other (λ q. with_lane (g.S.LaneStep.changed c.args.step.now) q c.args.lane)
    (port_of c.self.inside.info c.self.inside.expired c.self.inside.incoming) c.args.sender (sym c.rank.ensures.first ∙ c.in-None.is))
