use Rattle.std.proofs.Common.{sym, ◌∙◌}
use Rattle.iox_tables.specs.Pipes.{with_state}
use Rattle.iox_hub_ports.specs.Ports.{port_of}
use Rattle.iox_hub_ports.proofs.Firsts.{changed_expired, changed_other}
use Rattle.iox_hub_ports.proofs.port.Port.on_state.Goals as goal

pub returns-in-Some : goal.returns-in-Some
returns-in-Some g c =
    rw (c.on_state.ensures, ← c.self.view_is)
    (changed_expired (λ q. with_state (g.S.StateStep.changed c.args.step.now) q c.args.lane)
    (port_of c.self.inside.info c.self.inside.expired c.self.inside.incoming) c.args.sender c.in-Some.rank
    (sym c.rank.ensures.first ∙ c.in-Some.is))

pub returns-in-None : goal.returns-in-None
returns-in-None g c =
    rw (c.on_state-in-None.ensures, ← c.self.view_is)
    (changed_other (λ q. with_state (g.S.StateStep.changed c.args.step.now) q c.args.lane)
    (port_of c.self.inside.info c.self.inside.expired c.self.inside.incoming) c.args.sender (sym c.rank.ensures.first ∙ c.in-None.is))
