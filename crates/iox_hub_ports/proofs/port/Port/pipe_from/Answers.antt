use Rattle.std.proofs.Common.{sym, ◌∙◌}
use Rattle.iox_hub_ports.specs.Ports.{port_of}
use Rattle.iox_hub_ports.proofs.Firsts.{from_expired, from_other}
use Rattle.iox_hub_ports.proofs.port.Port.pipe_from.Goals as goal

pub returns-in-Some : goal.returns-in-Some
returns-in-Some c =
    rw (← c.self.view_is)
    (c.pipe.ensures ∙ from_expired (port_of c.self.inside.info c.self.inside.expired c.self.inside.incoming) c.args.sender c.in-Some.rank
    (sym c.rank.ensures.first ∙ c.in-Some.is))

pub returns-in-None : goal.returns-in-None
returns-in-None c =
    rw (← c.self.view_is)
    (c.pipe-in-None.ensures ∙ from_other (port_of c.self.inside.info c.self.inside.expired c.self.inside.incoming) c.args.sender
    (sym c.rank.ensures.first ∙ c.in-None.is))
