use Rattle.std.proofs.Common.{None, ap, sym, ◌∙◌}
use Rattle.std.specs.Option.{option_map_or}
use Rattle.iox_tables.specs.Pipes.{lane_to_get}
use Rattle.iox_hub_ports.specs.Ports.{port_of}
use Rattle.iox_hub_ports.proofs.Firsts.{asked_other, from_expired}
use Rattle.iox_hub_ports.proofs.port.Port.lane_to_get.Goals as goal

pub returns-in-Some-clause-lowest : goal.returns-in-Some-clause-lowest
returns-in-Some-clause-lowest c =
    rw (← c.self.view_is)
    (c.lane_to_get.ensures.lowest ∙ ap (λ o. option_map_or lane_to_get o None)
    (from_expired (port_of c.self.inside.info c.self.inside.expired c.self.inside.incoming) c.args.sender c.in-Some.rank
    (sym c.rank.ensures.first ∙ c.in-Some.is)))

pub returns-in-None-clause-lowest : goal.returns-in-None-clause-lowest
returns-in-None-clause-lowest c =
    rw (← c.self.view_is)
    (c.lane_to_get-in-None.ensures.lowest ∙ asked_other (port_of c.self.inside.info c.self.inside.expired c.self.inside.incoming) c.args.sender
    lane_to_get None (sym c.rank.ensures.first ∙ c.in-None.is))
