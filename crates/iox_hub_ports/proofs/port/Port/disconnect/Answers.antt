use Rattle.std.proofs.Common.{sym, ◌∙◌}
use Rattle.iox_tables.proofs.HubStates.Placing.{ranks_are_of_senders}
use Rattle.iox_hub_ports.specs.Ports.{port_of}
use Rattle.iox_hub_ports.proofs.Firsts.{no_pipe_gone, none_first, pipe_gone}
use Rattle.iox_hub_ports.proofs.port.Port.disconnect.Goals as goal

pub returns-in-Some-clause-pipe : goal.returns-in-Some-clause-pipe
returns-in-Some-clause-pipe c =
    rw (← c.self.view_is)
    (c.disconnect.ensures.pipe ∙ (ranks_are_of_senders c.self.inside.incoming c.args.sender c.in-Some.rank (sym c.rank.ensures.first ∙ c.in-Some.is)).pipe)

pub returns-in-Some-clause-disconnected : goal.returns-in-Some-clause-disconnected
returns-in-Some-clause-disconnected c =
    rw (c.disconnect.ensures.disconnected, ← c.self.view_is)
    (pipe_gone (port_of c.self.inside.info c.self.inside.expired c.self.inside.incoming) c.args.sender c.in-Some.rank
    (sym c.rank.ensures.first ∙ c.in-Some.is))

pub returns-in-None-clause-pipe : goal.returns-in-None-clause-pipe
returns-in-None-clause-pipe c =
    rw (← c.self.view_is)
    (sym (none_first (λ q. q.sender) c.self.inside.incoming.pipes c.args.sender 0 (sym c.rank.ensures.first ∙ c.in-None.is)))

pub returns-in-None-clause-disconnected : goal.returns-in-None-clause-disconnected
returns-in-None-clause-disconnected c =
    rw (← c.self.view_is)
    (no_pipe_gone (port_of c.self.inside.info c.self.inside.expired c.self.inside.incoming) c.args.sender
    (sym c.rank.ensures.first ∙ c.in-None.is))
