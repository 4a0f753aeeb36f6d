use Rattle.std.proofs.Common.{sym, ap, ◌∙◌}
use Rattle.std.proofs.Common.{None}
use Rattle.iox_tables.specs.HubStates.Tables.{pipes_of, port_in}
use Rattle.iox_hub_ports.specs.Ports.{PortsState, lane_to_get_on}
use Rattle.iox_hub_ports.proofs.Places.{looked, lowest_said, missing, told}
use Rattle.iox_hub_ports.proofs.ports.Ports.lane_to_get.Goals as goal

pub returns-in-Some-clause-lowest : goal.returns-in-Some-clause-lowest
returns-in-Some-clause-lowest c =
    rw (← c.self.view_is)
    (c.lane_to_get.ensures.lowest ∙ told c.self.inside.ports.items c.args.receiver c.in-Some.place c.index_mut.result.now (λ p. lane_to_get_on (pipes_of p) c.args.sender) None (looked _ _ c.args.receiver _ _ (ap (λ (s : PortsState). s.ports) (sym c.self.view_is)) c.place.ensures.first c.in-Some.is) c.index_mut.ensures.value
    ∙ lowest_said c.args.sender (port_in c.self.inside.ports.items c.args.receiver))

pub returns-in-None-clause-lowest : goal.returns-in-None-clause-lowest
returns-in-None-clause-lowest c =
    rw (← c.self.view_is) (missing (λ p. lane_to_get_on (pipes_of p) c.args.sender) None c.self.inside.ports.items c.args.receiver (looked _ _ c.args.receiver _ _ (ap (λ (s : PortsState). s.ports) (sym c.self.view_is)) c.place.ensures.first c.in-None.is)
    ∙ lowest_said c.args.sender (port_in c.self.inside.ports.items c.args.receiver))
