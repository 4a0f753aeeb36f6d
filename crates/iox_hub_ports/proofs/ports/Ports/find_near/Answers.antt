use Rattle.std.proofs.Common.{sym, ap, ◌∙◌}
use Rattle.iox_tables.specs.HubStates.Tables.{port_in}
use Rattle.std.proofs.Common.{None, Some}
use Rattle.iox_hub_ports.specs.Ports.{PortsState, info_of}
use Rattle.iox_hub_ports.proofs.Places.{info_said, looked, missing, told}
use Rattle.iox_hub_ports.proofs.ports.Ports.find_near.Goals as goal

pub returns-in-Some : goal.returns-in-Some
returns-in-Some c =
    rw (← c.self.view_is)
    (ap (λ i. Some i) c.info.ensures
    ∙ told c.self.inside.ports.items c.args.number c.in-Some.place c.index.result.now (λ p. Some (info_of p)) None (looked _ _ c.args.number _ _ (ap (λ (s : PortsState). s.ports) (sym c.self.view_is)) c.place_at.ensures.first c.in-Some.is) c.index.ensures
    ∙ info_said (port_in c.self.inside.ports.items c.args.number))

pub returns-in-None : goal.returns-in-None
returns-in-None c =
    rw (← c.self.view_is)
    (missing (λ p. Some (info_of p)) None c.self.inside.ports.items c.args.number (looked _ _ c.args.number _ _ (ap (λ (s : PortsState). s.ports) (sym c.self.view_is)) c.place_at.ensures.first c.in-None.is)
    ∙ info_said (port_in c.self.inside.ports.items c.args.number))
