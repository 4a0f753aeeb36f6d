use Rattle.std.proofs.Common.{sym, ap, ◌∙◌}
use Rattle.iox_hub_ports.specs.Ports.{PortsState}
use Rattle.iox_hub_ports.proofs.Places.{looked, state_missing, state_told}
use Rattle.iox_hub_ports.proofs.ports.Ports.state.Goals as goal

pub returns-in-Some : goal.returns-in-Some
returns-in-Some c =
    rw (← c.self.view_is)
    (c.state.ensures ∙ state_told c.self.inside.ports.items c.args.way c.in-Some.place c.index.result.now (looked _ _ c.args.way.sender _ _ (ap (λ (s : PortsState). s.ports) (sym c.self.view_is)) c.place.ensures.first c.in-Some.is) c.index.ensures)

pub returns-in-None : goal.returns-in-None
returns-in-None c =
    rw (← c.self.view_is) (state_missing c.self.inside.ports.items c.args.way (looked _ _ c.args.way.sender _ _ (ap (λ (s : PortsState). s.ports) (sym c.self.view_is)) c.place.ensures.first c.in-None.is))
