use Rattle.std.proofs.Common.{sym, ap, ◌∙◌}
use Rattle.std.proofs.Common.{false}
use Rattle.iox_tables.specs.HubStates.Asks.{waits_for}
use Rattle.iox_hub_ports.specs.Ports.{PortsState}
use Rattle.iox_hub_ports.proofs.Places.{looked, missing, told}
use Rattle.iox_hub_ports.proofs.ports.Ports.has_waiting.Goals as goal

pub returns-in-Some : goal.returns-in-Some
returns-in-Some c =
    rw (← c.self.view_is)
    (c.has_waiting.ensures ∙ told c.self.inside.ports.items c.args.number c.in-Some.place c.index.result.now (λ p. waits_for p c.args.lane) false (looked _ _ c.args.number _ _ (ap (λ (s : PortsState). s.ports) (sym c.self.view_is)) c.place.ensures.first c.in-Some.is) c.index.ensures)

pub returns-in-None : goal.returns-in-None
returns-in-None c =
    rw (← c.self.view_is) (missing (λ p. waits_for p c.args.lane) false c.self.inside.ports.items c.args.number (looked _ _ c.args.number _ _ (ap (λ (s : PortsState). s.ports) (sym c.self.view_is)) c.place.ensures.first c.in-None.is))
