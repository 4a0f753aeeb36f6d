use Rattle.std.proofs.Common.{ap}
use Rattle.std.proofs.lemmas.Option.{IfSome_then}
use Rattle.iox_hub_ports.specs.Ports.{PortsState}
use Rattle.iox_control.specs.Controls.{control_of}
use Rattle.iox_control.proofs.control.Control.visit_usual.Goals as goal

pub returns-clause-visits : goal.returns-clause-visits
returns-clause-visits c = rw (← c.self.view_is) c.visit_usual.ensures.visits

pub returns-clause-visited : goal.returns-clause-visited
returns-clause-visited c =
    let s = c.self.inside in
    rw (← c.self.view_is)
    (IfSome_then c.visit_usual.result c.visit_usual.ensures.visited
    (λ v e. ap (λ (ps : PortsState). control_of s.settings s.calls s.next_number s.ports_made ps s.handles s.pools) e))

pub returns-clause-unchanged : goal.returns-clause-unchanged
returns-clause-unchanged c =
    let s = c.self.inside in
    rw (← c.self.view_is)
    (λ none. ap (λ (ps : PortsState). control_of s.settings s.calls s.next_number s.ports_made ps s.handles s.pools) (c.visit_usual.ensures.unchanged none))
