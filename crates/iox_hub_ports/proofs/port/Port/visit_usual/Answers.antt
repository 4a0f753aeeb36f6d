use Rattle.std.proofs.Common.{◌==◌, length, sym, ap, ◌∙◌}
use Rattle.std.proofs.lemmas.Option.{IfSome_then}
use Rattle.iox_tables.specs.HubStates.Tables.{PortState}
use Rattle.iox_hub_ports.specs.Ports.{port_of}
use Rattle.iox_hub_ports.proofs.Usual.{connected_visited, connected_visits}
use Rattle.iox_hub_ports.proofs.port.Port.visit_usual.Goals as goal

pub returns-clause-visits : goal.returns-clause-visits
returns-clause-visits g c =
    rw (← c.self.view_is)
    (IfSome_then c.visit_usual.result c.visit_usual.ensures.visits
    (λ v e. e
    ∙ connected_visits c.args.wanted (g.L.Labels.label_of c.args.labels.now) c.args.lane (port_of c.self.inside.info c.self.inside.expired c.self.inside.incoming)
    (ap (λ (p : PortState). length p.expired.pipes == 0) c.self.view_is ∙ sym c.if-not-keeps_none.ensures)))

pub returns-clause-visited : goal.returns-clause-visited
returns-clause-visited g c =
    rw (← c.self.view_is)
    (IfSome_then c.visit_usual.result c.visit_usual.ensures.visited
    (λ v e.
    connected_visited c.args.wanted (g.L.Labels.label_of c.args.labels.now) c.args.lane (port_of c.self.inside.info c.self.inside.expired c.self.inside.incoming)
    (ap (λ (p : PortState). length p.expired.pipes == 0) c.self.view_is ∙ sym c.if-not-keeps_none.ensures) c.visit_usual.new.self e))
