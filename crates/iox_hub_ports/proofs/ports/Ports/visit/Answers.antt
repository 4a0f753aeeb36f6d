use Rattle.std.proofs.Common.{sym, ap, ◌∙◌, slice_set}
use Rattle.iox_tables.specs.HubStates.Tables.{PortState}
use Rattle.iox_tables.specs.Visits.TheVariants.{Nothing}
use Rattle.iox_tables.specs.Visited.{all_visits}
use Rattle.iox_tables.specs.HubStates.Receives.{visited_port}
use Rattle.iox_tables.specs.HubStates.Tables.{pipes_of, port_in}
use Rattle.iox_hub_ports.proofs.Keeping.{IsPorts-set}
use Rattle.iox_hub_ports.specs.Ports.{PortsState}
use Rattle.iox_hub_ports.proofs.Places.{changed, looked, missing, told, visits_said, unchanged}
use Rattle.iox_hub_ports.proofs.ports.Ports.visit.Goals as goal

pub invariant_of-self : goal.invariant_of-self
invariant_of-self g c =
    IsPorts-set c.self.inside.ports.items c.in-Some.place c.self.inside.room c.self.inside.last c.self.inside.ports.cap c.index_mut.result.now c.visit.new.self
    c.self.invariant c.index_mut.ensures.value (ap (λ (p : PortState). p.number) c.visit.ensures.visited) (ap (λ (p : PortState). p.role) c.visit.ensures.visited)

pub returns-in-Some-clause-visited : goal.returns-in-Some-clause-visited
returns-in-Some-clause-visited g c =
    rw (← c.self.view_is)
    (ap (λ qs. record { room = c.self.inside.room; ports = qs })
    (ap (slice_set c.self.inside.ports.items c.in-Some.place) c.visit.ensures.visited
    ∙ changed c.self.inside.ports.items c.args.number c.in-Some.place c.index_mut.result.now (visited_port c.args.wanted (g.L.Labels.label_of c.args.labels.now) c.args.lane) (looked _ _ c.args.number _ _ (ap (λ (s : PortsState). s.ports) (sym c.self.view_is)) c.place.ensures.first c.in-Some.is) c.index_mut.ensures.value))

pub returns-in-None-clause-visited : goal.returns-in-None-clause-visited
returns-in-None-clause-visited g c =
    rw (← c.self.view_is)
    (ap (λ qs. record { room = c.self.inside.room; ports = qs })
    (unchanged (visited_port c.args.wanted (g.L.Labels.label_of c.args.labels.now) c.args.lane) c.self.inside.ports.items c.args.number (looked _ _ c.args.number _ _ (ap (λ (s : PortsState). s.ports) (sym c.self.view_is)) c.place.ensures.first c.in-None.is)))

pub returns-in-Some-clause-visits : goal.returns-in-Some-clause-visits
returns-in-Some-clause-visits g c =
    rw (← c.self.view_is)
    (c.visit.ensures.visits ∙ told c.self.inside.ports.items c.args.number c.in-Some.place c.index_mut.result.now (λ p. all_visits c.args.wanted (g.L.Labels.label_of c.args.labels.now) c.args.lane (pipes_of p)) Nothing (looked _ _ c.args.number _ _ (ap (λ (s : PortsState). s.ports) (sym c.self.view_is)) c.place.ensures.first c.in-Some.is) c.index_mut.ensures.value
    ∙ visits_said c.args.wanted (g.L.Labels.label_of c.args.labels.now) c.args.lane (port_in c.self.inside.ports.items c.args.number))

pub returns-in-None-clause-visits : goal.returns-in-None-clause-visits
returns-in-None-clause-visits g c =
    rw (← c.self.view_is) (missing (λ p. all_visits c.args.wanted (g.L.Labels.label_of c.args.labels.now) c.args.lane (pipes_of p)) Nothing c.self.inside.ports.items c.args.number (looked _ _ c.args.number _ _ (ap (λ (s : PortsState). s.ports) (sym c.self.view_is)) c.place.ensures.first c.in-None.is)
    ∙ visits_said c.args.wanted (g.L.Labels.label_of c.args.labels.now) c.args.lane (port_in c.self.inside.ports.items c.args.number))
