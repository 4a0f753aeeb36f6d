use Rattle.std.proofs.Common.{◌≡◌, Some, sym, ap, subst, ◌∙◌, slice_set}
use Rattle.std.proofs.lemmas.Option.{IfSome_then}
use Rattle.iox_tables.specs.Visits.TheVariants.{Nothing}
use Rattle.iox_tables.specs.Visited.{all_visits}
use Rattle.iox_tables.specs.HubStates.Receives.{visited_port}
use Rattle.iox_tables.specs.HubStates.Tables.{pipes_of, port_in}
use Rattle.iox_hub_ports.proofs.Keeping.{IsPorts-set}
use Rattle.iox_hub_ports.proofs.Places.{changed, kept_there, told, visits_said, with_those}
use Rattle.iox_hub_ports.specs.Ports.{PortsState, place_in}
use Rattle.iox_hub_ports.proofs.ports.Ports.visit_usual.Goals as goal

pub invariant_of-self : goal.invariant_of-self
invariant_of-self g c =
    IsPorts-set c.self.inside.ports.items c.args.hint c.self.inside.room c.self.inside.last c.self.inside.ports.cap c.index_mut.result.now c.visit_usual.new.self
    c.self.invariant c.index_mut.ensures.value c.visit_usual.ensures.number c.visit_usual.ensures.role

pub returns-clause-visits : goal.returns-clause-visits
returns-clause-visits g c =
    rw (← c.self.view_is)
    (IfSome_then c.visit_usual.result c.visit_usual.ensures.visits
    (λ v e. e
    ∙ told c.self.inside.ports.items c.args.number c.args.hint c.index_mut.result.now
    (λ p. all_visits c.args.wanted (g.L.Labels.label_of c.args.labels.now) c.args.lane (pipes_of p)) Nothing
    (subst (λ (s : PortsState). place_in s.ports c.args.number ≡ Some c.args.hint) (sym c.self.view_is) (c.is_near.ensures.place.0 c.if-not-is_near.false))
    c.index_mut.ensures.value
    ∙ visits_said c.args.wanted (g.L.Labels.label_of c.args.labels.now) c.args.lane (port_in c.self.inside.ports.items c.args.number)))

pub returns-clause-visited : goal.returns-clause-visited
returns-clause-visited g c =
    rw (← c.self.view_is)
    (IfSome_then c.visit_usual.result c.visit_usual.ensures.visited
    (λ v e.
    ap (with_those c.self.inside.room)
    (ap (slice_set c.self.inside.ports.items c.args.hint) e
    ∙ changed c.self.inside.ports.items c.args.number c.args.hint c.index_mut.result.now (visited_port c.args.wanted (g.L.Labels.label_of c.args.labels.now) c.args.lane)
    (subst (λ (s : PortsState). place_in s.ports c.args.number ≡ Some c.args.hint) (sym c.self.view_is) (c.is_near.ensures.place.0 c.if-not-is_near.false))
    c.index_mut.ensures.value)))

pub returns-clause-unchanged : goal.returns-clause-unchanged
returns-clause-unchanged g c =
    rw (← c.self.view_is)
    (λ none.
    ap (with_those c.self.inside.room)
    (kept_there c.self.inside.ports.items c.args.hint c.index_mut.result.now c.visit_usual.new.self c.index_mut.ensures.value (c.visit_usual.ensures.unchanged none)))
