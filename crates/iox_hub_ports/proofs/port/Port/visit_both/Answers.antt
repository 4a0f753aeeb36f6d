use Rattle.std.proofs.Common.{sym, ap, ◌∙◌}
use Rattle.iox_tables.specs.Visits.TheVariants.{AtLimit}
use Rattle.iox_tables.specs.Visited.{all_visits}
use Rattle.iox_tables.specs.HubStates.Receives.{both_visits}
use Rattle.iox_tables.proofs.HubStates.Both.{visits_are_of_both}
use Rattle.iox_hub_ports.specs.Ports.{port_of}
use Rattle.iox_hub_ports.proofs.port.Port.visit_both.Goals as goal

pub returns-in-Got-clause-visits : goal.returns-in-Got-clause-visits
returns-in-Got-clause-visits g c =
    rw (← c.self.view_is)
    (ap (λ v. both_visits v (all_visits c.args.wanted (g.L.Labels.label_of c.args.labels.now) c.args.lane c.self.inside.incoming.pipes))
    (sym c.in-Got.is ∙ c.visit_all.ensures.visits)
    ∙ sym (visits_are_of_both c.args.wanted (g.L.Labels.label_of c.args.labels.now) c.args.lane
    (port_of c.self.inside.info c.self.inside.expired c.self.inside.incoming)).0)

pub returns-in-Nothing-clause-visits : goal.returns-in-Nothing-clause-visits
returns-in-Nothing-clause-visits g c =
    rw (← c.self.view_is)
    (c.visit_all-in-Nothing.ensures.visits
    ∙ ap (λ v. both_visits v (all_visits c.args.wanted (g.L.Labels.label_of c.args.labels.now) c.args.lane c.self.inside.incoming.pipes))
    (sym c.in-Nothing.is ∙ c.visit_all.ensures.visits)
    ∙ sym (visits_are_of_both c.args.wanted (g.L.Labels.label_of c.args.labels.now) c.args.lane
    (port_of c.self.inside.info c.self.inside.expired c.self.inside.incoming)).0)

pub returns-in-AtLimit-clause-visits : goal.returns-in-AtLimit-clause-visits
returns-in-AtLimit-clause-visits g c =
    rw (← c.self.view_is)
    (c.after_limit.ensures ∙ ap (λ v. both_visits AtLimit v) c.visit_all-in-AtLimit.ensures.visits
    ∙ ap (λ v. both_visits v (all_visits c.args.wanted (g.L.Labels.label_of c.args.labels.now) c.args.lane c.self.inside.incoming.pipes))
    (sym c.in-AtLimit.is ∙ c.visit_all.ensures.visits)
    ∙ sym (visits_are_of_both c.args.wanted (g.L.Labels.label_of c.args.labels.now) c.args.lane
    (port_of c.self.inside.info c.self.inside.expired c.self.inside.incoming)).0)
