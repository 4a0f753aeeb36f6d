use Rattle.std.proofs.Common.{refl, sym, ap, ◌∙◌, slice_set}
use Rattle.iox_hub_ports.specs.InPlace.{roles_of}
use Rattle.iox_hub_ports.specs.Ports.{PortsState, with_lane_from}
use Rattle.iox_tables.specs.HubStates.Tables.{numbers_of}
use Rattle.iox_hub_ports.proofs.Keeping.{IsPorts-kept, lane_keeps, lane_keeps_roles}
use Rattle.iox_hub_ports.proofs.Places.{changed, looked, unchanged, way_missing, way_told, with_those}
use Rattle.iox_hub_ports.proofs.ports.Ports.on_lane_of.Goals as goal

pub returns-in-Some-clause-told : goal.returns-in-Some-clause-told
returns-in-Some-clause-told g c =
    rw (← c.self.view_is)
    (c.on_lane.ensures.told
    ∙ way_told (g.S.LaneStep.told c.args.step.now) (g.S.LaneStep.none c.args.step.now) c.self.inside.ports.items c.args.way c.in-Some.place c.index_mut.result.now
    (looked _ _ c.args.way.receiver _ _ (ap (λ (s : PortsState). s.ports) (sym c.self.view_is)) c.place.ensures.first c.in-Some.is) c.index_mut.ensures.value)

pub returns-in-Some-clause-changed : goal.returns-in-Some-clause-changed
returns-in-Some-clause-changed g c =
    rw (← c.self.view_is)
    (ap (with_those c.self.inside.room)
    (ap (slice_set c.self.inside.ports.items c.in-Some.place) c.on_lane.ensures.changed
    ∙ changed c.self.inside.ports.items c.args.way.receiver c.in-Some.place c.index_mut.result.now
    (λ p. with_lane_from (g.S.LaneStep.changed c.args.step.now) p c.args.way.sender c.args.way.lane)
    (looked _ _ c.args.way.receiver _ _ (ap (λ (s : PortsState). s.ports) (sym c.self.view_is)) c.place.ensures.first c.in-Some.is) c.index_mut.ensures.value))

pub returns-in-None-clause-told : goal.returns-in-None-clause-told
returns-in-None-clause-told g c =
    rw (← c.self.view_is)
    (c.nothing.ensures
    ∙ way_missing (g.S.LaneStep.told c.args.step.now) (g.S.LaneStep.none c.args.step.now) c.self.inside.ports.items c.args.way
    (looked _ _ c.args.way.receiver _ _ (ap (λ (s : PortsState). s.ports) (sym c.self.view_is)) c.place.ensures.first c.in-None.is))

pub returns-in-None-clause-changed : goal.returns-in-None-clause-changed
returns-in-None-clause-changed g c =
    rw (← c.self.view_is)
    (ap (with_those c.self.inside.room)
    (unchanged (λ p. with_lane_from (g.S.LaneStep.changed c.args.step.now) p c.args.way.sender c.args.way.lane) c.self.inside.ports.items c.args.way.receiver
    (looked _ _ c.args.way.receiver _ _ (ap (λ (s : PortsState). s.ports) (sym c.self.view_is)) c.place.ensures.first c.in-None.is)))

pub invariant_of-self : goal.invariant_of-self
invariant_of-self g c =
    let is = ap (slice_set c.self.inside.ports.items c.in-Some.place) c.on_lane.ensures.changed
    ∙ changed c.self.inside.ports.items c.args.way.receiver c.in-Some.place c.index_mut.result.now
    (λ p. with_lane_from (g.S.LaneStep.changed c.args.step.now) p c.args.way.sender c.args.way.lane)
    (looked _ _ c.args.way.receiver _ _ (ap (λ (s : PortsState). s.ports) (sym c.self.view_is)) c.place.ensures.first c.in-Some.is) c.index_mut.ensures.value in
    IsPorts-kept c.self.inside.ports.items _ c.self.inside.room c.self.inside.last _ _ c.self.invariant
    (ap numbers_of is ∙ lane_keeps (g.S.LaneStep.changed c.args.step.now) c.self.inside.ports.items c.args.way)
    (ap roles_of is ∙ lane_keeps_roles (g.S.LaneStep.changed c.args.step.now) c.self.inside.ports.items c.args.way)
    refl
