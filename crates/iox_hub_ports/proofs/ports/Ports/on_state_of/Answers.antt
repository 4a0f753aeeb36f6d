use Rattle.std.proofs.Common.{refl, sym, ap, ◌∙◌, slice_set}
use Rattle.iox_hub_ports.specs.InPlace.{roles_of}
use Rattle.iox_hub_ports.specs.Ports.{PortsState, with_state_from}
use Rattle.iox_tables.specs.HubStates.Tables.{numbers_of}
use Rattle.iox_hub_ports.proofs.Keeping.{IsPorts-kept, state_keeps, state_keeps_roles}
use Rattle.iox_hub_ports.proofs.Places.{changed, looked, unchanged, with_those}
use Rattle.iox_hub_ports.proofs.ports.Ports.on_state_of.Goals as goal

pub returns-in-Some : goal.returns-in-Some
returns-in-Some g c =
    rw (← c.self.view_is)
    (ap (with_those c.self.inside.room)
    (ap (slice_set c.self.inside.ports.items c.in-Some.place) c.on_state.ensures
    ∙ changed c.self.inside.ports.items c.args.way.sender c.in-Some.place c.index_mut.result.now
    (λ p. with_state_from (g.S.StateStep.changed c.args.step.now) p c.args.way.receiver c.args.way.lane)
    (looked _ _ c.args.way.sender _ _ (ap (λ (s : PortsState). s.ports) (sym c.self.view_is)) c.place.ensures.first c.in-Some.is) c.index_mut.ensures.value))

pub returns-in-None : goal.returns-in-None
returns-in-None g c =
    rw (← c.self.view_is)
    (ap (with_those c.self.inside.room)
    (unchanged (λ p. with_state_from (g.S.StateStep.changed c.args.step.now) p c.args.way.receiver c.args.way.lane) c.self.inside.ports.items c.args.way.sender
    (looked _ _ c.args.way.sender _ _ (ap (λ (s : PortsState). s.ports) (sym c.self.view_is)) c.place.ensures.first c.in-None.is)))

pub invariant_of-self : goal.invariant_of-self
invariant_of-self g c =
    let is = ap (slice_set c.self.inside.ports.items c.in-Some.place) c.on_state.ensures
    ∙ changed c.self.inside.ports.items c.args.way.sender c.in-Some.place c.index_mut.result.now
    (λ p. with_state_from (g.S.StateStep.changed c.args.step.now) p c.args.way.receiver c.args.way.lane)
    (looked _ _ c.args.way.sender _ _ (ap (λ (s : PortsState). s.ports) (sym c.self.view_is)) c.place.ensures.first c.in-Some.is) c.index_mut.ensures.value in
    IsPorts-kept c.self.inside.ports.items _ c.self.inside.room c.self.inside.last _ _ c.self.invariant
    (ap numbers_of is ∙ state_keeps (g.S.StateStep.changed c.args.step.now) c.self.inside.ports.items c.args.way)
    (ap roles_of is ∙ state_keeps_roles (g.S.StateStep.changed c.args.step.now) c.self.inside.ports.items c.args.way)
    refl
