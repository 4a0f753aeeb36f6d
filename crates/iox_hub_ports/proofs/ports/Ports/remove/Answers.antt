use Rattle.std.proofs.Common.{◌+◌, ap, sym, ◌∙◌}
use Rattle.iox_tables.proofs.HubStates.Placing.{places_are_of_numbers}
use Rattle.iox_hub_ports.proofs.Firsts.{first_gone, none_first}
use Rattle.iox_hub_ports.proofs.Keeping.{IsPorts-removed, lists_left}
use Rattle.iox_hub_ports.specs.InPlace.{listed}
use Rattle.iox_hub_ports.specs.Ports.{PortsState}
use Rattle.iox_hub_ports.proofs.Places.{found, looked}
use Rattle.iox_hub_ports.proofs.ports.Ports.remove.Goals as goal

pub invariant_of-self : goal.invariant_of-self
invariant_of-self c =
    IsPorts-removed c.self.inside.ports.items c.arrange.new.ports.items c.self.inside.room c.self.inside.last _ _ c.args.number c.in-Some.place c.self.invariant
    (looked _ _ c.args.number _ _ (ap (λ (s : PortsState). s.ports) (sym c.self.view_is)) c.place.ensures.first c.in-Some.is)
    (c.arrange.ensures.ports ∙ c.remove-port.ensures.items) (c.arrange.ensures.capacity ∙ c.remove-port.ensures.capacity)
    (c.arrange.ensures.lists ∙ ap (listed c.self.inside.lists.most) (sym c.arrange.ensures.ports))

pub arrange-requires : goal.arrange-requires
arrange-requires c =
    lists_left c.self.inside.ports.items c.remove-port.new.self.items c.self.inside.room c.self.inside.last _ c.args.number c.in-Some.place c.self.invariant
    (looked _ _ c.args.number _ _ (ap (λ (s : PortsState). s.ports) (sym c.self.view_is)) c.place.ensures.first c.in-Some.is) c.remove-port.ensures.items

pub returns-in-None-clause-port : goal.returns-in-None-clause-port
returns-in-None-clause-port c =
    rw (← c.self.view_is)
    (sym (none_first (λ p. p.number) c.self.inside.ports.items c.args.number 0
    (looked _ _ c.args.number _ _ (ap (λ (s : PortsState). s.ports) (sym c.self.view_is)) c.place.ensures.first c.in-None.is)))

pub returns-in-Some-clause-port : goal.returns-in-Some-clause-port
returns-in-Some-clause-port c =
    rw (← c.self.view_is)
    (sym (found c.self.inside.ports.items c.args.number c.in-Some.place c.remove-port.result
    (looked _ _ c.args.number _ _ (ap (λ (s : PortsState). s.ports) (sym c.self.view_is)) c.place.ensures.first c.in-Some.is) c.remove-port.ensures.value)
    ∙ (places_are_of_numbers c.self.inside.ports.items c.args.number c.in-Some.place
    (looked _ _ c.args.number _ _ (ap (λ (s : PortsState). s.ports) (sym c.self.view_is)) c.place.ensures.first c.in-Some.is)).port)

pub returns-in-Some-clause-removed : goal.returns-in-Some-clause-removed
returns-in-Some-clause-removed c =
    λ some. rw (← c.self.view_is)
    (ap (λ qs. record { room = c.self.inside.room + 1; ports = qs })
    (c.arrange.ensures.ports ∙ c.remove-port.ensures.items
    ∙ first_gone (λ p. p.number) c.self.inside.ports.items c.args.number c.in-Some.place
    (looked _ _ c.args.number _ _ (ap (λ (s : PortsState). s.ports) (sym c.self.view_is)) c.place.ensures.first c.in-Some.is)))
