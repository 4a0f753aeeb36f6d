use Rattle.std.proofs.Common.{sym, ap, ◌∙◌, slice_set}
use Rattle.iox_tables.specs.HubStates.Tables.{PortState}
use Rattle.std.proofs.Common.{false}
use Rattle.iox_tables.specs.Incomings.{has_room_for}
use Rattle.iox_hub_ports.specs.Ports.{PortsState, with_connected}
use Rattle.iox_hub_ports.proofs.Keeping.{IsPorts-set}
use Rattle.iox_hub_ports.proofs.Places.{changed, looked, missing, told, unchanged}
use Rattle.iox_hub_ports.proofs.ports.Ports.connect.Goals as goal

pub invariant_of-self : goal.invariant_of-self
invariant_of-self c =
    IsPorts-set c.self.inside.ports.items c.in-Some.place c.self.inside.room c.self.inside.last c.self.inside.ports.cap c.index_mut.result.now c.connect.new.self
    c.self.invariant c.index_mut.ensures.value (ap (λ (p : PortState). p.number) c.connect.ensures.connected) (ap (λ (p : PortState). p.role) c.connect.ensures.connected)

pub returns-in-Some-clause-connected : goal.returns-in-Some-clause-connected
returns-in-Some-clause-connected c =
    rw (← c.self.view_is)
    (ap (λ qs. record { room = c.self.inside.room; ports = qs })
    (ap (slice_set c.self.inside.ports.items c.in-Some.place) c.connect.ensures.connected
    ∙ changed c.self.inside.ports.items c.args.number c.in-Some.place c.index_mut.result.now (λ p. with_connected p c.args.pipe) (looked _ _ c.args.number _ _ (ap (λ (s : PortsState). s.ports) (sym c.self.view_is)) c.place.ensures.first c.in-Some.is) c.index_mut.ensures.value))

pub returns-in-None-clause-connected : goal.returns-in-None-clause-connected
returns-in-None-clause-connected c =
    rw (← c.self.view_is)
    (ap (λ qs. record { room = c.self.inside.room; ports = qs })
    (unchanged (λ p. with_connected p c.args.pipe) c.self.inside.ports.items c.args.number (looked _ _ c.args.number _ _ (ap (λ (s : PortsState). s.ports) (sym c.self.view_is)) c.place.ensures.first c.in-None.is)))

pub returns-in-Some-clause-room : goal.returns-in-Some-clause-room
returns-in-Some-clause-room c =
    rw (← c.self.view_is)
    (c.connect.ensures.room ∙ told c.self.inside.ports.items c.args.number c.in-Some.place c.index_mut.result.now (λ p. has_room_for p.incoming) false (looked _ _ c.args.number _ _ (ap (λ (s : PortsState). s.ports) (sym c.self.view_is)) c.place.ensures.first c.in-Some.is) c.index_mut.ensures.value)

pub returns-in-None-clause-room : goal.returns-in-None-clause-room
returns-in-None-clause-room c =
    rw (← c.self.view_is) (missing (λ p. has_room_for p.incoming) false c.self.inside.ports.items c.args.number (looked _ _ c.args.number _ _ (ap (λ (s : PortsState). s.ports) (sym c.self.view_is)) c.place.ensures.first c.in-None.is))
