use Rattle.std.proofs.Common.{sym, ap, ◌∙◌, slice_set}
use Rattle.iox_tables.specs.HubStates.Tables.{PortState}
use Rattle.iox_hub_ports.specs.Ports.{PortsState, without_value}
use Rattle.iox_hub_ports.proofs.Keeping.{IsPorts-set}
use Rattle.iox_hub_ports.proofs.Places.{changed, looked, unchanged}
use Rattle.iox_hub_ports.proofs.ports.Ports.release_value.Goals as goal

pub invariant_of-self : goal.invariant_of-self
invariant_of-self c =
    IsPorts-set c.self.inside.ports.items c.in-Some.place c.self.inside.room c.self.inside.last c.self.inside.ports.cap c.index_mut.result.now c.release_value.new.self
    c.self.invariant c.index_mut.ensures.value (ap (λ (p : PortState). p.number) c.release_value.ensures) (ap (λ (p : PortState). p.role) c.release_value.ensures)

pub returns-in-Some : goal.returns-in-Some
returns-in-Some c =
    rw (← c.self.view_is)
    (ap (λ qs. record { room = c.self.inside.room; ports = qs })
    (ap (slice_set c.self.inside.ports.items c.in-Some.place) c.release_value.ensures
    ∙ changed c.self.inside.ports.items c.args.number c.in-Some.place c.index_mut.result.now without_value (looked _ _ c.args.number _ _ (ap (λ (s : PortsState). s.ports) (sym c.self.view_is)) c.place.ensures.first c.in-Some.is) c.index_mut.ensures.value))

pub returns-in-None : goal.returns-in-None
returns-in-None c =
    rw (← c.self.view_is)
    (ap (λ qs. record { room = c.self.inside.room; ports = qs })
    (unchanged without_value c.self.inside.ports.items c.args.number (looked _ _ c.args.number _ _ (ap (λ (s : PortsState). s.ports) (sym c.self.view_is)) c.place.ensures.first c.in-None.is)))
