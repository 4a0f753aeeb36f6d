use Rattle.std.proofs.Common.{sym, ap, ◌∙◌, slice_set}
use Rattle.iox_tables.specs.HubStates.Tables.{PortState}
use Rattle.std.proofs.Common.{None}
use Rattle.iox_tables.specs.HubMaking.OneByOne.{without_first_pipe}
use Rattle.iox_hub_ports.specs.Ports.{PortsState, gone_from}
use Rattle.iox_hub_ports.proofs.Keeping.{IsPorts-set}
use Rattle.iox_hub_ports.proofs.Places.{changed, looked, missing, told, unchanged}
use Rattle.iox_hub_ports.proofs.ports.Ports.expire.Goals as goal

pub invariant_of-self : goal.invariant_of-self
invariant_of-self c =
    IsPorts-set c.self.inside.ports.items c.in-Some.place c.self.inside.room c.self.inside.last c.self.inside.ports.cap c.index_mut.result.now c.expire.new.self
    c.self.invariant c.index_mut.ensures.value (ap (λ (p : PortState). p.number) c.expire.ensures.left) (ap (λ (p : PortState). p.role) c.expire.ensures.left)

pub returns-in-Some-clause-left : goal.returns-in-Some-clause-left
returns-in-Some-clause-left c =
    rw (← c.self.view_is)
    (ap (λ qs. record { room = c.self.inside.room; ports = qs })
    (ap (slice_set c.self.inside.ports.items c.in-Some.place) c.expire.ensures.left
    ∙ changed c.self.inside.ports.items c.args.number c.in-Some.place c.index_mut.result.now (without_first_pipe c.args.sender) (looked _ _ c.args.number _ _ (ap (λ (s : PortsState). s.ports) (sym c.self.view_is)) c.place.ensures.first c.in-Some.is) c.index_mut.ensures.value))

pub returns-in-None-clause-left : goal.returns-in-None-clause-left
returns-in-None-clause-left c =
    rw (← c.self.view_is)
    (ap (λ qs. record { room = c.self.inside.room; ports = qs })
    (unchanged (without_first_pipe c.args.sender) c.self.inside.ports.items c.args.number (looked _ _ c.args.number _ _ (ap (λ (s : PortsState). s.ports) (sym c.self.view_is)) c.place.ensures.first c.in-None.is)))

pub returns-in-Some-clause-gone : goal.returns-in-Some-clause-gone
returns-in-Some-clause-gone c =
    rw (← c.self.view_is)
    (c.expire.ensures.gone ∙ told c.self.inside.ports.items c.args.number c.in-Some.place c.index_mut.result.now (λ p. gone_from p c.args.sender) None (looked _ _ c.args.number _ _ (ap (λ (s : PortsState). s.ports) (sym c.self.view_is)) c.place.ensures.first c.in-Some.is) c.index_mut.ensures.value)

pub returns-in-None-clause-gone : goal.returns-in-None-clause-gone
returns-in-None-clause-gone c =
    rw (← c.self.view_is) (missing (λ p. gone_from p c.args.sender) None c.self.inside.ports.items c.args.number (looked _ _ c.args.number _ _ (ap (λ (s : PortsState). s.ports) (sym c.self.view_is)) c.place.ensures.first c.in-None.is))
