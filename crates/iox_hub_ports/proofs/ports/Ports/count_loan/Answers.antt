use Rattle.std.proofs.Common.{ap, ◌∙◌, slice_set}
use Rattle.iox_tables.specs.HubStates.Tables.{PortState}
use Rattle.std.proofs.Common.{◌<◌, ◌-◌, ◌^◌, ℕ, subst, sym}
use Rattle.std.specs.Option.{option_map_or}
use Rattle.iox_tables.specs.HubStates.Tables.{port_in}
use Rattle.iox_hub_ports.specs.Ports.{PortsState, with_loan_counted}
use Rattle.iox_hub_ports.proofs.Keeping.{IsPorts-set}
use Rattle.iox_hub_ports.proofs.Places.{changed, looked, told, unchanged}
use Rattle.iox_hub_ports.proofs.ports.Ports.count_loan.Goals as goal

pub count_loan-requires : goal.count_loan-requires
count_loan-requires c =
    subst (λ (n : ℕ). n < 2 ^ 64 - 1)
    (sym (told c.self.inside.ports.items c.args.number c.in-Some.place c.index_mut.result.now (λ p. p.loans) 0 (looked _ _ c.args.number _ _ (ap (λ (s : PortsState). s.ports) (sym c.self.view_is)) c.place.ensures.first c.in-Some.is) c.index_mut.ensures.value))
    (subst (λ (s : PortsState). option_map_or (λ p. p.loans) (port_in s.ports c.args.number) 0 < 2 ^ 64 - 1) (sym c.self.view_is) c.requires)

pub invariant_of-self : goal.invariant_of-self
invariant_of-self c =
    IsPorts-set c.self.inside.ports.items c.in-Some.place c.self.inside.room c.self.inside.last c.self.inside.ports.cap c.index_mut.result.now c.count_loan.new.self
    c.self.invariant c.index_mut.ensures.value (ap (λ (p : PortState). p.number) c.count_loan.ensures) (ap (λ (p : PortState). p.role) c.count_loan.ensures)

pub returns-in-Some : goal.returns-in-Some
returns-in-Some c =
    rw (← c.self.view_is)
    (ap (λ qs. record { room = c.self.inside.room; ports = qs })
    (ap (slice_set c.self.inside.ports.items c.in-Some.place) c.count_loan.ensures
    ∙ changed c.self.inside.ports.items c.args.number c.in-Some.place c.index_mut.result.now with_loan_counted (looked _ _ c.args.number _ _ (ap (λ (s : PortsState). s.ports) (sym c.self.view_is)) c.place.ensures.first c.in-Some.is) c.index_mut.ensures.value))

pub returns-in-None : goal.returns-in-None
returns-in-None c =
    rw (← c.self.view_is)
    (ap (λ qs. record { room = c.self.inside.room; ports = qs })
    (unchanged with_loan_counted c.self.inside.ports.items c.args.number (looked _ _ c.args.number _ _ (ap (λ (s : PortsState). s.ports) (sym c.self.view_is)) c.place.ensures.first c.in-None.is)))
