use Rattle.std.proofs.Common.{ap, length, subst, sym, ◌<◌, ◌-◌, ◌^◌, ◌∙◌, slice_set, ℕ}
use Rattle.iox_tables.specs.HubStates.Tables.{PortState}
use Rattle.iox_hub_ports.specs.InPlace.{in_place}
use Rattle.iox_hub_ports.specs.Ports.{PortsState, with_loan_counted}
use Rattle.iox_hub_ports.proofs.InPlace.{changed_in, said_in}
use Rattle.iox_hub_ports.proofs.Keeping.{IsPorts-set}
use Rattle.iox_hub_ports.proofs.Places.{with_those}
use Rattle.iox_hub_ports.proofs.ports.Ports.count_loan_in.Goals as goal

pub count_loan-requires : goal.count_loan-requires
count_loan-requires c =
    subst (λ (n : ℕ). n < 2 ^ 64 - 1)
    (sym (said_in c.self.inside.ports.items c.args.place c.index_mut.result.now (λ p. p.loans) 0
    (subst (λ (s : PortsState). c.args.place < length s.ports) (sym c.self.view_is) c.requires.there) c.index_mut.ensures.value))
    (subst (λ (s : PortsState). in_place (λ p. p.loans) 0 s.ports c.args.place < 2 ^ 64 - 1) (sym c.self.view_is) c.requires.loans)

pub invariant_of-self : goal.invariant_of-self
invariant_of-self c =
    IsPorts-set c.self.inside.ports.items c.args.place c.self.inside.room c.self.inside.last c.self.inside.ports.cap c.index_mut.result.now c.count_loan.new.self
    c.self.invariant c.index_mut.ensures.value (ap (λ (p : PortState). p.number) c.count_loan.ensures) (ap (λ (p : PortState). p.role) c.count_loan.ensures)

pub returns : goal.returns
returns c =
    rw (← c.self.view_is)
    (ap (with_those c.self.inside.room)
    (ap (slice_set c.self.inside.ports.items c.args.place) c.count_loan.ensures
    ∙ changed_in c.self.inside.ports.items c.args.place c.index_mut.result.now with_loan_counted
    (subst (λ (s : PortsState). c.args.place < length s.ports) (sym c.self.view_is) c.requires.there) c.index_mut.ensures.value))
