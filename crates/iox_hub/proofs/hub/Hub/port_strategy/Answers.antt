use Rattle.std.specs.Prelude.{refl}
use Rattle.std.proofs.Common.{sym, ◌∙◌}
use Rattle.iox_hub.proofs.HeadersShown.{is_never_missing}
use Rattle.iox_hub.proofs.LoanReading.{port_is_as_told}
use Rattle.iox_hub.proofs.hub.Hub.port_strategy.Goals as goal

pub unreachable-requires : goal.unreachable-requires
unreachable-requires g c =
    is_never_missing c.self.invariant c.args.self.now c.self.view_is c.args.node c.args.number c.requires.has _ c.ports.ensures.ports
    (sym c.find.ensures ∙ c.in_default.is)

pub returns : goal.returns
returns g c =
    rw (← c.self.view_is)
    (port_is_as_told c.self.invariant c.args.number c.ports.result.now.ports c.ports.ensures.ports c.in-Some.port c.find.result c.find.ensures c.in-Some.is
    (λ p. p.strategy) (λ i. i.strategy) (λ x p. refl))
