use Rattle.std.specs.Prelude.{nat_lt, not}
use Rattle.std.specs.List.{IsAllAdjacentAnswer}
use Rattle.std.proofs.Common.{◌≡◌, ap, rules, subst, sym}
use Rattle.std.proofs.lemmas.Fn.{always_returns_same}
use Rattle.iox_wire_weaves.specs.PlanPort.{PlanPort}
use Rattle.iox_wire.proofs.PortOrders.{ordered}
use Rattle.iox_wire.proofs.serving.is_out_of_order.Goals as goal

pub returns : goal.returns
returns c =
    ap not
    (sym (ordered c.args.plan.now.ports.items c.is_sorted_by.result
    (subst (λ ps. IsAllAdjacentAnswer (λ (x y : PlanPort) b. b ≡ nat_lt x.number y.number) ps c.is_sorted_by.result) c.deref.ensures.value
    (c.is_sorted_by.ensures.cases (λ (x y : PlanPort). nat_lt x.number y.number) (always_returns_same _ _ _ (λ a r f' k. search rules))))))
