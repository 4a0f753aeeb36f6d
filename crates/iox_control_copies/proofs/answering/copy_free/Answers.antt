use Rattle.std.specs.Prelude.{Bool, Option, is_some, not, ◌&&◌}
use Rattle.std.proofs.Common.{ap, ap₂, ◌∙◌}
use Rattle.iox_hub_ports.specs.declared.info.PortInfo.{PortInfo}
use Rattle.iox_control.proofs.InPlaceLemmas.{all_apart}
use Rattle.iox_control_responses.specs.declared.targets.Target.{Target}
use Rattle.iox_control_copies.proofs.Kept.{loans_below}
use Rattle.iox_control_copies.proofs.answering.copy_free.Goals as goal

pub lose-requires-clause-loans : goal.lose-requires-clause-loans
lose-requires-clause-loans c =
    loans_below c.args.control.now c.requires.order c.requires.calls c.args.lender.now.port.number c.requires.port.port c.requires.port.there

pub put_in_line-requires-clause-loans : goal.put_in_line-requires-clause-loans
put_in_line-requires-clause-loans c =
    loans_below c.args.control.now c.requires.order c.requires.calls c.args.lender.now.port.number c.requires.port.port c.requires.port.there

pub put_in_line-requires-clause-apart : goal.put_in_line-requires-clause-apart
put_in_line-requires-clause-apart c = all_apart c.args.control.now c.requires.order

pub returns-then-not-shut : goal.returns-then-not-shut
returns-then-not-shut c p is = (
  ap₂ (λ (a b : Bool). a && not b) (ap (λ (o : Option Target). is_some o) c.in-Some.is) c.if-not-shut.true,
  c.put_in_line.ensures.pool ∙ ap (λ (i : PortInfo). i.pool) is,
  c.put_in_line.ensures.left p is,
)

pub lose-requires-2-clause-loans : goal.lose-requires-2-clause-loans
lose-requires-2-clause-loans c =
    loans_below c.args.control.now c.requires.order c.requires.calls c.args.lender.now.port.number c.requires.port.port c.requires.port.there
