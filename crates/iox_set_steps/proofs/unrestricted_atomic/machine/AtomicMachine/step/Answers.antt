use Rattle.std.proofs.Common.{◌≡◌, subst, IfOk, OnOk}
use Rattle.iox_set_steps.specs.AtomicPlays.{AtomicMachineState}
use Rattle.iox_set_steps.specs.AtomicMachines.{IsAtomicEvent, atomics_answer, atomics_stepped}
use Rattle.iox_set_steps.proofs.AtomicEventLemmas.{answers_are, events_of, steps_are}
use Rattle.iox_set_steps.proofs.unrestricted_atomic.machine.AtomicMachine.step.Goals as goal

pub returns-clause-event : goal.returns-clause-event
returns-clause-event g c =
    subst (λ (w : AtomicMachineState g.row.N). IfOk c.step.result (λ answer. IsAtomicEvent g.row.N w c.args.party answer c.step.new.self)) c.self.view_is
    (events_of g.row.N _ c.holds.ensures c.args.party _ c.step.result c.step.ensures.stepped)

pub returns-clause-next : goal.returns-clause-next
returns-clause-next g c =
    subst (λ (w : AtomicMachineState g.row.N). OnOk c.step.result (c.step.new.self ≡ atomics_stepped w c.args.party)) c.self.view_is
    (steps_are g.row.N _ _ c.args.party c.step.result c.step.ensures.stepped)

pub returns-clause-answer : goal.returns-clause-answer
returns-clause-answer g c =
    subst (λ (w : AtomicMachineState g.row.N). IfOk c.step.result (λ answer. answer ≡ atomics_answer w c.args.party)) c.self.view_is
    (answers_are g.row.N _ _ c.args.party c.step.result c.step.ensures.stepped)
