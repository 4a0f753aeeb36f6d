use Rattle.std.proofs.Common.{subst, sym, IfOk}
use Rattle.iox_queue_steps.specs.Queues.{QueueInvariant}
use Rattle.iox_queue_steps.specs.Machines.{QueueMachineState, IsEvent}
use Rattle.iox_queue_steps.proofs.EventLemmas.{events_of}
use Rattle.iox_queue_steps.proofs.machine.QueueMachine.step.Goals as goal

pub returns-clause-event : goal.returns-clause-event
returns-clause-event c =
    let holds = subst QueueInvariant (sym c.self.view_is) c.holds.ensures.queue in
    let happened = events_of _ _ _ c.step.result holds c.step.ensures.stepped in
    subst (λ (w : QueueMachineState). IfOk c.step.result (λ answer. IsEvent w c.args.party answer c.step.new.self)) c.self.view_is happened
