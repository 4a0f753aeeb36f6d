use Rattle.std.proofs.Common.{◌≡◌, subst, sym, take, OnOk}
use Rattle.iox_queue_steps.specs.Queues.{QueueInvariant}
use Rattle.iox_queue_steps.specs.Machines.{QueueMachineState, IsInterleaving}
use Rattle.iox_queue_steps.specs.Entries.{site_of, queue_after}
use Rattle.iox_queue_steps.proofs.PlaysLemmas.{schedule_plays}
use Rattle.iox_queue_steps.proofs.EntryLemmas.{queue_schedule_ends, schedule_stands}
use Rattle.iox_queue_steps.proofs.machine.QueueMachine.run.Goals as goal

pub returns-clause-happened : goal.returns-clause-happened
returns-clause-happened c =
    let holds = subst QueueInvariant (sym c.self.view_is) c.holds.ensures.queue in
    let plays = schedule_plays _ _ (take c.run-played.ensures.played.0 c.args.schedule.now) holds c.run-played.ensures.played.1 in
    subst (λ (w : QueueMachineState). IsInterleaving w c.run-played.new.self) c.self.view_is plays

pub returns-clause-after : goal.returns-clause-after
returns-clause-after c =
    let ends = queue_schedule_ends _ c.args.schedule.now c.run-played.new.self c.run-played.result c.run-played.ensures.whole in
    subst (λ (w : QueueMachineState). OnOk c.run-played.result (c.run-played.new.self ≡ queue_after w c.args.schedule.now)) c.self.view_is ends

pub returns-clause-stands : goal.returns-clause-stands
returns-clause-stands c =
    let stands = schedule_stands _ _ _ c.run-played.ensures.played.1 in
    subst (λ (w : QueueMachineState). site_of c.run-played.new.self ≡ site_of w) c.self.view_is stands
