use Rattle.std.proofs.Common.{subst}
use Rattle.iox_queue_steps.specs.Queues.{QueueInvariant}
use Rattle.iox_queue_steps.proofs.EntryLemmas.{queue_order}
use Rattle.iox_queue_steps.proofs.machine.QueueMachine.holds.Goals as goal

pub returns-clause-order : goal.returns-clause-order
returns-clause-order c = (queue_order c.args.self.now (subst QueueInvariant c.self.view_is c.holds.ensures)).0

pub returns-clause-bounded : goal.returns-clause-bounded
returns-clause-bounded c = (queue_order c.args.self.now (subst QueueInvariant c.self.view_is c.holds.ensures)).1
