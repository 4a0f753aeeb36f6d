use Rattle.iox_queue_calls.proofs.WholeLemmas.{push_soon, pushed}
use Rattle.iox_queue_calls.proofs.whole.push.Goals as goal

pub finish-requires-clause-soon : goal.finish-requires-clause-soon
finish-requires-clause-soon c = push_soon c.args.site c.args.words.now.items c.requires c.args.value

pub returns-clause-queue : goal.returns-clause-queue
returns-clause-queue c = (pushed c.args.site c.args.words.now.items c.requires c.args.value _ _ c.finish.ensures).queue

pub returns-clause-accesses : goal.returns-clause-accesses
returns-clause-accesses c = (pushed c.args.site c.args.words.now.items c.requires c.args.value _ _ c.finish.ensures).accesses

pub returns-clause-holds : goal.returns-clause-holds
returns-clause-holds c = (pushed c.args.site c.args.words.now.items c.requires c.args.value _ _ c.finish.ensures).holds

pub returns-clause-outside : goal.returns-clause-outside
returns-clause-outside c = (pushed c.args.site c.args.words.now.items c.requires c.args.value _ _ c.finish.ensures).outside
