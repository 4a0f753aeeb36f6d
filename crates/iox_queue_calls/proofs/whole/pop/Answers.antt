use Rattle.iox_queue_calls.proofs.WholeLemmas.{pop_soon, popped, pop_says}
use Rattle.iox_queue_calls.proofs.whole.pop.Goals as goal

pub finish-requires-clause-soon : goal.finish-requires-clause-soon
finish-requires-clause-soon c = pop_soon c.args.site c.args.words.now.items c.requires

pub of_pop-requires : goal.of_pop-requires
of_pop-requires c = pop_says c.args.site c.args.words.now.items c.requires _ _ c.finish.ensures

pub returns-clause-queue : goal.returns-clause-queue
returns-clause-queue c = (popped c.args.site c.args.words.now.items c.requires _ _ _ c.finish.ensures c.of_pop.ensures).queue

pub returns-clause-accesses : goal.returns-clause-accesses
returns-clause-accesses c = (popped c.args.site c.args.words.now.items c.requires _ _ _ c.finish.ensures c.of_pop.ensures).accesses

pub returns-clause-holds : goal.returns-clause-holds
returns-clause-holds c = (popped c.args.site c.args.words.now.items c.requires _ _ _ c.finish.ensures c.of_pop.ensures).holds

pub returns-clause-outside : goal.returns-clause-outside
returns-clause-outside c = (popped c.args.site c.args.words.now.items c.requires _ _ _ c.finish.ensures c.of_pop.ensures).outside
