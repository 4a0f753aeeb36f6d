use Rattle.iox_queue_calls.proofs.WholeLemmas.{empty_soon, looked_empty, empty_says}
use Rattle.iox_queue_calls.proofs.whole.is_empty.Goals as goal

pub finish-requires-clause-soon : goal.finish-requires-clause-soon
finish-requires-clause-soon c = empty_soon c.args.site c.args.words.now.items c.requires

pub of_empty_look-requires : goal.of_empty_look-requires
of_empty_look-requires c = empty_says c.args.site c.args.words.now.items c.requires _ _ c.finish.ensures

pub returns-clause-queue : goal.returns-clause-queue
returns-clause-queue c = (looked_empty c.args.site c.args.words.now.items c.requires _ _ _ c.finish.ensures c.of_empty_look.ensures).queue

pub returns-clause-accesses : goal.returns-clause-accesses
returns-clause-accesses c = (looked_empty c.args.site c.args.words.now.items c.requires _ _ _ c.finish.ensures c.of_empty_look.ensures).accesses

pub returns-clause-unchanged : goal.returns-clause-unchanged
returns-clause-unchanged c = (looked_empty c.args.site c.args.words.now.items c.requires _ _ _ c.finish.ensures c.of_empty_look.ensures).unchanged
