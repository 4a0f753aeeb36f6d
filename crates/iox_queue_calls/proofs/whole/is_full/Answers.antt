use Rattle.iox_queue_calls.proofs.WholeLemmas.{full_soon, looked_full, full_says}
use Rattle.iox_queue_calls.proofs.whole.is_full.Goals as goal

pub finish-requires-clause-soon : goal.finish-requires-clause-soon
finish-requires-clause-soon c = full_soon c.args.site c.args.words.now.items c.requires

pub of_full_look-requires : goal.of_full_look-requires
of_full_look-requires c = full_says c.args.site c.args.words.now.items c.requires _ _ c.finish.ensures

pub returns-clause-queue : goal.returns-clause-queue
returns-clause-queue c = (looked_full c.args.site c.args.words.now.items c.requires _ _ _ c.finish.ensures c.of_full_look.ensures).queue

pub returns-clause-accesses : goal.returns-clause-accesses
returns-clause-accesses c = (looked_full c.args.site c.args.words.now.items c.requires _ _ _ c.finish.ensures c.of_full_look.ensures).accesses

pub returns-clause-unchanged : goal.returns-clause-unchanged
returns-clause-unchanged c = (looked_full c.args.site c.args.words.now.items c.requires _ _ _ c.finish.ensures c.of_full_look.ensures).unchanged
