use Rattle.std.proofs.Common.{arith, ◌^◌, ◌-◌}
use Rattle.iox_cell_queues.proofs.WholeLemmas.{empty_soon, looked_empty, empty_says}
use Rattle.iox_cell_queues.proofs.whole.is_empty.Goals as goal

pub finish-requires : goal.finish-requires
finish-requires g c = (c.requires.fits, (c.requires.holds.0, empty_soon _ g.T.Words c.args.site c.args.words.now.items c.requires.holds (2 ^ 64 - 1) (omega arith)))

pub of_empty_look-requires : goal.of_empty_look-requires
of_empty_look-requires g c = empty_says _ g.T.Words c.args.site c.args.words.now.items c.requires.holds _ _ c.finish.ensures

pub returns-clause-queue : goal.returns-clause-queue
returns-clause-queue g c = (looked_empty _ g.T.Words c.args.site c.args.words.now.items c.requires.holds _ _ _ c.finish.ensures c.of_empty_look.ensures).queue

pub returns-clause-accesses : goal.returns-clause-accesses
returns-clause-accesses g c = (looked_empty _ g.T.Words c.args.site c.args.words.now.items c.requires.holds _ _ _ c.finish.ensures c.of_empty_look.ensures).accesses

pub returns-clause-unchanged : goal.returns-clause-unchanged
returns-clause-unchanged g c = (looked_empty _ g.T.Words c.args.site c.args.words.now.items c.requires.holds _ _ _ c.finish.ensures c.of_empty_look.ensures).unchanged
