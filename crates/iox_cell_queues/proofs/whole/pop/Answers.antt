use Rattle.std.proofs.Common.{◌+◌, ◌≤◌, ◌^◌, ◌-◌, arith}
use Rattle.iox_cell_queues.specs.Cells.{size}
use Rattle.iox_cell_queues.proofs.WholeLemmas.{pop_soon, popped, pop_says}
use Rattle.iox_cell_queues.proofs.whole.pop.Goals as goal

pub finish-requires : goal.finish-requires
finish-requires g c =
    let small = c.args.words.now.small in
    let room = c.requires.holds.0 in
    let memory : size c.args.site + 1 ≤ 2 ^ 64 - 1 = omega (arith, small, room) in
    (c.requires.fits, (c.requires.holds.0, pop_soon _ g.T.Words c.args.site c.args.words.now.items c.requires.holds (2 ^ 64 - 1) memory))

pub of_pop-requires : goal.of_pop-requires
of_pop-requires g c = pop_says _ g.T.Words c.args.site c.args.words.now.items c.requires.holds _ _ c.finish.ensures

pub returns-clause-queue : goal.returns-clause-queue
returns-clause-queue g c = (popped _ g.T.Words c.args.site c.args.words.now.items c.requires.holds _ _ _ c.finish.ensures c.of_pop.ensures).queue

pub returns-clause-accesses : goal.returns-clause-accesses
returns-clause-accesses g c = (popped _ g.T.Words c.args.site c.args.words.now.items c.requires.holds _ _ _ c.finish.ensures c.of_pop.ensures).accesses

pub returns-clause-holds : goal.returns-clause-holds
returns-clause-holds g c = (popped _ g.T.Words c.args.site c.args.words.now.items c.requires.holds _ _ _ c.finish.ensures c.of_pop.ensures).holds

pub returns-clause-outside : goal.returns-clause-outside
returns-clause-outside g c = (popped _ g.T.Words c.args.site c.args.words.now.items c.requires.holds _ _ _ c.finish.ensures c.of_pop.ensures).outside
