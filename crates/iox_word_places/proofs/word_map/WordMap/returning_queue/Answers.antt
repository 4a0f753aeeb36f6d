use Rattle.std.proofs.Common.{arith, refl}
use Rattle.iox_word_places.proofs.WayLemmas.{queues_are, waiting_fits, returning_queue_is}
use Rattle.iox_word_places.proofs.word_map.WordMap.returning_queue.Goals as goal

pub overflow_add-result : goal.overflow_add-result
overflow_add-result c = (let h = waiting_fits c.args.self.now c.way-base.ensures.plan c.args.way c.requires c.sender-sender.result c.sender-sender.ensures
    c.args.self.now.limits refl c.way-base.result c.way-base.ensures.place c.way-base.ensures.fits c.way-base.ensures.within
    c.queues-queues.result (queues_are c.args.self.now.limits _ c.sizes.ensures c.sender-sender.result _ c.queues-queues.ensures) in omega arith)

pub returns : goal.returns
returns c = returning_queue_is c.args.self.now c.way-base.ensures.plan c.args.way c.requires c.sender-sender.result c.sender-sender.ensures
    c.args.self.now.limits refl c.way-base.result c.way-base.ensures.place c.way-base.ensures.fits c.way-base.ensures.within
    c.queues-queues.result (queues_are c.args.self.now.limits _ c.sizes.ensures c.sender-sender.result _ c.queues-queues.ensures)
