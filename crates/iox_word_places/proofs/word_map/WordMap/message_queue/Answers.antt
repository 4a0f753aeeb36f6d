use Rattle.iox_word_places.proofs.WayLemmas.{message_queue_is}
use Rattle.iox_word_places.proofs.word_map.WordMap.message_queue.Goals as goal

pub returns : goal.returns
returns c = message_queue_is c.args.self.now c.way-base.ensures.plan c.args.way c.requires c.sender-sender.result c.sender-sender.ensures
    c.limits-limits.result c.limits-limits.ensures c.way-base.result c.way-base.ensures.place
    c.kind-kind.result c.buffer-capacity.result c.kind-kind.ensures c.buffer-capacity.ensures
