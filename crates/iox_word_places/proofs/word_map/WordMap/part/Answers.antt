use Rattle.std.proofs.Common.{arith, ◌<◌}
use Rattle.iox_word_places.specs.declared.plan.PlanPort.{PlanPort}
use Rattle.iox_word_places.proofs.PairLemmas.{index_there}
use Rattle.iox_word_places.proofs.SlotLemmas.{slot_facts, room_there, part_fits, part_is}
use Rattle.iox_word_places.proofs.word_map.WordMap.part.Goals as goal

pub port-at-requires : goal.port-at-requires
port-at-requires c = index_there PlanPort (λ p. c.args.slot < p.pool) c.args.self.now.ports.items c.args.port c.requires

pub overflow_mul-start : goal.overflow_mul-start
overflow_mul-start c = (let h = (slot_facts c.args.self.now c.before-before.ensures.plan c.before-before.ensures.fits c.args.port c.args.slot c.requires
    c.port-at.result c.port-at.ensures c.before-before.result c.before-before.ensures.value).product in omega arith)

pub part_word-word-requires : goal.part_word-word-requires
part_word-word-requires c = room_there c.args.self.now c.before-before.ensures.plan c.before-before.ensures.fits c.args.port c.args.slot c.requires
    c.port-at.result c.port-at.ensures c.before-before.result c.before-before.ensures.value
    c.details-details.result.now c.details-details.ensures

pub overflow_add-result : goal.overflow_add-result
overflow_add-result c = (let h = part_fits c.args.self.now c.before-before.ensures.plan c.before-before.ensures.fits c.args.port c.args.slot c.requires
    c.port-at.result c.port-at.ensures c.before-before.result c.before-before.ensures.value
    c.details-details.result.now c.details-details.ensures c.args.part c.part_word-word.result c.part_word-word.ensures in omega arith)

pub returns : goal.returns
returns c = part_is c.args.self.now c.before-before.ensures.plan c.before-before.ensures.fits c.args.port c.args.slot c.requires
    c.port-at.result c.port-at.ensures c.before-before.result c.before-before.ensures.value
    c.details-details.result.now c.details-details.ensures c.args.part c.part_word-word.result c.part_word-word.ensures
