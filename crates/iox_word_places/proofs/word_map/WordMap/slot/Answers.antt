use Rattle.std.proofs.Common.{arith, ◌<◌}
use Rattle.iox_word_places.specs.declared.plan.PlanPort.{PlanPort}
use Rattle.iox_word_places.proofs.PairLemmas.{index_there}
use Rattle.iox_word_places.proofs.SlotLemmas.{slot_facts}
use Rattle.iox_word_places.proofs.word_map.WordMap.slot.Goals as goal

pub port-at-requires : goal.port-at-requires
port-at-requires c = index_there PlanPort (λ p. c.args.slot < p.pool) c.args.self.now.ports.items c.args.port c.requires

pub overflow_mul-result : goal.overflow_mul-result
overflow_mul-result c = (let h = (slot_facts c.args.self.now c.before-before.ensures.plan c.before-before.ensures.fits c.args.port c.args.slot c.requires
    c.port-at.result c.port-at.ensures c.before-before.result c.before-before.ensures.value).product in omega arith)

pub overflow_add-result : goal.overflow_add-result
overflow_add-result c = (let h = (slot_facts c.args.self.now c.before-before.ensures.plan c.before-before.ensures.fits c.args.port c.args.slot c.requires
    c.port-at.result c.port-at.ensures c.before-before.result c.before-before.ensures.value).sum in omega arith)

pub returns : goal.returns
returns c = (slot_facts c.args.self.now c.before-before.ensures.plan c.before-before.ensures.fits c.args.port c.args.slot c.requires
    c.port-at.result c.port-at.ensures c.before-before.result c.before-before.ensures.value).place
