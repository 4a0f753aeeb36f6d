use Rattle.std.proofs.Common.{arith}
use Rattle.iox_model.specs.declared.kind.Role.TheVariants.{Server}
use Rattle.iox_word_places.proofs.WayLemmas.{queues_are, state_facts}
use Rattle.iox_word_places.proofs.word_map.WordMap.state.Goals as goal

pub overflow_add-result : goal.overflow_add-result
overflow_add-result c = (let h = (state_facts c.args.self.now c.lane-base.ensures.plan c.lane-base.ensures.fits c.args.client c.args.server c.args.lane c.requires
    c.lane-base.result c.lane-base.ensures.place c.lane-base.ensures.within c.queues-queues.result (queues_are c.args.self.now.limits _ c.sizes.ensures Server _ c.queues-queues.ensures)).first in omega arith)

pub overflow_add-result-2 : goal.overflow_add-result-2
overflow_add-result-2 c = (let h = (state_facts c.args.self.now c.lane-base.ensures.plan c.lane-base.ensures.fits c.args.client c.args.server c.args.lane c.requires
    c.lane-base.result c.lane-base.ensures.place c.lane-base.ensures.within c.queues-queues.result (queues_are c.args.self.now.limits _ c.sizes.ensures Server _ c.queues-queues.ensures)).sum in omega arith)

pub returns : goal.returns
returns c = (state_facts c.args.self.now c.lane-base.ensures.plan c.lane-base.ensures.fits c.args.client c.args.server c.args.lane c.requires
    c.lane-base.result c.lane-base.ensures.place c.lane-base.ensures.within c.queues-queues.result (queues_are c.args.self.now.limits _ c.sizes.ensures Server _ c.queues-queues.ensures)).place
