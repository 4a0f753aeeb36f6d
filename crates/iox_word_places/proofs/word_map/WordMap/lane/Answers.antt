use Rattle.std.proofs.Common.{arith}
use Rattle.iox_word_places.proofs.PairLemmas.{lane_facts, client_of_lane}
use Rattle.iox_word_places.proofs.word_map.WordMap.lane.Goals as goal

pub pair-pair-requires-clause-client : goal.pair-pair-requires-clause-client
pair-pair-requires-clause-client c = client_of_lane c.args.self.now c.args.client c.args.lane c.requires.lane

pub overflow_add-result : goal.overflow_add-result
overflow_add-result c = (let h = (lane_facts c.args.self.now c.pair-pair.ensures.plan c.pair-pair.ensures.fits c.args.client c.args.server c.args.lane c.requires.lane c.requires.server
    c.pair-pair.result c.pair-pair.ensures.place c.pair-pair.ensures.within c.sizes-sizes.result.now c.sizes-sizes.ensures).first in omega arith)

pub overflow_mul-result : goal.overflow_mul-result
overflow_mul-result c = (let h = (lane_facts c.args.self.now c.pair-pair.ensures.plan c.pair-pair.ensures.fits c.args.client c.args.server c.args.lane c.requires.lane c.requires.server
    c.pair-pair.result c.pair-pair.ensures.place c.pair-pair.ensures.within c.sizes-sizes.result.now c.sizes-sizes.ensures).product in omega arith)

pub overflow_add-result-2 : goal.overflow_add-result-2
overflow_add-result-2 c = (let h = (lane_facts c.args.self.now c.pair-pair.ensures.plan c.pair-pair.ensures.fits c.args.client c.args.server c.args.lane c.requires.lane c.requires.server
    c.pair-pair.result c.pair-pair.ensures.place c.pair-pair.ensures.within c.sizes-sizes.result.now c.sizes-sizes.ensures).sum in omega arith)

pub returns-clause-place : goal.returns-clause-place
returns-clause-place c = (lane_facts c.args.self.now c.pair-pair.ensures.plan c.pair-pair.ensures.fits c.args.client c.args.server c.args.lane c.requires.lane c.requires.server
    c.pair-pair.result c.pair-pair.ensures.place c.pair-pair.ensures.within c.sizes-sizes.result.now c.sizes-sizes.ensures).place

pub returns-clause-within : goal.returns-clause-within
returns-clause-within c = (lane_facts c.args.self.now c.pair-pair.ensures.plan c.pair-pair.ensures.fits c.args.client c.args.server c.args.lane c.requires.lane c.requires.server
    c.pair-pair.result c.pair-pair.ensures.place c.pair-pair.ensures.within c.sizes-sizes.result.now c.sizes-sizes.ensures).within
