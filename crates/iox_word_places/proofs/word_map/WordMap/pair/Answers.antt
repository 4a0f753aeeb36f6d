use Rattle.std.proofs.Common.{arith, refl}
use Rattle.iox_model.specs.declared.kind.Role.TheVariants.{Client, Server}
use Rattle.iox_word_places.specs.declared.plan.PlanPort.{PlanPort}
use Rattle.iox_word_places.specs.MapFields.{places_before}
use Rattle.iox_word_places.proofs.PairLemmas.{pair_facts, index_there}
use Rattle.std.proofs.Common.{◌≡◌}
use Rattle.iox_word_places.proofs.word_map.WordMap.pair.Goals as goal

pub port-at-requires : goal.port-at-requires
port-at-requires c = index_there PlanPort (λ p. p.role ≡ Client) c.args.self.now.ports.items c.args.client c.requires.client

pub before-there-requires : goal.before-there-requires
before-there-requires c = index_there PlanPort (λ p. p.role ≡ Server) c.args.self.now.ports.items c.args.server c.requires.server

pub overflow_mul-pair : goal.overflow_mul-pair
overflow_mul-pair c = (let h = (pair_facts c.args.self.now c.regions-regions.ensures.plan c.regions-regions.ensures.fits c.args.client c.args.server c.requires.client c.requires.server
    c.port-at.result c.port-at.ensures c.sizes-sizes.result.now c.sizes-sizes.ensures c.regions-regions.result c.regions-regions.ensures.value
    (places_before c.args.self.now c.args.client) refl (places_before c.args.self.now c.args.server) refl).lanes in omega arith)

pub overflow_add-pair : goal.overflow_add-pair
overflow_add-pair c = (let h = (pair_facts c.args.self.now c.regions-regions.ensures.plan c.regions-regions.ensures.fits c.args.client c.args.server c.requires.client c.requires.server
    c.port-at.result c.port-at.ensures c.sizes-sizes.result.now c.sizes-sizes.ensures c.regions-regions.result c.regions-regions.ensures.value
    (places_before c.args.self.now c.args.client) refl (places_before c.args.self.now c.args.server) refl).size in omega arith)

pub overflow_add-result : goal.overflow_add-result
overflow_add-result c = (let h = (pair_facts c.args.self.now c.regions-regions.ensures.plan c.regions-regions.ensures.fits c.args.client c.args.server c.requires.client c.requires.server
    c.port-at.result c.port-at.ensures c.sizes-sizes.result.now c.sizes-sizes.ensures c.regions-regions.result c.regions-regions.ensures.value
    c.before-here.result c.before-here.ensures.value c.before-there.result c.before-there.ensures.value).first in omega arith)

pub overflow_mul-result : goal.overflow_mul-result
overflow_mul-result c = (let h = (pair_facts c.args.self.now c.regions-regions.ensures.plan c.regions-regions.ensures.fits c.args.client c.args.server c.requires.client c.requires.server
    c.port-at.result c.port-at.ensures c.sizes-sizes.result.now c.sizes-sizes.ensures c.regions-regions.result c.regions-regions.ensures.value
    c.before-here.result c.before-here.ensures.value c.before-there.result c.before-there.ensures.value).product in omega arith)

pub overflow_add-result-2 : goal.overflow_add-result-2
overflow_add-result-2 c = (let h = (pair_facts c.args.self.now c.regions-regions.ensures.plan c.regions-regions.ensures.fits c.args.client c.args.server c.requires.client c.requires.server
    c.port-at.result c.port-at.ensures c.sizes-sizes.result.now c.sizes-sizes.ensures c.regions-regions.result c.regions-regions.ensures.value
    c.before-here.result c.before-here.ensures.value c.before-there.result c.before-there.ensures.value).sum in omega arith)

pub returns-clause-place : goal.returns-clause-place
returns-clause-place c = (pair_facts c.args.self.now c.regions-regions.ensures.plan c.regions-regions.ensures.fits c.args.client c.args.server c.requires.client c.requires.server
    c.port-at.result c.port-at.ensures c.sizes-sizes.result.now c.sizes-sizes.ensures c.regions-regions.result c.regions-regions.ensures.value
    c.before-here.result c.before-here.ensures.value c.before-there.result c.before-there.ensures.value).place

pub returns-clause-within : goal.returns-clause-within
returns-clause-within c = (pair_facts c.args.self.now c.regions-regions.ensures.plan c.regions-regions.ensures.fits c.args.client c.args.server c.requires.client c.requires.server
    c.port-at.result c.port-at.ensures c.sizes-sizes.result.now c.sizes-sizes.ensures c.regions-regions.result c.regions-regions.ensures.value
    c.before-here.result c.before-here.ensures.value c.before-there.result c.before-there.ensures.value).within

pub returns-clause-fits : goal.returns-clause-fits
returns-clause-fits c = c.regions-regions.ensures.fits
