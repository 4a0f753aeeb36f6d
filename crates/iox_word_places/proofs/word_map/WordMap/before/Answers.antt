use Rattle.std.proofs.Common.{◌<◌, ◌^◌, subst}
use Rattle.iox_word_map.specs.WordMaps.{total_words}
use Rattle.iox_word_places.specs.declared.plan.WirePlan.{WirePlan}
use Rattle.iox_word_places.specs.Plans.{sizes_of}
use Rattle.iox_word_places.proofs.word_map.WordMap.before.Goals as goal

pub returns-clause-fits : goal.returns-clause-fits
returns-clause-fits c = (let P : WirePlan → Type 0 = λ p. total_words (sizes_of p) < 2 ^ 64 in subst P c.self.view_is c.self.invariant.fits)
