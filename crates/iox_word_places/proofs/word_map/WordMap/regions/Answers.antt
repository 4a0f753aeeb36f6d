use Rattle.std.proofs.Common.{◌<◌, ◌^◌, ap, subst, length, ◌∙◌}
use Rattle.iox_word_map.specs.WordMaps.{total_words}
use Rattle.iox_word_places.specs.declared.plan.WirePlan.{WirePlan}
use Rattle.iox_word_places.specs.Plans.{IsPlan, sizes_of}
use Rattle.iox_word_places.specs.PortSums.{regions_before}
use Rattle.iox_word_places.proofs.word_map.WordMap.regions.Goals as goal

pub returns-clause-value : goal.returns-clause-value
returns-clause-value c = c.self.invariant.regions ∙ ap (λ p. regions_before p (length p.ports.items)) c.self.view_is

pub returns-clause-plan : goal.returns-clause-plan
returns-clause-plan c = (let P : WirePlan → Type 0 = λ p. IsPlan p in subst P c.self.view_is c.self.invariant.plan)

pub returns-clause-fits : goal.returns-clause-fits
returns-clause-fits c = (let P : WirePlan → Type 0 = λ p. total_words (sizes_of p) < 2 ^ 64 in subst P c.self.view_is c.self.invariant.fits)
