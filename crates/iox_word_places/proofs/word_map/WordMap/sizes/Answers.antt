use Rattle.std.proofs.Common.{subst}
use Rattle.iox_word_places.specs.declared.plan.WirePlan.{WirePlan}
use Rattle.iox_word_places.specs.MapFields.{AreWaySizes}
use Rattle.iox_word_places.proofs.word_map.WordMap.sizes.Goals as goal

pub returns : goal.returns
returns c = (let P : WirePlan → Type 0 = λ p. AreWaySizes p.limits c.self.inside.sizes in subst P c.self.view_is c.self.invariant.sizes)
