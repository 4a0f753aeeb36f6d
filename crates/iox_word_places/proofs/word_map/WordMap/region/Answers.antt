use Rattle.std.proofs.Common.{ap, sym, ◌∙◌}
use Rattle.iox_word_places.proofs.PlanLemmas.{region_place}
use Rattle.iox_word_places.proofs.word_map.WordMap.region.Goals as goal

pub returns : goal.returns
returns c = ap (λ q. q.region) c.before-before.ensures.value ∙ sym (region_place c.args.self.now c.before-before.ensures.plan.numbers c.args.port c.requires)
