use Rattle.std.proofs.Common.{ap, ◌∙◌}
use Rattle.iox_types.specs.Layouts.{as_usize}
use Rattle.iox_word_places.specs.Plans.{most_ways}
use Rattle.iox_word_places.proofs.word_map.WordMap.most_ways.Goals as goal

pub returns : goal.returns
returns c = c.self.invariant.ways ∙ ap (λ p. as_usize (most_ways p)) c.self.view_is
