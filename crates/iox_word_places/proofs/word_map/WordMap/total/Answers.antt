use Rattle.std.proofs.Common.{ap, ◌∙◌}
use Rattle.iox_word_map.specs.WordMaps.{total_words}
use Rattle.iox_word_places.specs.Plans.{sizes_of}
use Rattle.iox_word_places.proofs.word_map.WordMap.total.Goals as goal

pub returns : goal.returns
returns c = c.self.invariant.total ∙ ap (λ p. total_words (sizes_of p)) c.self.view_is
