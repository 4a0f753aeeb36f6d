use Rattle.std.proofs.Common.{◌∙◌}
use Rattle.iox_hub.proofs.CleaningLemmas.{some_first}
use Rattle.iox_hub.proofs.hub.Hub.has_values.Goals as goal

pub returns : goal.returns
returns g c x = c.is_some.ensures ∙ some_first c.first_number.result _ (c.first_number.ensures.first x)
