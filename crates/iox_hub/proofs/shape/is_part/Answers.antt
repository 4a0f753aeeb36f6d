use Rattle.std.proofs.Common.{sym, ◌∙◌}
use Rattle.iox_types.proofs.PowerLemmas.{IsPowerOfTwo-test}
use Rattle.iox_hub.proofs.Shaping.{power_is_told}
use Rattle.iox_hub.proofs.shape.is_part.Goals as goal

pub returns : goal.returns
returns c = (
  λ told. IsPowerOfTwo-test c.args.part.alignment (sym c.is_power_of_two.ensures ∙ told),
  λ power. c.is_power_of_two.ensures ∙ power_is_told c.args.part.alignment power,
)
