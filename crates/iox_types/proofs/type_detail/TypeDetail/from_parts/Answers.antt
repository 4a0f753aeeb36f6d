use Rattle.std.proofs.Common.{sym, ◌∙◌}
use Rattle.iox_types.proofs.PowerLemmas.{IsPowerOfTwo-test}
use Rattle.iox_types.proofs.type_detail.TypeDetail.from_parts.Goals as goal

pub invariant_of-result : goal.invariant_of-result
invariant_of-result c = IsPowerOfTwo-test c.args.alignment (sym c.is_power_of_two.ensures ∙ c.if-not-is_power_of_two.false)
