use Rattle.std.proofs.Common.{refl}
use Rattle.iox_attributes.proofs.ValueLemmas.{length-values}
use Rattle.iox_attributes.proofs.attribute_set.AttributeSet.number_of_key_values.Goals as goal

pub returns : goal.returns
returns c = rw (c.count_values.ensures, c.as_slice.ensures.value, length-values c.args.key.now c.args.self.now) refl
