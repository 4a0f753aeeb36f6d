use Rattle.iox_attributes.proofs.CountLemmas.{item-there}
use Rattle.iox_attributes.proofs.laws.values_are_there_below_their_number.Goals as goal

pub returns : goal.returns
returns c = item-there
