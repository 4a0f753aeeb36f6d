use Rattle.iox_wire_steps.proofs.EndLaws.{added_entries_fit}
use Rattle.iox_wire_steps.proofs.added_entries_fit.Goals as goal

pub returns : goal.returns
returns c = added_entries_fit
