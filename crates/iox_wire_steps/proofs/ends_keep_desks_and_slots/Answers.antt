use Rattle.iox_wire_steps.proofs.EndLaws.{ends_keep_loans, ends_keep_slots}
use Rattle.iox_wire_steps.proofs.ends_keep_desks_and_slots.Goals as goal

pub returns-clause-loans : goal.returns-clause-loans
returns-clause-loans c = ends_keep_loans

pub returns-clause-slots : goal.returns-clause-slots
returns-clause-slots c = ends_keep_slots
