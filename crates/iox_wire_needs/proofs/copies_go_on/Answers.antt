use Rattle.iox_wire_needs.proofs.Copying.{begun_copies_go_on, stepped_copies_go_on}
use Rattle.iox_wire_needs.proofs.copies_go_on.Goals as goal

pub returns-clause-begins : goal.returns-clause-begins
returns-clause-begins c = begun_copies_go_on

pub returns-clause-steps : goal.returns-clause-steps
returns-clause-steps c = stepped_copies_go_on
