use Rattle.iox_wire_laws.proofs.WireRegions.QuestionBegins.{questions_begin_as_owners}
use Rattle.iox_wire_laws.proofs.WireRegions.OwnedBegins.{copies_are_owned, loans_begin_as_owners, writes_and_reads_begin_as_owners}
use Rattle.iox_wire_laws.proofs.WireRegions.ReceiveBegins.{layouts_stay_fit, receives_begin_as_owners, sends_begin_as_owners, worked_layout_fits}
use Rattle.iox_wire_laws.proofs.wire_regions.calls_begin_as_owners.Goals as goal

pub returns-clause-copies : goal.returns-clause-copies
returns-clause-copies c = copies_are_owned

pub returns-clause-loans : goal.returns-clause-loans
returns-clause-loans c = loans_begin_as_owners

pub returns-clause-words : goal.returns-clause-words
returns-clause-words c = writes_and_reads_begin_as_owners

pub returns-clause-sends : goal.returns-clause-sends
returns-clause-sends c = sends_begin_as_owners

pub returns-clause-receives : goal.returns-clause-receives
returns-clause-receives c = receives_begin_as_owners

pub returns-clause-layouts : goal.returns-clause-layouts
returns-clause-layouts c = layouts_stay_fit

pub returns-clause-worked : goal.returns-clause-worked
returns-clause-worked c = worked_layout_fits

pub returns-clause-questions : goal.returns-clause-questions
returns-clause-questions c = questions_begin_as_owners
