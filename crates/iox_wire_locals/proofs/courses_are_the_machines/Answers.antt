use Rattle.iox_wire_locals.proofs.CourseProofs.{sends_go_on, sends_begin, loans_go_on, receives_go_on, releases_go_on, looks_go_on}
use Rattle.iox_wire_locals.proofs.courses_are_the_machines.Goals as goal

pub returns-clause-sends : goal.returns-clause-sends
returns-clause-sends c = sends_go_on

pub returns-clause-sends_begin : goal.returns-clause-sends_begin
returns-clause-sends_begin c = sends_begin

pub returns-clause-loans : goal.returns-clause-loans
returns-clause-loans c = loans_go_on

pub returns-clause-receives : goal.returns-clause-receives
returns-clause-receives c = receives_go_on

pub returns-clause-releases : goal.returns-clause-releases
returns-clause-releases c = releases_go_on

pub returns-clause-looks : goal.returns-clause-looks
returns-clause-looks c = looks_go_on
