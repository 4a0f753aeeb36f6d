use Rattle.std.specs.Prelude.{◌≡◌}
use Rattle.iox_hub.specs.Making.{StaysAs}
use Rattle.iox_tables.specs.HubStates.States.{Given}
use Rattle.iox_port_commands.proofs.Calling.{on_err, same_stays}
use Rattle.iox_port_commands.proofs.applying.dispatch.Goals as goal

pub returns-in-Client-clause-whole : goal.returns-in-Client-clause-whole
returns-in-Client-clause-whole g c = rw c.in-Client.is c.make.ensures.whole

pub returns-in-Server-clause-whole : goal.returns-in-Server-clause-whole
returns-in-Server-clause-whole g c = rw c.in-Server.is c.make-in-Server.ensures.whole

pub returns-in-Client-clause-wanting : goal.returns-in-Client-clause-wanting
returns-in-Client-clause-wanting g c = rw c.in-Client.is c.make.ensures.wanting

pub returns-in-Server-clause-wanting : goal.returns-in-Server-clause-wanting
returns-in-Server-clause-wanting g c = rw c.in-Server.is c.make-in-Server.ensures.wanting

pub returns-in-Read-clause-wanting : goal.returns-in-Read-clause-wanting
returns-in-Read-clause-wanting g c = rw c.in-Read.is c.read.ensures.wanting

pub returns-in-Loan-clause-wanting : goal.returns-in-Loan-clause-wanting
returns-in-Loan-clause-wanting g c = rw c.in-Loan.is c.loan.ensures.wanting

pub returns-in-Loan-clause-unchanged : goal.returns-in-Loan-clause-unchanged
returns-in-Loan-clause-unchanged g c =
    on_err c.loan.result (c.loan.new.hub ≡ c.args.hub.now) (StaysAs c.args.hub.now c.loan.new.hub) (same_stays c.args.hub.now c.loan.new.hub) c.loan.ensures.unchanged

pub returns-in-SendCopy-clause-wanting : goal.returns-in-SendCopy-clause-wanting
returns-in-SendCopy-clause-wanting g c = rw c.in-SendCopy.is c.send_copy.ensures.wanting

pub returns-in-SendCopy-clause-unchanged : goal.returns-in-SendCopy-clause-unchanged
returns-in-SendCopy-clause-unchanged g c =
    on_err c.send_copy.result (c.send_copy.new.hub ≡ c.args.hub.now) (StaysAs c.args.hub.now c.send_copy.new.hub) (same_stays c.args.hub.now c.send_copy.new.hub) c.send_copy.ensures.unchanged

pub returns-in-Loan-clause-grows : goal.returns-in-Loan-clause-grows
returns-in-Loan-clause-grows g c = rw c.in-Loan.is c.loan.ensures.grows

pub returns-in-SendCopy-clause-grows : goal.returns-in-SendCopy-clause-grows
returns-in-SendCopy-clause-grows g c = rw c.in-SendCopy.is c.send_copy.ensures.grows

pub returns-in-Client-clause-grows : goal.returns-in-Client-clause-grows
returns-in-Client-clause-grows g c = rw c.in-Client.is (on_err c.make.result _ ((x : Given) → Unit {0}) (λ e x. tt) c.make.ensures.unchanged)

pub returns-in-Server-clause-grows : goal.returns-in-Server-clause-grows
returns-in-Server-clause-grows g c = rw c.in-Server.is (on_err c.make-in-Server.result _ ((x : Given) → Unit {0}) (λ e x. tt) c.make-in-Server.ensures.unchanged)

pub returns-in-Read-clause-grows : goal.returns-in-Read-clause-grows
returns-in-Read-clause-grows g c = rw c.in-Read.is (on_err c.read.result _ ((x : Given) → Unit {0}) (λ e x. tt) c.read.ensures.wanting)
