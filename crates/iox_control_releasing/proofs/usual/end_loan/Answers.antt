use Rattle.std.proofs.Common.{sym}
use Rattle.iox_control.specs.Entries.{handle_state}
use Rattle.iox_control.proofs.HeldLemmas.{handle_holds}
use Rattle.iox_control_releasing.proofs.UsualEnds.{loan_ended}
use Rattle.iox_control_releasing.proofs.usual.end_loan.Goals as goal

pub remove-requires-clause-taken : goal.remove-requires-clause-taken
remove-requires-clause-taken c =
    handle_holds c.args.control.now.tables c.requires.order.order c.args.node c.args.number (handle_state c.in_ok-entry.entry) (sym c.in_ok-entry.ensures.found)

pub returns-clause-ended : goal.returns-clause-ended
returns-clause-ended c =
    loan_ended c.args.control.now c.requires.order.order c.args.node c.args.number c.in_ok-entry.entry c.in_ok-entry.ensures c.args.kind c.requires.loan
    (c.remove.ensures.kind c.if-not-remove.false) c.remove.new.control (c.remove.ensures.left c.if-not-remove.false)
