use Rattle.std.proofs.Common.{subst, sym}
use Rattle.iox_tables.specs.HubStates.Tables.{HandleState}
use Rattle.iox_control.specs.Controls.{ControlState}
use Rattle.iox_control_request_copies.specs.SentLoans.{IsSent, MayBeSent, lent_handle}
use Rattle.iox_control_request_copies.proofs.sending.send_lent.Goals as goal

pub send_usual-requires : goal.send_usual-requires
send_usual-requires c = subst (λ (h : HandleState). MayBeSent c.args.control.now h) (sym c.lent_entry-entry.ensures) c.requires

pub returns-then-send_usual : goal.returns-then-send_usual
returns-then-send_usual c =
    subst (λ (h : HandleState). IsSent c.args.control.now h c.args.overflow 1 c.send_usual.new.control) c.lent_entry-entry.ensures c.if-send_usual.ensures.sent

pub send_others-requires : goal.send_others-requires
send_others-requires c =
    subst (λ (h : HandleState). MayBeSent c.send_usual.new.control h) (sym c.lent_entry-other.ensures)
    (subst (λ (d : ControlState). MayBeSent d (lent_handle c.args.node c.args.client c.args.loaned)) (sym c.if-send_usual.ensures.unchanged) c.requires)

pub returns : goal.returns
returns c =
    subst (λ (d : ControlState). IsSent d (lent_handle c.args.node c.args.client c.args.loaned) c.args.overflow c.send_others.result c.send_others.new.control)
    c.if-send_usual.ensures.unchanged
    (subst (λ (h : HandleState). IsSent c.send_usual.new.control h c.args.overflow c.send_others.result c.send_others.new.control) c.lent_entry-other.ensures c.send_others.ensures)
