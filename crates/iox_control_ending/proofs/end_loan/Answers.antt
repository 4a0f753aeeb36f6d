use Rattle.std.proofs.Common.{◌<◌, refl, subst, sym, ◌∙◌}
use Rattle.std.proofs.lemmas.Option.{same_Some}
use Rattle.iox_tables.specs.HubStates.Tables.{slot_at}
use Rattle.iox_control.specs.Controls.{ControlState, IsControl}
use Rattle.iox_control.specs.Entries.{handle_state}
use Rattle.iox_control.proofs.HeldLemmas.{handle_holds}
use Rattle.iox_control_ending.proofs.Ended.{ends_loan, loan_end_keeps}
use Rattle.iox_control_ending.proofs.end_loan.Goals as goal

pub let_go_of-requires : goal.let_go_of-requires
let_go_of-requires c =
    subst (λ (d : ControlState). 0 < (slot_at d.tables.pools c.in-Some.entry.pool c.in-Some.entry.slot).holders) (sym (c.in-Some.ensures.dropped refl))
    (handle_holds c.args.control.now.tables c.requires.order.order c.args.node c.args.number (handle_state c.in-Some.entry) (sym c.in-Some.ensures.found))

pub returns-clause-order : goal.returns-clause-order
returns-clause-order c =
    subst IsControl
    (sym (ends_loan c.args.control.now c.remove_handle.new.self c.let_go_of.new.self c.args.node c.args.number c.requires.loan c.requires.loan.handle c.in-Some.entry
    (same_Some _ c.requires.loan.handle (c.in-Some.ensures.found ∙ c.requires.loan.named.there)) (c.in-Some.ensures.dropped refl) c.let_go_of.ensures.left))
    (loan_end_keeps c.args.control.now c.args.node c.args.number c.requires.loan c.requires.order)
