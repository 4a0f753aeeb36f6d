use Rattle.std.proofs.Common.{sym, subst, ◌∙◌}
use Rattle.std.proofs.lemmas.Option.{same_Some}
use Rattle.iox_model.specs.declared.call.Call.TheVariants.{SetHint}
use Rattle.iox_model.specs.declared.reply.Reply.TheVariants.{Done}
use Rattle.iox_model.specs.WholeCalls.{IsWholeCall}
use Rattle.iox_hub_ports.specs.HubStates.States.{state_shown}
use Rattle.iox_control.specs.Controls.{ControlState}
use Rattle.iox_control.proofs.HintKept.{hint_is, hint_is_whole, hint_keeps}
use Rattle.iox_control.proofs.PendingLemmas.{same_handle}
use Rattle.iox_control.proofs.control.Control.set_hint.Goals as goal

pub returns-clause-left : goal.returns-clause-left
returns-clause-left c h there =
    hint_is c.args.self.now c.hint_all.new.self h c.in-Some.entry c.label-label.result (same_Some _ h (c.in-Some.ensures ∙ there)) c.label-label.ensures c.hint_all.ensures

pub returns-clause-order : goal.returns-clause-order
returns-clause-order c =
    hint_keeps c.args.self.now c.hint_all.new.self c.in-Some.entry.port c.label-label.result c.requires.order c.hint_all.ensures

pub returns-clause-whole : goal.returns-clause-whole
returns-clause-whole c x =
    subst (λ (d : ControlState). IsWholeCall (state_shown x c.args.self.now.tables) c.args.node (SetHint c.args.number) Done (state_shown x d.tables))
    (sym (hint_is c.args.self.now c.hint_all.new.self c.requires.pending.handle c.in-Some.entry c.label-label.result
    (same_handle c.args.self.now.tables c.args.node c.args.number c.requires.pending c.in-Some.entry c.in-Some.ensures) c.label-label.ensures c.hint_all.ensures))
    (hint_is_whole x c.args.self.now.tables c.args.node c.args.number c.requires.pending)
