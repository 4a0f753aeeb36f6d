use Rattle.std.proofs.Common.{false, if◌then◌else◌, ap, ◌∙◌}
use Rattle.std.proofs.lemmas.Option.{same_Some}
use Rattle.iox_tables.specs.HubStates.Tables.{HandleState}
use Rattle.iox_tables.specs.HubLoans.Questions.{is_named, is_named_by_client, is_named_by_server}
use Rattle.iox_control.specs.Entries.{handle_state}
use Rattle.iox_control_questions.proofs.ToldLemmas.{connection_told}
use Rattle.iox_control_questions.proofs.connected.is_connected.Goals as goal

pub returns-then-is_pending-clause-whole : goal.returns-then-is_pending-clause-whole
returns-then-is_pending-clause-whole c x =
    connection_told x c.args.control.now.tables c.args.node c.args.number c.requires.handle.0 c.is_named_by_some_server.result c.requires.order.order c.requires.handle.1 c.requires.handle.2
    (c.is_named_by_some_server.ensures
    ∙ ap (λ b. if b then is_named_by_server c.args.control.now.tables (handle_state c.in-Some.entry) false else is_named_by_client c.args.control.now.tables (handle_state c.in-Some.entry) false) c.if-is_pending.ensures
    ∙ ap (λ (h : HandleState). is_named c.args.control.now.tables h false) (same_Some _ c.requires.handle.0 (c.in-Some.ensures ∙ c.requires.handle.1.there)))

pub returns-clause-whole : goal.returns-clause-whole
returns-clause-whole c x =
    connection_told x c.args.control.now.tables c.args.node c.args.number c.requires.handle.0 c.is_named_by_its_client.result c.requires.order.order c.requires.handle.1 c.requires.handle.2
    (c.is_named_by_its_client.ensures
    ∙ ap (λ b. if b then is_named_by_server c.args.control.now.tables (handle_state c.in-Some.entry) false else is_named_by_client c.args.control.now.tables (handle_state c.in-Some.entry) false) c.if-is_pending.ensures
    ∙ ap (λ (h : HandleState). is_named c.args.control.now.tables h false) (same_Some _ c.requires.handle.0 (c.in-Some.ensures ∙ c.requires.handle.1.there)))
