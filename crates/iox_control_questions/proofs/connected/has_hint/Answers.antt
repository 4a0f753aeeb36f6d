use Rattle.std.proofs.Common.{true, ap, ◌∙◌}
use Rattle.std.proofs.lemmas.Option.{same_Some}
use Rattle.iox_tables.specs.HubStates.Tables.{HandleState}
use Rattle.iox_tables.specs.HubLoans.Questions.{is_named_by_client}
use Rattle.iox_control_questions.proofs.ToldLemmas.{hint_told}
use Rattle.iox_control_questions.proofs.connected.has_hint.Goals as goal

pub returns-clause-whole : goal.returns-clause-whole
returns-clause-whole c x =
    hint_told x c.args.control.now.tables c.args.node c.args.number c.requires.handle.0 c.is_named_by_its_client.result c.requires.handle.1 c.requires.handle.2
    (c.is_named_by_its_client.ensures
    ∙ ap (λ (h : HandleState). is_named_by_client c.args.control.now.tables h true) (same_Some _ c.requires.handle.0 (c.in-Some.ensures ∙ c.requires.handle.1.there)))
