use Rattle.std.specs.Prelude.{List}
use Rattle.std.proofs.Common.{ap, ◌∙◌}
use Rattle.iox_model.specs.Settings.{fails_by_strategy}
use Rattle.iox_tables.specs.HubStates.Tables.{PortState}
use Rattle.iox_hub_ports.specs.Ports.{info_in}
use Rattle.iox_control_responses.proofs.Strategies.{by_strategy, no_port_fails}
use Rattle.iox_control_responses.proofs.failing.fails_when_full.Goals as goal

pub returns-in_default : goal.returns-in_default
returns-in_default c x plain w from =
    no_port_fails x c.args.control.now.tables c.args.port plain w from c.find.result
    (c.find.ensures ∙ ap (λ (ps : List PortState). info_in ps c.args.port) c.ports.ensures.ports) c.in_default.is

pub returns-in-DiscardData : goal.returns-in-DiscardData
returns-in-DiscardData c x plain w from =
    by_strategy x c.args.control.now.tables c.args.port plain w from c.find.result c.in-Some.info
    (c.find.ensures ∙ ap (λ (ps : List PortState). info_in ps c.args.port) c.ports.ensures.ports) c.in-Some.is
    ∙ ap fails_by_strategy c.in-DiscardData.is

pub returns-in-RetryUntilDelivered : goal.returns-in-RetryUntilDelivered
returns-in-RetryUntilDelivered c x plain w from =
    by_strategy x c.args.control.now.tables c.args.port plain w from c.find.result c.in-Some.info
    (c.find.ensures ∙ ap (λ (ps : List PortState). info_in ps c.args.port) c.ports.ensures.ports) c.in-Some.is
    ∙ ap fails_by_strategy c.in-RetryUntilDelivered.is
