use Rattle.std.proofs.Common.{false, sym, ap, ◌∙◌}
use Rattle.std.specs.Option.{option_map_or}
use Rattle.iox_model.specs.Messages.{response_way}
use Rattle.iox_model.specs.Settings.{is_client}
use Rattle.iox_hub_ports.specs.declared.info.PortInfo.{PortInfo}
use Rattle.iox_hub_ports.specs.Ports.{info_in, state_of_way}
use Rattle.iox_control_questions.proofs.NamedLemmas.{by_client, not_by_client}
use Rattle.iox_control_questions.proofs.naming.is_named_by_its_client.Goals as goal

pub returns-in_default : goal.returns-in_default
returns-in_default c =
    not_by_client c.args.control.now.tables c.args.entry c.args.hinted c.requires.order.order
    (ap (λ o. option_map_or (λ (i : PortInfo). is_client i.role) o false) (sym (c.in_default.ensures ∙ ap (λ ps. info_in ps c.args.entry.client) c.ports.ensures.ports)))

pub returns-in-Client : goal.returns-in-Client
returns-in-Client c =
    by_client c.args.control.now.tables c.args.entry c.args.hinted c.is_name.result c.label-label.result c.state.result c.requires.order.order
    (ap (λ o. option_map_or (λ (i : PortInfo). is_client i.role) o false) (sym (c.in-Some.ensures ∙ ap (λ ps. info_in ps c.args.entry.client) c.ports.ensures.ports)) ∙ ap is_client c.in-Client.is)
    c.label-label.ensures
    (c.state.ensures ∙ ap (λ ps. state_of_way ps (response_way c.args.entry.client c.label-label.result.lane c.args.entry.port)) c.ports-in-Client.ensures.ports)
    c.is_name.ensures

pub returns-in-Server : goal.returns-in-Server
returns-in-Server c =
    not_by_client c.args.control.now.tables c.args.entry c.args.hinted c.requires.order.order
    (ap (λ o. option_map_or (λ (i : PortInfo). is_client i.role) o false) (sym (c.in-Some.ensures ∙ ap (λ ps. info_in ps c.args.entry.client) c.ports.ensures.ports)) ∙ ap is_client c.in-Server.is)
