use Rattle.std.proofs.Common.{Some, ap, sym, ◌∙◌}
use Rattle.std.proofs.lemmas.Option.{same_Some}
use Rattle.iox_tables.specs.HubStates.Tables.{PortState}
use Rattle.iox_hub_ports.specs.declared.info.PortInfo.{PortInfo}
use Rattle.iox_control_lending.proofs.LenderLemmas.{client_whole}
use Rattle.iox_control_lending.proofs.PortLemmas.{port_found, request_lent, role_is}
use Rattle.iox_control_lending.proofs.calls.lend_request_of.Goals as goal

pub known_as-port-requires : goal.known_as-port-requires
known_as-port-requires c =
    role_is c.args.control.now.tables.ports c.args.client c.args.port _ c.requires.said
    (λ p at. ap (λ (q : PortState). q.role) (same_Some p c.requires.client.port (sym at ∙ c.requires.client.there)) ∙ c.requires.client.client)

pub lend-requires-clause-port : goal.lend-requires-clause-port
lend-requires-clause-port c =
    port_found c.args.control.now.tables c.args.client c.known_as-port.result c.requires.client.port c.requires.order.order c.requires.client.there
    (ap (λ (i : PortInfo). Some i) c.known_as-port.ensures ∙ c.requires.said) _ _ _

pub returns-clause-left : goal.returns-clause-left
returns-clause-left c =
    request_lent c.args.control.now c.lend.new.control c.args.client c.known_as-port.result c.args.asked c.lend.result c.requires.order.order
    (ap (λ (i : PortInfo). Some i) c.known_as-port.ensures ∙ c.requires.said) c.lend.ensures.left

pub returns-clause-whole : goal.returns-clause-whole
returns-clause-whole c x asked =
    client_whole x c.args.control.now c.args.node c.args.client c.args.asked c.requires.order.order c.requires.client c.lend.new.control c.lend.result
    (request_lent c.args.control.now c.lend.new.control c.args.client c.known_as-port.result c.args.asked c.lend.result c.requires.order.order
    (ap (λ (i : PortInfo). Some i) c.known_as-port.ensures ∙ c.requires.said) c.lend.ensures.left c.requires.client.port c.requires.client.there) asked
