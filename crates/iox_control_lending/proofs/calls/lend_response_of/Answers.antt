use Rattle.std.proofs.Common.{Some, ap, sym, ◌∙◌}
use Rattle.std.proofs.lemmas.Option.{same_Some}
use Rattle.iox_tables.specs.HubStates.Tables.{PortState}
use Rattle.iox_hub_ports.specs.declared.info.PortInfo.{PortInfo}
use Rattle.iox_control.specs.Entries.{handle_state}
use Rattle.iox_control.proofs.HeldLemmas.{handle_has_slot}
use Rattle.iox_control_lending.proofs.LenderLemmas.{active_whole}
use Rattle.iox_control_lending.proofs.PortLemmas.{not_client, port_at, port_found, response_lent, role_is}
use Rattle.iox_control_lending.proofs.calls.lend_response_of.Goals as goal

pub known_as-port-requires : goal.known_as-port-requires
known_as-port-requires c =
    role_is c.args.control.now.tables.ports c.args.entry.port c.args.port _ c.requires.said
    (λ p at. ap (λ (q : PortState). q.role)
    (same_Some p c.requires.active.port
    (sym at ∙ port_at c.args.control.now.tables c.args.node c.args.number c.args.entry c.requires.entry c.requires.active.handle c.requires.active.named.there c.requires.active.port c.requires.active.there))
    ∙ c.requires.active.server)

pub label_of-label-requires : goal.label_of-label-requires
label_of-label-requires c =
    handle_has_slot c.args.control.now.tables c.requires.order.order c.args.node c.args.number (handle_state c.args.entry) (sym c.requires.entry)

pub lend-requires-clause-port : goal.lend-requires-clause-port
lend-requires-clause-port c =
    port_found c.args.control.now.tables c.args.entry.port c.known_as-port.result c.requires.active.port c.requires.order.order
    (port_at c.args.control.now.tables c.args.node c.args.number c.args.entry c.requires.entry c.requires.active.handle c.requires.active.named.there c.requires.active.port c.requires.active.there)
    (ap (λ (i : PortInfo). Some i) c.known_as-port.ensures ∙ c.requires.said) _ _ _

pub lend-requires-clause-request : goal.lend-requires-clause-request
lend-requires-clause-request c client =
    absurd (not_client c.known_as-port.result.role (ap (λ (i : PortInfo). i.role) c.known_as-port.ensures ∙ role_is c.args.control.now.tables.ports c.args.entry.port c.args.port _ c.requires.said
    (λ p at. ap (λ (q : PortState). q.role)
    (same_Some p c.requires.active.port
    (sym at ∙ port_at c.args.control.now.tables c.args.node c.args.number c.args.entry c.requires.entry c.requires.active.handle c.requires.active.named.there c.requires.active.port c.requires.active.there))
    ∙ c.requires.active.server)) client)

pub returns-clause-left : goal.returns-clause-left
returns-clause-left c =
    response_lent c.args.control.now c.lend.new.control c.args.node c.args.number c.args.entry c.known_as-port.result c.label_of-label.result c.args.asked c.lend.result c.requires.order.order
    c.requires.entry (ap (λ (i : PortInfo). Some i) c.known_as-port.ensures ∙ c.requires.said) c.label_of-label.ensures c.lend.ensures.left

pub returns-clause-whole : goal.returns-clause-whole
returns-clause-whole c x asked =
    active_whole x c.args.control.now c.args.node c.args.number c.args.asked c.requires.order.order c.requires.active c.lend.new.control c.lend.result
    (response_lent c.args.control.now c.lend.new.control c.args.node c.args.number c.args.entry c.known_as-port.result c.label_of-label.result c.args.asked c.lend.result c.requires.order.order
    c.requires.entry (ap (λ (i : PortInfo). Some i) c.known_as-port.ensures ∙ c.requires.said) c.label_of-label.ensures c.lend.ensures.left
    c.requires.active.handle c.requires.active.port c.requires.active.named.there c.requires.active.there) asked
