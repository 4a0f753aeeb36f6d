use Rattle.std.specs.Prelude.{List}
use Rattle.std.proofs.Common.{ap, sym, ◌∙◌}
use Rattle.iox_tables.specs.HubStates.Tables.{PortState}
use Rattle.iox_hub_ports.specs.Ports.{info_at, place_in}
use Rattle.iox_control_copies.proofs.Places.{said_there}
use Rattle.iox_control_request_copies.proofs.LoanLemmas.{may_be_sent, sent_so, waits_so}
use Rattle.iox_control_request_copies.proofs.sending.lend_and_send.Goals as goal

pub lend_request_of-requires-clause-said : goal.lend_request_of-requires-clause-said
lend_request_of-requires-clause-said c =
    said_there c.args.control.now.tables.ports c.args.client c.known_place-at.result c.known_at-port.result
    (ap (λ (ps : List PortState). place_in ps c.args.client) (sym c.ports.ensures.ports) ∙ c.known_place-at.ensures.first)
    (c.known_at-port.ensures ∙ ap (λ (ps : List PortState). info_at ps c.known_place-at.result) c.ports-3.ensures.ports)

pub send_lent-servers-requires : goal.send_lent-servers-requires
send_lent-servers-requires c =
    may_be_sent c.args.control.now c.args.node c.args.client c.args.asked c.in-Handle.loaned c.lend_request_of.new.control c.requires.order c.requires.client c.requires.filled c.requires.calls
    (c.in-Handle.ensures.left c.requires.client.port c.requires.client.there) c.in-Handle.ensures.order

pub returns-clause-left : goal.returns-clause-left
returns-clause-left c =
    sent_so c.args.control.now c.args.node c.args.client c.args.asked c.in-Handle.loaned c.lend_request_of.new.control c.requires.order c.requires.client c.requires.filled c.requires.calls
    (c.in-Handle.ensures.left c.requires.client.port c.requires.client.there) c.in-Handle.ensures.order
    c.args.overflow c.send_lent-servers.result c.send_lent-servers.new.control c.send_lent-servers.ensures

pub returns-clause-waits : goal.returns-clause-waits
returns-clause-waits c =
    waits_so c.args.control.now c.args.node c.args.client c.args.asked c.in-Handle.loaned c.lend_request_of.new.control c.requires.order c.requires.client c.requires.filled c.requires.calls
    (c.in-Handle.ensures.left c.requires.client.port c.requires.client.there) c.in-Handle.ensures.order c.send_lent-servers.ensures.sound

pub returns-clause-order : goal.returns-clause-order
returns-clause-order c = c.send_lent-servers.ensures.order
