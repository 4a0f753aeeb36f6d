use Rattle.std.specs.Prelude.{List, Some, None, refl}
use Rattle.std.proofs.Common.{ap, sym, ◌∙◌}
use Rattle.iox_tables.specs.HubStates.Tables.{PortState}
use Rattle.iox_hub_ports.specs.Ports.{info_at}
use Rattle.iox_hub_ports.proofs.Places.{looked}
use Rattle.iox_control_responses.proofs.Awaiting.{a_named_client, no_client, not_connected}
use Rattle.iox_control.proofs.InPlaceLemmas.{all_apart}
use Rattle.iox_control_responses.proofs.Places.{nowhere, said_there}
use Rattle.iox_control_responses.proofs.targets.find_awaiting.Goals as goal

pub returns-in_default-clause-awaits : goal.returns-in_default-clause-awaits
returns-in_default-clause-awaits c =
    not_connected c.args.control.now.tables c.requires.order.order c.args.entry None
    (nowhere c.args.control.now.tables.ports c.args.entry.client
    (looked c.args.control.now.tables.ports c.ports-ports.result.now.ports c.args.entry.client c.place_at.result None c.ports-ports.ensures.ports c.place_at.ensures.first c.in_default.is)) refl

pub returns-in-Server-clause-awaits : goal.returns-in-Server-clause-awaits
returns-in-Server-clause-awaits c =
    no_client c.args.control.now.tables c.requires.order.order c.args.entry (Some c.known_at.result)
    (said_there c.args.control.now.tables.ports c.args.entry.client c.in-Some.place c.known_at.result
    (looked c.args.control.now.tables.ports c.ports-ports.result.now.ports c.args.entry.client c.place_at.result (Some c.in-Some.place) c.ports-ports.ensures.ports c.place_at.ensures.first c.in-Some.is)
    (c.known_at.ensures ∙ ap (λ (ps : List PortState). info_at ps c.in-Some.place) c.ports-ports.ensures.ports))
    c.known_at.result refl c.in-Server.is

pub state_in-requires-clause-apart : goal.state_in-requires-clause-apart
state_in-requires-clause-apart c = all_apart c.args.control.now c.requires.order

pub returns-else-not-is_named-clause-awaits : goal.returns-else-not-is_named-clause-awaits
returns-else-not-is_named-clause-awaits c =
    sym c.if-not-is_named.false
    ∙ a_named_client c.args.control.now.tables c.requires.order.order c.args.entry (Some c.known_at.result)
    (said_there c.args.control.now.tables.ports c.args.entry.client c.in-Some.place c.known_at.result
    (looked c.args.control.now.tables.ports c.ports-ports.result.now.ports c.args.entry.client c.place_at.result (Some c.in-Some.place) c.ports-ports.ensures.ports c.place_at.ensures.first c.in-Some.is)
    (c.known_at.ensures ∙ ap (λ (ps : List PortState). info_at ps c.in-Some.place) c.ports-ports.ensures.ports))
    c.known_at.result c.args.label c.state_in.result c.is_named.result refl c.in-Client.is c.requires.label c.state_in.ensures.state c.is_named.ensures
