use Rattle.std.specs.Prelude.{List, Some, false, refl}
use Rattle.std.proofs.Common.{ap, sym, ◌∙◌}
use Rattle.std.proofs.lemmas.Bool.{not-false}
use Rattle.iox_tables.specs.HubStates.Tables.{PortState}
use Rattle.iox_hub_ports.specs.InPlace.{in_place}
use Rattle.iox_hub_ports.specs.Known.{is_from}
use Rattle.iox_hub_ports.specs.Ports.{info_at, place_in}
use Rattle.iox_control.proofs.InPlaceLemmas.{all_apart}
use Rattle.iox_control_responses.proofs.Awaiting.{a_named_client}
use Rattle.iox_control_responses.proofs.Places.{held_there, said_there}
use Rattle.iox_control_responses.proofs.near.find_near.Goals as goal

pub state_on-requires-clause-there : goal.state_on-requires-clause-there
state_on-requires-clause-there c =
    ap (λ (ps : List PortState). place_in ps c.args.entry.port) (sym c.ports-ports.ensures.ports) ∙ c.is_near.ensures.place.0 c.if-not-is_near.false

pub state_on-requires-clause-apart : goal.state_on-requires-clause-apart
state_on-requires-clause-apart c = all_apart c.args.control.now c.requires.order

pub state_on-requires-clause-from : goal.state_on-requires-clause-from
state_on-requires-clause-from c =
    ap (λ (ps : List PortState). in_place (is_from c.rank-from.result c.args.entry.client) false ps c.args.entry.at) (sym c.ports-ports.ensures.ports)
    ∙ sym c.is_from.ensures ∙ c.if-not-is_from.false

pub returns-else-not-is_named-clause-awaits : goal.returns-else-not-is_named-clause-awaits
returns-else-not-is_named-clause-awaits c =
    sym
    (a_named_client c.args.control.now.tables c.requires.order.order c.args.entry (Some c.known_at-2.result)
    (said_there c.args.control.now.tables.ports c.args.entry.client c.in_ok-place.place c.known_at-2.result
    (ap (λ (ps : List PortState). place_in ps c.args.entry.client) (sym c.ports-ports.ensures.ports) ∙ sym c.in_ok-place.ensures.first)
    (c.known_at-2.ensures ∙ ap (λ (ps : List PortState). info_at ps c.in_ok-place.place) c.ports-ports.ensures.ports))
    c.known_at-2.result c.args.label c.state_on.result c.is_named.result refl c.in-Client.is c.requires.label c.state_on.ensures.state c.is_named.ensures)
    ∙ c.if-not-is_named.false

pub returns-else-not-is_named-clause-there : goal.returns-else-not-is_named-clause-there
returns-else-not-is_named-clause-there c =
    ap (λ (ps : List PortState). place_in ps c.args.entry.client) (sym c.ports-ports.ensures.ports) ∙ sym c.in_ok-place.ensures.first

pub returns-else-not-is_named-clause-from : goal.returns-else-not-is_named-clause-from
returns-else-not-is_named-clause-from c =
    ap (λ (ps : List PortState). in_place (is_from c.rank-rank.result c.args.entry.port) false ps c.in_ok-place.place) (sym c.ports-ports.ensures.ports)
    ∙ sym c.is_from-2.ensures ∙ c.if-not-is_from-2.false

pub returns-else-not-is_named-clause-held : goal.returns-else-not-is_named-clause-held
returns-else-not-is_named-clause-held c =
    held_there c.args.control.now.tables.ports c.args.entry.port c.args.entry.at c.known_at.result
    (ap (λ (ps : List PortState). place_in ps c.args.entry.port) (sym c.ports-ports.ensures.ports) ∙ c.is_near.ensures.place.0 c.if-not-is_near.false)
    (c.known_at.ensures ∙ ap (λ (ps : List PortState). info_at ps c.args.entry.at) c.ports-ports.ensures.ports) (not-false c.known_at.result.held c.if-not-known_at.false)
