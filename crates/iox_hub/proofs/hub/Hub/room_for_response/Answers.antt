use Rattle.std.proofs.Common.{ap, arith, sym, ◌∙◌}
use Rattle.iox_control.specs.Entries.{handle_state}
use Rattle.iox_hub_ports.specs.Ports.{info_in}
use Rattle.iox_hub.proofs.GrowingFound.{active_has_messages, active_port_is_there, active_responses, active_shape, found_in, short_active, still_active, unmade_active, wants_active}
use Rattle.iox_hub.proofs.LendingNamed.{active_of_hub}
use Rattle.iox_hub.proofs.hub.Hub.room_for_response.Goals as goal

pub unreachable-requires-in_default-find : goal.unreachable-requires-in_default-find
unreachable-requires-in_default-find g c =
    active_port_is_there c.self.invariant c.args.self.now c.self.view_is c.args.node c.args.number c.requires.has (handle_state c.in-Some.entry)
    c.in-Some.ensures
    (ap (λ ps. info_in ps c.in-Some.entry.port) (sym c.ports.ensures.ports) ∙ sym c.find.ensures ∙ c.in_default-find.is)

pub returns-then-not-port-clause-room : goal.returns-then-not-port-clause-room
returns-then-not-port-clause-room g c =
    still_active c.args.self.now c.self.view_is c.self.invariant c.args.node c.args.number c.args.elements c.requires.has (handle_state c.in-Some.entry)
    c.in-Some.ensures c.in-Some-find.port
    (found_in c.ports.result.now.ports c.self.inside.control.tables.ports c.ports.ensures.ports c.in-Some.entry.port c.find.result c.find.ensures
    c.in-Some-find.port c.in-Some-find.is)
    c.if-not-port.true

pub returns-then-elements-port-clause-room : goal.returns-then-elements-port-clause-room
returns-then-elements-port-clause-room g c =
    short_active c.args.self.now c.self.view_is c.self.invariant c.args.node c.args.number c.args.elements c.requires.has (handle_state c.in-Some.entry)
    c.in-Some.ensures c.in-Some-find.port
    (found_in c.ports.result.now.ports c.self.inside.control.tables.ports c.ports.ensures.ports c.in-Some.entry.port c.find.result c.find.ensures
    c.in-Some-find.port c.in-Some-find.is)
    c.if-elements-port.true

pub response_may_be_made-requires-clause-active : goal.response_may_be_made-requires-clause-active
response_may_be_made-requires-clause-active g c =
    active_of_hub c.self.invariant c.args.self.now c.self.view_is c.args.node c.args.number c.requires.has

pub response_may_be_made-requires-clause-asked : goal.response_may_be_made-requires-clause-asked
response_may_be_made-requires-clause-asked g c =
    active_shape c.args.self.now c.self.view_is c.self.invariant c.args.node c.args.number c.args.elements c.requires.has (handle_state c.in-Some.entry)
    c.in-Some.ensures c.in-Some-find.port
    (found_in c.ports.result.now.ports c.self.inside.control.tables.ports c.ports.ensures.ports c.in-Some.entry.port c.find.result c.find.ensures
    c.in-Some-find.port c.in-Some-find.is)
    c.asked_of-asked.result c.asked_of-asked.ensures.asked

pub returns-then-not-response_may_be_made-clause-room : goal.returns-then-not-response_may_be_made-clause-room
returns-then-not-response_may_be_made-clause-room g c =
    unmade_active c.args.self.now c.self.view_is c.self.invariant c.args.node c.args.number c.args.elements c.requires.has (handle_state c.in-Some.entry)
    c.in-Some.ensures c.in-Some-find.port
    (found_in c.ports.result.now.ports c.self.inside.control.tables.ports c.ports.ensures.ports c.in-Some.entry.port c.find.result c.find.ensures
    c.in-Some-find.port c.in-Some-find.is)
    c.asked_of-asked.result c.asked_of-asked.ensures.count c.asked_of-asked.ensures.asked (c.response_may_be_made.ensures.not c.if-not-response_may_be_made.true)

pub spare_of_responses-requires-clause-there : goal.spare_of_responses-requires-clause-there
spare_of_responses-requires-clause-there g c =
    active_has_messages c.args.self.now c.self.view_is c.self.invariant c.args.node c.args.number c.args.elements c.requires.has (handle_state c.in-Some.entry)
    c.in-Some.ensures c.in-Some-find.port
    (found_in c.ports.result.now.ports c.self.inside.control.tables.ports c.ports.ensures.ports c.in-Some.entry.port c.find.result c.find.ensures
    c.in-Some-find.port c.in-Some-find.is)
    c.asked_of-asked.result c.asked_of-asked.ensures.count c.asked_of-asked.ensures.asked (c.response_may_be_made.ensures.made c.if-not-response_may_be_made.false)

pub spare_of_responses-requires-clause-responses : goal.spare_of_responses-requires-clause-responses
spare_of_responses-requires-clause-responses g c =
    active_responses c.args.self.now c.self.view_is c.self.invariant c.args.node c.args.number c.args.elements c.requires.has (handle_state c.in-Some.entry)
    c.in-Some.ensures c.in-Some-find.port
    (found_in c.ports.result.now.ports c.self.inside.control.tables.ports c.ports.ensures.ports c.in-Some.entry.port c.find.result c.find.ensures
    c.in-Some-find.port c.in-Some-find.is)

pub returns-clause-wants : goal.returns-clause-wants
returns-clause-wants g c =
    λ err.
    wants_active c.args.self.now c.self.view_is c.self.invariant c.args.node c.args.number c.args.elements c.requires.has (handle_state c.in-Some.entry)
    c.in-Some.ensures c.in-Some-find.port
    (found_in c.ports.result.now.ports c.self.inside.control.tables.ports c.ports.ensures.ports c.in-Some.entry.port c.find.result c.find.ensures
    c.in-Some-find.port c.in-Some-find.is)
    c.asked_of-asked.result c.asked_of-asked.ensures.count c.asked_of-asked.ensures.asked (c.response_may_be_made.ensures.made c.if-not-response_may_be_made.false)
    c.if-not-port.false (omega (arith, c.if-elements-port.false))
