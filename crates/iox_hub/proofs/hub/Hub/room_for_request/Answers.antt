use Rattle.std.proofs.Common.{arith}
use Rattle.iox_hub.proofs.CopyingRequests.{client_is_there}
use Rattle.iox_hub.proofs.GrowingFound.{client_has_messages, client_requests, client_shape, client_there, found_in, short_client, still_client, unmade_client, wants_client}
use Rattle.iox_hub.proofs.LendingNamed.{client_of_hub}
use Rattle.iox_hub.proofs.hub.Hub.room_for_request.Goals as goal

pub unreachable-requires : goal.unreachable-requires
unreachable-requires g c =
    client_is_there c.self.inside.control.tables c.args._node c.args.client
    (client_of_hub c.self.invariant c.args.self.now c.self.view_is c.args._node c.args.client c.requires.has)
    c.ports.result.now.ports c.ports.ensures.ports c.find.result c.find.ensures c.in_default.is

pub returns-then-not-port-clause-room : goal.returns-then-not-port-clause-room
returns-then-not-port-clause-room g c =
    still_client c.args.self.now c.self.view_is c.self.invariant c.args._node c.args.client c.args.elements c.requires.has c.in-Some.port
    (found_in c.ports.result.now.ports c.self.inside.control.tables.ports c.ports.ensures.ports c.args.client c.find.result c.find.ensures c.in-Some.port c.in-Some.is)
    c.if-not-port.true

pub returns-then-elements-port-clause-room : goal.returns-then-elements-port-clause-room
returns-then-elements-port-clause-room g c =
    short_client c.args.self.now c.self.view_is c.self.invariant c.args._node c.args.client c.args.elements c.requires.has c.in-Some.port
    (found_in c.ports.result.now.ports c.self.inside.control.tables.ports c.ports.ensures.ports c.args.client c.find.result c.find.ensures c.in-Some.port c.in-Some.is)
    c.if-elements-port.true

pub request_may_be_made-requires-clause-there : goal.request_may_be_made-requires-clause-there
request_may_be_made-requires-clause-there g c =
    client_there c.args.self.now c.self.view_is c.self.invariant c.args._node c.args.client c.args.elements c.requires.has c.in-Some.port
    (found_in c.ports.result.now.ports c.self.inside.control.tables.ports c.ports.ensures.ports c.args.client c.find.result c.find.ensures c.in-Some.port c.in-Some.is)

pub request_may_be_made-requires-clause-asked : goal.request_may_be_made-requires-clause-asked
request_may_be_made-requires-clause-asked g c =
    client_shape c.args.self.now c.self.view_is c.self.invariant c.args._node c.args.client c.args.elements c.requires.has c.in-Some.port
    (found_in c.ports.result.now.ports c.self.inside.control.tables.ports c.ports.ensures.ports c.args.client c.find.result c.find.ensures c.in-Some.port c.in-Some.is)
    c.asked_of-asked.result c.asked_of-asked.ensures.asked

pub returns-then-not-request_may_be_made-clause-room : goal.returns-then-not-request_may_be_made-clause-room
returns-then-not-request_may_be_made-clause-room g c =
    unmade_client c.args.self.now c.self.view_is c.self.invariant c.args._node c.args.client c.args.elements c.requires.has c.in-Some.port
    (found_in c.ports.result.now.ports c.self.inside.control.tables.ports c.ports.ensures.ports c.args.client c.find.result c.find.ensures c.in-Some.port c.in-Some.is)
    c.asked_of-asked.result c.asked_of-asked.ensures.count c.asked_of-asked.ensures.asked (c.request_may_be_made.ensures.not c.if-not-request_may_be_made.true)

pub spare_of_requests-requires-clause-there : goal.spare_of_requests-requires-clause-there
spare_of_requests-requires-clause-there g c =
    client_has_messages c.args.self.now c.self.view_is c.self.invariant c.args._node c.args.client c.args.elements c.requires.has c.in-Some.port
    (found_in c.ports.result.now.ports c.self.inside.control.tables.ports c.ports.ensures.ports c.args.client c.find.result c.find.ensures c.in-Some.port c.in-Some.is)
    c.asked_of-asked.result c.asked_of-asked.ensures.count c.asked_of-asked.ensures.asked (c.request_may_be_made.ensures.made c.if-not-request_may_be_made.false)

pub spare_of_requests-requires-clause-requests : goal.spare_of_requests-requires-clause-requests
spare_of_requests-requires-clause-requests g c =
    client_requests c.args.self.now c.self.view_is c.self.invariant c.args._node c.args.client c.args.elements c.requires.has c.in-Some.port
    (found_in c.ports.result.now.ports c.self.inside.control.tables.ports c.ports.ensures.ports c.args.client c.find.result c.find.ensures c.in-Some.port c.in-Some.is)

pub returns-clause-wants : goal.returns-clause-wants
returns-clause-wants g c =
    λ err.
    wants_client c.args.self.now c.self.view_is c.self.invariant c.args._node c.args.client c.args.elements c.requires.has c.in-Some.port
    (found_in c.ports.result.now.ports c.self.inside.control.tables.ports c.ports.ensures.ports c.args.client c.find.result c.find.ensures c.in-Some.port c.in-Some.is)
    c.asked_of-asked.result c.asked_of-asked.ensures.count c.asked_of-asked.ensures.asked (c.request_may_be_made.ensures.made c.if-not-request_may_be_made.false)
    c.if-not-port.false (omega (arith, c.if-elements-port.false))
