use Rattle.iox_control.proofs.ReceiveKept.{rest_fits, rest_room, rest_taken}
use Rattle.iox_control.proofs.RequestReceived.{receives_request}
use Rattle.iox_control.proofs.control.Control.receive_request_usual.Goals as goal

pub receive_visited-requires-clause-room : goal.receive_visited-requires-clause-room
receive_visited-requires-clause-room c =
    rest_room c.args.self.now c.visit_usual.new.self c.args.server 0 c.wanted_by_server-wanted.result c.in_ok-visits.visits c.requires.order
    c.in_ok-visits.ensures.visits c.in_ok-visits.ensures.visited

pub receive_visited-requires-clause-taken : goal.receive_visited-requires-clause-taken
receive_visited-requires-clause-taken c =
    rest_taken c.args.self.now c.visit_usual.new.self c.args.server 0 c.wanted_by_server-wanted.result c.in_ok-visits.visits c.requires.order
    c.in_ok-visits.ensures.visits c.in_ok-visits.ensures.visited

pub receive_visited-requires-clause-fits : goal.receive_visited-requires-clause-fits
receive_visited-requires-clause-fits c =
    rest_fits c.args.self.now c.visit_usual.new.self c.args.server 0 c.wanted_by_server-wanted.result c.in_ok-visits.visits c.requires.order
    c.in_ok-visits.ensures.visits c.in_ok-visits.ensures.visited

pub returns-clause-received : goal.returns-clause-received
returns-clause-received c =
    receives_request c.args.self.now c.args.node c.args.server c.requires.server c.requires.order c.requires.calls
    c.wanted_by_server-wanted.result c.in_ok-visits.visits c.visit_usual.new.self c.receive_visited.new.self c.receive_visited.result
    c.wanted_by_server-wanted.ensures c.in_ok-visits.ensures.visits c.in_ok-visits.ensures.visited c.receive_visited.ensures.left c.receive_visited.ensures.reply
