use Rattle.std.proofs.Common.{ap, subst, sym, ◌∙◌}
use Rattle.iox_control.specs.declared.received.Came.{Came}
use Rattle.iox_control.specs.declared.received.Received.{Received}
use Rattle.iox_control.specs.Receives.{ReceivesRequest}
use Rattle.iox_control.specs.Replies.{received_as}
use Rattle.iox_control.proofs.ReceiveKept.{rest_fits, rest_room, rest_taken}
use Rattle.iox_control.proofs.RequestReceived.{receives_request}
use Rattle.iox_control.proofs.control.Control.receive_request_far.Goals as goal

pub receive_visited-requires-clause-room : goal.receive_visited-requires-clause-room
receive_visited-requires-clause-room c =
    rest_room c.args.self.now c.visit-visits.new.self c.args.server 0 c.wanted_by_server-wanted.result c.visit-visits.result c.requires.order
    c.visit-visits.ensures.visits c.visit-visits.ensures.visited

pub receive_visited-requires-clause-taken : goal.receive_visited-requires-clause-taken
receive_visited-requires-clause-taken c =
    rest_taken c.args.self.now c.visit-visits.new.self c.args.server 0 c.wanted_by_server-wanted.result c.visit-visits.result c.requires.order
    c.visit-visits.ensures.visits c.visit-visits.ensures.visited

pub receive_visited-requires-clause-fits : goal.receive_visited-requires-clause-fits
receive_visited-requires-clause-fits c =
    rest_fits c.args.self.now c.visit-visits.new.self c.args.server 0 c.wanted_by_server-wanted.result c.visit-visits.result c.requires.order
    c.visit-visits.ensures.visits c.visit-visits.ensures.visited

pub returns : goal.returns
returns c =
    subst (λ (r : Received). ReceivesRequest c.args.self.now c.args.node c.args.server r c.receive_visited.new.self)
    (c.receive_visited.ensures.last ∙ ap (λ (k : Came). received_as k c.receive_visited.new.self.tables.next_number) (sym c.came.ensures))
    (receives_request c.args.self.now c.args.node c.args.server c.requires.server c.requires.order c.requires.calls
    c.wanted_by_server-wanted.result c.visit-visits.result c.visit-visits.new.self c.receive_visited.new.self c.receive_visited.result
    c.wanted_by_server-wanted.ensures c.visit-visits.ensures.visits c.visit-visits.ensures.visited c.receive_visited.ensures.left c.receive_visited.ensures.reply)
