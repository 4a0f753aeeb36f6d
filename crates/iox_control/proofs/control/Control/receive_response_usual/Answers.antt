use Rattle.std.proofs.Common.{sym, ap, Option, is_some}
use Rattle.iox_lanes.specs.declared.wanted.Wanted.TheVariants.{Of}
use Rattle.iox_hub_ports.specs.HubStates.Tables.{HandleState}
use Rattle.iox_control.specs.Entries.{handle_state}
use Rattle.iox_control.proofs.HeldLemmas.{handle_has_slot}
use Rattle.iox_control.proofs.ReceiveKept.{rest_fits, rest_room, rest_taken}
use Rattle.iox_control.proofs.ResponseReceived.{receives_response}
use Rattle.iox_control.proofs.control.Control.receive_response_usual.Goals as goal

pub near_known-requires : goal.near_known-requires
near_known-requires c = ap (λ (o : Option HandleState). is_some o) c.requires.pending.named.there

pub label_of-label-requires : goal.label_of-label-requires
label_of-label-requires c =
    handle_has_slot c.args.self.now.tables c.requires.order.order c.args.node c.args.number (handle_state c.in_ok-entry.entry) (sym c.in_ok-entry.ensures)

pub receive_visited-requires-clause-room : goal.receive_visited-requires-clause-room
receive_visited-requires-clause-room c =
    rest_room c.args.self.now c.visit_usual.new.self c.in_ok-entry.entry.port c.label_of-label.result.lane (Of c.label_of-label.result.request) c.in_ok-visits.visits c.requires.order
    c.in_ok-visits.ensures.visits c.in_ok-visits.ensures.visited

pub receive_visited-requires-clause-taken : goal.receive_visited-requires-clause-taken
receive_visited-requires-clause-taken c =
    rest_taken c.args.self.now c.visit_usual.new.self c.in_ok-entry.entry.port c.label_of-label.result.lane (Of c.label_of-label.result.request) c.in_ok-visits.visits c.requires.order
    c.in_ok-visits.ensures.visits c.in_ok-visits.ensures.visited

pub receive_visited-requires-clause-fits : goal.receive_visited-requires-clause-fits
receive_visited-requires-clause-fits c =
    rest_fits c.args.self.now c.visit_usual.new.self c.in_ok-entry.entry.port c.label_of-label.result.lane (Of c.label_of-label.result.request) c.in_ok-visits.visits c.requires.order
    c.in_ok-visits.ensures.visits c.in_ok-visits.ensures.visited

pub returns-clause-received : goal.returns-clause-received
returns-clause-received c =
    receives_response c.args.self.now c.args.node c.args.number c.requires.pending c.requires.order c.requires.calls c.in_ok-entry.entry c.in_ok-entry.ensures
    c.label_of-label.result c.in_ok-visits.visits c.visit_usual.new.self c.receive_visited.new.self c.receive_visited.result
    c.label_of-label.ensures c.in_ok-visits.ensures.visits c.in_ok-visits.ensures.visited c.receive_visited.ensures.left c.receive_visited.ensures.reply
