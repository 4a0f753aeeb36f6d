use Rattle.std.proofs.Common.{sym, ap, subst, ◌∙◌, Option, is_some}
use Rattle.iox_control.specs.declared.received.Came.{Came}
use Rattle.iox_control.specs.declared.received.Received.{Received}
use Rattle.iox_control.specs.Receives.{ReceivesResponse}
use Rattle.iox_control.specs.Replies.{received_as}
use Rattle.iox_lanes.specs.declared.wanted.Wanted.TheVariants.{Of}
use Rattle.iox_hub_ports.specs.HubStates.Tables.{HandleState}
use Rattle.iox_control.specs.Entries.{handle_state}
use Rattle.iox_control.proofs.HeldLemmas.{handle_has_slot}
use Rattle.iox_control.proofs.ReceiveKept.{rest_fits, rest_room, rest_taken}
use Rattle.iox_control.proofs.ResponseReceived.{receives_response}
use Rattle.iox_control.proofs.control.Control.receive_response_far.Goals as goal

pub known-entry-requires : goal.known-entry-requires
known-entry-requires c = ap (λ (o : Option HandleState). is_some o) c.requires.pending.named.there

pub label_of-label-requires : goal.label_of-label-requires
label_of-label-requires c =
    handle_has_slot c.args.self.now.tables c.requires.order.order c.args.node c.args.number (handle_state c.known-entry.result) (sym c.known-entry.ensures)

pub receive_visited-requires-clause-room : goal.receive_visited-requires-clause-room
receive_visited-requires-clause-room c =
    rest_room c.args.self.now c.visit-visits.new.self c.known-entry.result.port c.label_of-label.result.lane (Of c.label_of-label.result.request) c.visit-visits.result c.requires.order
    c.visit-visits.ensures.visits c.visit-visits.ensures.visited

pub receive_visited-requires-clause-taken : goal.receive_visited-requires-clause-taken
receive_visited-requires-clause-taken c =
    rest_taken c.args.self.now c.visit-visits.new.self c.known-entry.result.port c.label_of-label.result.lane (Of c.label_of-label.result.request) c.visit-visits.result c.requires.order
    c.visit-visits.ensures.visits c.visit-visits.ensures.visited

pub receive_visited-requires-clause-fits : goal.receive_visited-requires-clause-fits
receive_visited-requires-clause-fits c =
    rest_fits c.args.self.now c.visit-visits.new.self c.known-entry.result.port c.label_of-label.result.lane (Of c.label_of-label.result.request) c.visit-visits.result c.requires.order
    c.visit-visits.ensures.visits c.visit-visits.ensures.visited

pub returns : goal.returns
returns c =
    subst (λ (r : Received). ReceivesResponse c.args.self.now c.args.node c.args.number r c.receive_visited.new.self)
    (c.receive_visited.ensures.last ∙ ap (λ (k : Came). received_as k c.receive_visited.new.self.tables.next_number) (sym c.came.ensures))
    (receives_response c.args.self.now c.args.node c.args.number c.requires.pending c.requires.order c.requires.calls c.known-entry.result c.known-entry.ensures
    c.label_of-label.result c.visit-visits.result c.visit-visits.new.self c.receive_visited.new.self c.receive_visited.result
    c.label_of-label.ensures c.visit-visits.ensures.visits c.visit-visits.ensures.visited c.receive_visited.ensures.left c.receive_visited.ensures.reply)
