use Rattle.std.proofs.Common.{◌<◌, ◌^◌, subst, sym}
use Rattle.iox_hub_ports.specs.HubStates.Wirings.{IsServer}
use Rattle.iox_control.specs.declared.received.Received.{Received}
use Rattle.iox_control.specs.Controls.{ControlState, IsControl}
use Rattle.iox_control.specs.Receives.{ReceivesRequest}
use Rattle.iox_control.specs.Replies.{received_as}
use Rattle.iox_control.proofs.control.Control.receive_request.Goals as goal

pub receive_request_far-came-requires-clause-server : goal.receive_request_far-came-requires-clause-server
receive_request_far-came-requires-clause-server c = subst (λ (d : ControlState). IsServer d.tables c.args.node c.args.server) (sym (c.receive_request_usual.ensures.unchanged c.in-None.is)) c.requires.server

pub receive_request_far-came-requires-clause-order : goal.receive_request_far-came-requires-clause-order
receive_request_far-came-requires-clause-order c = subst (λ (d : ControlState). IsControl d) (sym (c.receive_request_usual.ensures.unchanged c.in-None.is)) c.requires.order

pub receive_request_far-came-requires-clause-calls : goal.receive_request_far-came-requires-clause-calls
receive_request_far-came-requires-clause-calls c = subst (λ (d : ControlState). d.tables.calls < 2 ^ 56) (sym (c.receive_request_usual.ensures.unchanged c.in-None.is)) c.requires.calls

pub returns-in-Some-clause-reply : goal.returns-in-Some-clause-reply
returns-in-Some-clause-reply c = c.in-Some.ensures.received.reply

pub returns-in-Some-clause-left : goal.returns-in-Some-clause-left
returns-in-Some-clause-left c = c.in-Some.ensures.received.left

pub returns-in-Some-clause-order : goal.returns-in-Some-clause-order
returns-in-Some-clause-order c = c.in-Some.ensures.received.order

pub returns-in-Some-clause-port_room : goal.returns-in-Some-clause-port_room
returns-in-Some-clause-port_room c = c.in-Some.ensures.received.port_room

pub returns-in-Some-clause-whole : goal.returns-in-Some-clause-whole
returns-in-Some-clause-whole c = c.in-Some.ensures.received.whole

pub returns-in-None-clause-reply : goal.returns-in-None-clause-reply
returns-in-None-clause-reply c =
    (subst (λ (r : Received). ReceivesRequest c.args.self.now c.args.node c.args.server r c.receive_request_far-came.new.self) (sym c.received_as.ensures)
    (subst (λ (d : ControlState). ReceivesRequest d c.args.node c.args.server (received_as c.receive_request_far-came.result c.receive_request_far-came.new.self.tables.next_number) c.receive_request_far-came.new.self)
    (c.receive_request_usual.ensures.unchanged c.in-None.is) c.receive_request_far-came.ensures)).reply

pub returns-in-None-clause-left : goal.returns-in-None-clause-left
returns-in-None-clause-left c =
    (subst (λ (r : Received). ReceivesRequest c.args.self.now c.args.node c.args.server r c.receive_request_far-came.new.self) (sym c.received_as.ensures)
    (subst (λ (d : ControlState). ReceivesRequest d c.args.node c.args.server (received_as c.receive_request_far-came.result c.receive_request_far-came.new.self.tables.next_number) c.receive_request_far-came.new.self)
    (c.receive_request_usual.ensures.unchanged c.in-None.is) c.receive_request_far-came.ensures)).left

pub returns-in-None-clause-order : goal.returns-in-None-clause-order
returns-in-None-clause-order c =
    (subst (λ (r : Received). ReceivesRequest c.args.self.now c.args.node c.args.server r c.receive_request_far-came.new.self) (sym c.received_as.ensures)
    (subst (λ (d : ControlState). ReceivesRequest d c.args.node c.args.server (received_as c.receive_request_far-came.result c.receive_request_far-came.new.self.tables.next_number) c.receive_request_far-came.new.self)
    (c.receive_request_usual.ensures.unchanged c.in-None.is) c.receive_request_far-came.ensures)).order

pub returns-in-None-clause-port_room : goal.returns-in-None-clause-port_room
returns-in-None-clause-port_room c =
    (subst (λ (r : Received). ReceivesRequest c.args.self.now c.args.node c.args.server r c.receive_request_far-came.new.self) (sym c.received_as.ensures)
    (subst (λ (d : ControlState). ReceivesRequest d c.args.node c.args.server (received_as c.receive_request_far-came.result c.receive_request_far-came.new.self.tables.next_number) c.receive_request_far-came.new.self)
    (c.receive_request_usual.ensures.unchanged c.in-None.is) c.receive_request_far-came.ensures)).port_room

pub returns-in-None-clause-whole : goal.returns-in-None-clause-whole
returns-in-None-clause-whole c =
    (subst (λ (r : Received). ReceivesRequest c.args.self.now c.args.node c.args.server r c.receive_request_far-came.new.self) (sym c.received_as.ensures)
    (subst (λ (d : ControlState). ReceivesRequest d c.args.node c.args.server (received_as c.receive_request_far-came.result c.receive_request_far-came.new.self.tables.next_number) c.receive_request_far-came.new.self)
    (c.receive_request_usual.ensures.unchanged c.in-None.is) c.receive_request_far-came.ensures)).whole
