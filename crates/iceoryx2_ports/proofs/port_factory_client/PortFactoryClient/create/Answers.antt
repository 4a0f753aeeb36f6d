use Rattle.std.specs.Option.{option_map}
use Rattle.std.specs.Prelude.{ℕ, refl}
use Rattle.std.proofs.Common.{ap, subst, sym}
use Rattle.iox_model.specs.Commands.{Create}
use Rattle.iox_model.specs.declared.kind.Role.TheVariants as roles
use Rattle.iox_model.specs.declared.reply.Reply.TheVariants as replies
use Rattle.iox_hub_laws.specs.MadePorts.{refusal_of}
use Rattle.iox_hub_laws.specs.NotMade.TheVariants as not_made
use Rattle.iox_hub_laws.specs.Making.{options_with, reply_of_making}
use Rattle.iox_hub_laws.specs.HandlerWords.{shown_by}
use Rattle.iceoryx2_ports.specs.Idling.{client_on}
use Rattle.iceoryx2_ports.specs.Makings.{IsMadeAs}
use Rattle.iceoryx2_ports.proofs.Idle.{made_is_idle, made_lends_none, making_brings_nothing, making_keeps_room}
use Rattle.iceoryx2_ports.proofs.Making.{making_asks_as_before, making_keeps_requests}
use Rattle.iceoryx2_ports.proofs.MadeAs.{client_made_as}
use Rattle.iceoryx2_ports.proofs.Telling.{made_as}
use Rattle.iceoryx2_ports.proofs.SameShapes.{made_shapes}
use Rattle.iceoryx2_ports.proofs.port_factory_client.PortFactoryClient.create.Goals as goal

pub returns-in-Ok-clause-whole : goal.returns-in-Ok-clause-whole
returns-in-Ok-clause-whole g c =
    made_as c.args.hub.now c.make_port.new.self c.args.self.node (Create roles.Client c.args.self.node_id (options_with c.args.self.options (option_map (shown_by g.H.Backpressure.action) c.args.self.handler)))
    (replies.Client c.in-Ok.number) (replies.Client c.new.result.number) (ap replies.Client (sym c.new.ensures.number)) c.in-Ok.ensures.whole

pub returns-in-Err-PortTag-clause-whole : goal.returns-in-Err-PortTag-clause-whole
returns-in-Err-PortTag-clause-whole g c =
    made_as c.args.hub.now c.make_port.new.self c.args.self.node (Create roles.Client c.args.self.node_id (options_with c.args.self.options (option_map (shown_by g.H.Backpressure.action) c.args.self.handler)))
    (replies.Refused (refusal_of roles.Client c.in-Err-PortTag.field-0)) (replies.Refused (refusal_of roles.Client not_made.PortTag))
    (ap (λ r. replies.Refused (refusal_of roles.Client r)) c.in-Err-PortTag.field-0-is) c.in-Err-PortTag.ensures.whole

pub returns-in-Err-DataSegment-clause-whole : goal.returns-in-Err-DataSegment-clause-whole
returns-in-Err-DataSegment-clause-whole g c =
    made_as c.args.hub.now c.make_port.new.self c.args.self.node (Create roles.Client c.args.self.node_id (options_with c.args.self.options (option_map (shown_by g.H.Backpressure.action) c.args.self.handler)))
    (replies.Refused (refusal_of roles.Client c.in-Err-DataSegment.field-0)) (replies.Refused (refusal_of roles.Client not_made.DataSegment))
    (ap (λ r. replies.Refused (refusal_of roles.Client r)) c.in-Err-DataSegment.field-0-is) c.in-Err-DataSegment.ensures.whole

pub returns-in-Err-TooManyPorts-clause-whole : goal.returns-in-Err-TooManyPorts-clause-whole
returns-in-Err-TooManyPorts-clause-whole g c =
    made_as c.args.hub.now c.make_port.new.self c.args.self.node (Create roles.Client c.args.self.node_id (options_with c.args.self.options (option_map (shown_by g.H.Backpressure.action) c.args.self.handler)))
    (replies.Refused (refusal_of roles.Client c.in-Err-TooManyPorts.field-0)) (replies.Refused (refusal_of roles.Client not_made.TooManyPorts))
    (ap (λ r. replies.Refused (refusal_of roles.Client r)) c.in-Err-TooManyPorts.field-0-is) c.in-Err-TooManyPorts.ensures.whole

pub returns-in-Ok-clause-idle : goal.returns-in-Ok-clause-idle
returns-in-Ok-clause-idle g c =
    λ lane request.
    made_is_idle c.args.hub.now c.make_port.new.self c.is_in_order.ensures c.args.self.node roles.Client c.args.self.node_id
    (options_with c.args.self.options (option_map (shown_by g.H.Backpressure.action) c.args.self.handler)) (replies.Client c.in-Ok.number) c.in-Ok.ensures.whole c.new.result.number
    (ap replies.Client (sym c.new.ensures.number)) (client_on c.new.result.number lane request) refl

pub returns-in-Ok-clause-comes : goal.returns-in-Ok-clause-comes
returns-in-Ok-clause-comes g c =
    making_brings_nothing c.args.hub.now c.make_port.new.self c.is_in_order.ensures c.args.self.node roles.Client c.args.self.node_id
    (options_with c.args.self.options (option_map (shown_by g.H.Backpressure.action) c.args.self.handler)) (reply_of_making roles.Client c.make_port.result) c.make_port.ensures.whole

pub returns-in-Ok-clause-room : goal.returns-in-Ok-clause-room
returns-in-Ok-clause-room g c =
    making_keeps_room c.args.hub.now c.make_port.new.self c.is_in_order.ensures c.args.self.node roles.Client c.args.self.node_id
    (options_with c.args.self.options (option_map (shown_by g.H.Backpressure.action) c.args.self.handler)) (reply_of_making roles.Client c.make_port.result) c.make_port.ensures.whole

pub returns-in-Err-PortTag-clause-comes : goal.returns-in-Err-PortTag-clause-comes
returns-in-Err-PortTag-clause-comes g c =
    making_brings_nothing c.args.hub.now c.make_port.new.self c.is_in_order.ensures c.args.self.node roles.Client c.args.self.node_id
    (options_with c.args.self.options (option_map (shown_by g.H.Backpressure.action) c.args.self.handler)) (reply_of_making roles.Client c.make_port.result) c.make_port.ensures.whole

pub returns-in-Err-PortTag-clause-room : goal.returns-in-Err-PortTag-clause-room
returns-in-Err-PortTag-clause-room g c =
    making_keeps_room c.args.hub.now c.make_port.new.self c.is_in_order.ensures c.args.self.node roles.Client c.args.self.node_id
    (options_with c.args.self.options (option_map (shown_by g.H.Backpressure.action) c.args.self.handler)) (reply_of_making roles.Client c.make_port.result) c.make_port.ensures.whole

pub returns-in-Err-DataSegment-clause-comes : goal.returns-in-Err-DataSegment-clause-comes
returns-in-Err-DataSegment-clause-comes g c =
    making_brings_nothing c.args.hub.now c.make_port.new.self c.is_in_order.ensures c.args.self.node roles.Client c.args.self.node_id
    (options_with c.args.self.options (option_map (shown_by g.H.Backpressure.action) c.args.self.handler)) (reply_of_making roles.Client c.make_port.result) c.make_port.ensures.whole

pub returns-in-Err-DataSegment-clause-room : goal.returns-in-Err-DataSegment-clause-room
returns-in-Err-DataSegment-clause-room g c =
    making_keeps_room c.args.hub.now c.make_port.new.self c.is_in_order.ensures c.args.self.node roles.Client c.args.self.node_id
    (options_with c.args.self.options (option_map (shown_by g.H.Backpressure.action) c.args.self.handler)) (reply_of_making roles.Client c.make_port.result) c.make_port.ensures.whole

pub returns-in-Err-TooManyPorts-clause-comes : goal.returns-in-Err-TooManyPorts-clause-comes
returns-in-Err-TooManyPorts-clause-comes g c =
    making_brings_nothing c.args.hub.now c.make_port.new.self c.is_in_order.ensures c.args.self.node roles.Client c.args.self.node_id
    (options_with c.args.self.options (option_map (shown_by g.H.Backpressure.action) c.args.self.handler)) (reply_of_making roles.Client c.make_port.result) c.make_port.ensures.whole

pub returns-in-Err-TooManyPorts-clause-room : goal.returns-in-Err-TooManyPorts-clause-room
returns-in-Err-TooManyPorts-clause-room g c =
    making_keeps_room c.args.hub.now c.make_port.new.self c.is_in_order.ensures c.args.self.node roles.Client c.args.self.node_id
    (options_with c.args.self.options (option_map (shown_by g.H.Backpressure.action) c.args.self.handler)) (reply_of_making roles.Client c.make_port.result) c.make_port.ensures.whole

pub returns-in-Ok-clause-shapes : goal.returns-in-Ok-clause-shapes
returns-in-Ok-clause-shapes g c =
    made_shapes c.args.hub.now c.make_port.new.self c.args.self.node roles.Client c.args.self.node_id
    (options_with c.args.self.options (option_map (shown_by g.H.Backpressure.action) c.args.self.handler)) (reply_of_making roles.Client c.make_port.result) c.make_port.ensures.whole

pub returns-in-Err-PortTag-clause-shapes : goal.returns-in-Err-PortTag-clause-shapes
returns-in-Err-PortTag-clause-shapes g c =
    made_shapes c.args.hub.now c.make_port.new.self c.args.self.node roles.Client c.args.self.node_id
    (options_with c.args.self.options (option_map (shown_by g.H.Backpressure.action) c.args.self.handler)) (reply_of_making roles.Client c.make_port.result) c.make_port.ensures.whole

pub returns-in-Err-DataSegment-clause-shapes : goal.returns-in-Err-DataSegment-clause-shapes
returns-in-Err-DataSegment-clause-shapes g c =
    made_shapes c.args.hub.now c.make_port.new.self c.args.self.node roles.Client c.args.self.node_id
    (options_with c.args.self.options (option_map (shown_by g.H.Backpressure.action) c.args.self.handler)) (reply_of_making roles.Client c.make_port.result) c.make_port.ensures.whole

pub returns-in-Err-TooManyPorts-clause-shapes : goal.returns-in-Err-TooManyPorts-clause-shapes
returns-in-Err-TooManyPorts-clause-shapes g c =
    made_shapes c.args.hub.now c.make_port.new.self c.args.self.node roles.Client c.args.self.node_id
    (options_with c.args.self.options (option_map (shown_by g.H.Backpressure.action) c.args.self.handler)) (reply_of_making roles.Client c.make_port.result) c.make_port.ensures.whole

pub returns-in-Ok-clause-lent : goal.returns-in-Ok-clause-lent
returns-in-Ok-clause-lent g c =
    made_lends_none c.args.hub.now c.make_port.new.self c.is_in_order.ensures c.args.self.node roles.Client c.args.self.node_id
    (options_with c.args.self.options (option_map (shown_by g.H.Backpressure.action) c.args.self.handler)) (replies.Client c.in-Ok.number) c.in-Ok.ensures.whole c.is_in_order-in-Ok.ensures c.new.result.number
    (ap replies.Client (sym c.new.ensures.number))

pub returns-in-Ok-clause-made : goal.returns-in-Ok-clause-made
returns-in-Ok-clause-made g c =
    subst (λ (n : ℕ). IsMadeAs c.make_port.new.self n c.args.hub.now.request c.args.self.options) (sym c.new.ensures.number)
    (client_made_as c.args.hub.now c.make_port.new.self c.is_in_order.ensures c.args.self.node c.args.self.node_id c.args.self.options
    (option_map (shown_by g.H.Backpressure.action) c.args.self.handler) c.in-Ok.number c.in-Ok.ensures.whole)

pub returns-in-Ok-clause-asks : goal.returns-in-Ok-clause-asks
returns-in-Ok-clause-asks g c =
    making_asks_as_before c.args.hub.now c.make_port.new.self c.is_in_order.ensures c.args.self.node roles.Client c.args.self.node_id
    (options_with c.args.self.options (option_map (shown_by g.H.Backpressure.action) c.args.self.handler)) (reply_of_making roles.Client c.make_port.result) c.make_port.ensures.whole

pub returns-in-Ok-clause-requests : goal.returns-in-Ok-clause-requests
returns-in-Ok-clause-requests g c =
    making_keeps_requests c.args.hub.now c.make_port.new.self c.is_in_order.ensures c.args.self.node roles.Client c.args.self.node_id
    (options_with c.args.self.options (option_map (shown_by g.H.Backpressure.action) c.args.self.handler)) (reply_of_making roles.Client c.make_port.result) c.make_port.ensures.whole

pub returns-in-Err-PortTag-clause-asks : goal.returns-in-Err-PortTag-clause-asks
returns-in-Err-PortTag-clause-asks g c =
    making_asks_as_before c.args.hub.now c.make_port.new.self c.is_in_order.ensures c.args.self.node roles.Client c.args.self.node_id
    (options_with c.args.self.options (option_map (shown_by g.H.Backpressure.action) c.args.self.handler)) (reply_of_making roles.Client c.make_port.result) c.make_port.ensures.whole

pub returns-in-Err-PortTag-clause-requests : goal.returns-in-Err-PortTag-clause-requests
returns-in-Err-PortTag-clause-requests g c =
    making_keeps_requests c.args.hub.now c.make_port.new.self c.is_in_order.ensures c.args.self.node roles.Client c.args.self.node_id
    (options_with c.args.self.options (option_map (shown_by g.H.Backpressure.action) c.args.self.handler)) (reply_of_making roles.Client c.make_port.result) c.make_port.ensures.whole

pub returns-in-Err-DataSegment-clause-asks : goal.returns-in-Err-DataSegment-clause-asks
returns-in-Err-DataSegment-clause-asks g c =
    making_asks_as_before c.args.hub.now c.make_port.new.self c.is_in_order.ensures c.args.self.node roles.Client c.args.self.node_id
    (options_with c.args.self.options (option_map (shown_by g.H.Backpressure.action) c.args.self.handler)) (reply_of_making roles.Client c.make_port.result) c.make_port.ensures.whole

pub returns-in-Err-DataSegment-clause-requests : goal.returns-in-Err-DataSegment-clause-requests
returns-in-Err-DataSegment-clause-requests g c =
    making_keeps_requests c.args.hub.now c.make_port.new.self c.is_in_order.ensures c.args.self.node roles.Client c.args.self.node_id
    (options_with c.args.self.options (option_map (shown_by g.H.Backpressure.action) c.args.self.handler)) (reply_of_making roles.Client c.make_port.result) c.make_port.ensures.whole

pub returns-in-Err-TooManyPorts-clause-asks : goal.returns-in-Err-TooManyPorts-clause-asks
returns-in-Err-TooManyPorts-clause-asks g c =
    making_asks_as_before c.args.hub.now c.make_port.new.self c.is_in_order.ensures c.args.self.node roles.Client c.args.self.node_id
    (options_with c.args.self.options (option_map (shown_by g.H.Backpressure.action) c.args.self.handler)) (reply_of_making roles.Client c.make_port.result) c.make_port.ensures.whole

pub returns-in-Err-TooManyPorts-clause-requests : goal.returns-in-Err-TooManyPorts-clause-requests
returns-in-Err-TooManyPorts-clause-requests g c =
    making_keeps_requests c.args.hub.now c.make_port.new.self c.is_in_order.ensures c.args.self.node roles.Client c.args.self.node_id
    (options_with c.args.self.options (option_map (shown_by g.H.Backpressure.action) c.args.self.handler)) (reply_of_making roles.Client c.make_port.result) c.make_port.ensures.whole
