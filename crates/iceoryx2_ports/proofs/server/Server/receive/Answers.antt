use Rattle.std.specs.Prelude.{ℕ, refl}
use Rattle.std.proofs.Common.{ap, subst, subst₂, sym}
use Rattle.iox_model.specs.declared.call.Call.TheVariants.{Receive}
use Rattle.iox_model.specs.declared.reply.Reply.TheVariants as replies
use Rattle.iox_hub_laws.specs.Received.TheVariants as received
use Rattle.iox_hub_laws.specs.Replies.{reply_of_receive}
use Rattle.iox_hub_laws.specs.Receives.{TakesRequest}
use Rattle.iox_hub_laws.specs.Waiting.{server_of}
use Rattle.iceoryx2_ports.specs.Asking.{TakesItsRequest}
use Rattle.iceoryx2_ports.specs.Idling.{TakesTheOne}
use Rattle.iceoryx2_ports.proofs.OneTaken.{request_is_the_one}
use Rattle.iceoryx2_ports.proofs.Telling.{called_as}
use Rattle.iceoryx2_ports.proofs.Staying.{asks_as_before}
use Rattle.iceoryx2_ports.proofs.Coming.{receive_adds_nothing, receive_brings_nothing}
use Rattle.iceoryx2_ports.proofs.Received.{is_its_request, receive_keeps_askers_idle}
use Rattle.iceoryx2_ports.proofs.Remaining.{receive_keeps_requests}
use Rattle.iceoryx2_ports.proofs.Kept.{keeps_values}
use Rattle.iceoryx2_ports.proofs.SameShapes.{same_shapes}
use Rattle.iceoryx2_ports.specs.Senders.{TakesFrom}
use Rattle.iceoryx2_ports.proofs.Senders.{request_takes_from}
use Rattle.iceoryx2_ports.proofs.server.Server.receive.Goals as goal

pub returns-in-Handle-clause-takes : goal.returns-in-Handle-clause-takes
returns-in-Handle-clause-takes g c =
    subst
    (λ n. TakesRequest c.args.hub.now c.args.self.now.node c.args.self.now.number (received.Handle n) c.receive_request.new.hub)
    (sym c.new.ensures.number) c.in-Handle.ensures.takes

pub returns-in-Handle-clause-asks : goal.returns-in-Handle-clause-asks
returns-in-Handle-clause-asks g c =
    asks_as_before c.args.hub.now c.receive_request.new.hub c.args.self.now.node (Receive c.args.self.now.number) (reply_of_receive c.receive_request.result) refl
    c.receive_request.ensures.whole

pub returns-in-Handle-clause-adds : goal.returns-in-Handle-clause-adds
returns-in-Handle-clause-adds g c =
    receive_adds_nothing c.args.hub.now c.receive_request.new.hub c.args.self.now.node c.args.self.now.number (reply_of_receive c.receive_request.result)
    c.receive_request.ensures.whole

pub returns-in-Handle-clause-comes : goal.returns-in-Handle-clause-comes
returns-in-Handle-clause-comes g c =
    receive_brings_nothing c.args.hub.now c.receive_request.new.hub c.args.self.now.node c.args.self.now.number (reply_of_receive c.receive_request.result)
    c.receive_request.ensures.whole

pub returns-in-Nothing-clause-asks : goal.returns-in-Nothing-clause-asks
returns-in-Nothing-clause-asks g c =
    asks_as_before c.args.hub.now c.receive_request.new.hub c.args.self.now.node (Receive c.args.self.now.number) (reply_of_receive c.receive_request.result) refl
    c.receive_request.ensures.whole

pub returns-in-Nothing-clause-adds : goal.returns-in-Nothing-clause-adds
returns-in-Nothing-clause-adds g c =
    receive_adds_nothing c.args.hub.now c.receive_request.new.hub c.args.self.now.node c.args.self.now.number (reply_of_receive c.receive_request.result)
    c.receive_request.ensures.whole

pub returns-in-Nothing-clause-comes : goal.returns-in-Nothing-clause-comes
returns-in-Nothing-clause-comes g c =
    receive_brings_nothing c.args.hub.now c.receive_request.new.hub c.args.self.now.node c.args.self.now.number (reply_of_receive c.receive_request.result)
    c.receive_request.ensures.whole

pub returns-in-AtLimit-clause-asks : goal.returns-in-AtLimit-clause-asks
returns-in-AtLimit-clause-asks g c =
    asks_as_before c.args.hub.now c.receive_request.new.hub c.args.self.now.node (Receive c.args.self.now.number) (reply_of_receive c.receive_request.result) refl
    c.receive_request.ensures.whole

pub returns-in-AtLimit-clause-adds : goal.returns-in-AtLimit-clause-adds
returns-in-AtLimit-clause-adds g c =
    receive_adds_nothing c.args.hub.now c.receive_request.new.hub c.args.self.now.node c.args.self.now.number (reply_of_receive c.receive_request.result)
    c.receive_request.ensures.whole

pub returns-in-AtLimit-clause-comes : goal.returns-in-AtLimit-clause-comes
returns-in-AtLimit-clause-comes g c =
    receive_brings_nothing c.args.hub.now c.receive_request.new.hub c.args.self.now.node c.args.self.now.number (reply_of_receive c.receive_request.result)
    c.receive_request.ensures.whole

pub returns-in-Handle-clause-idle : goal.returns-in-Handle-clause-idle
returns-in-Handle-clause-idle g c =
    subst (λ i. TakesTheOne c.args.hub.now (server_of c.args.self.now.number) c.receive_request.new.hub i c.new.result.number) (sym c.new.ensures.node)
    (subst (λ n. TakesTheOne c.args.hub.now (server_of c.args.self.now.number) c.receive_request.new.hub c.args.self.now.node n) (sym c.new.ensures.number)
    (request_is_the_one c.args.hub.now c.receive_request.new.hub c.is_in_order.ensures c.args.self.now.node c.args.self.now.number c.in-Handle.number
    c.in-Handle.ensures.whole c.in-Handle.ensures.takes))

pub returns-in-Handle-clause-whole : goal.returns-in-Handle-clause-whole
returns-in-Handle-clause-whole g c =
    called_as c.args.hub.now c.receive_request.new.hub c.args.self.now.node (Receive c.args.self.now.number) (replies.Handle c.in-Handle.number)
    (replies.Handle c.new.result.number) (ap replies.Handle (sym c.new.ensures.number)) c.in-Handle.ensures.whole

pub returns-in-Handle-clause-asker : goal.returns-in-Handle-clause-asker
returns-in-Handle-clause-asker g c =
    subst₂ (λ (i n : ℕ). TakesItsRequest c.args.hub.now c.args.self.now.number c.receive_request.new.hub i n) (sym c.new.ensures.node) (sym c.new.ensures.number)
    (is_its_request c.args.hub.now c.receive_request.new.hub c.is_in_order.ensures c.args.self.now.node c.args.self.now.number c.in-Handle.number
    c.in-Handle.ensures.whole c.in-Handle.ensures.takes)

pub returns-in-Handle-clause-askers : goal.returns-in-Handle-clause-askers
returns-in-Handle-clause-askers g c =
    receive_keeps_askers_idle c.args.hub.now c.receive_request.new.hub c.is_in_order.ensures c.args.self.now.node c.args.self.now.number c.in-Handle.number
    c.in-Handle.ensures.whole c.in-Handle.ensures.takes c.requires.has

pub returns-in-Handle-clause-requests : goal.returns-in-Handle-clause-requests
returns-in-Handle-clause-requests g c =
    receive_keeps_requests c.args.hub.now c.receive_request.new.hub c.args.self.now.node c.args.self.now.number (reply_of_receive c.receive_request.result)
    c.receive_request.ensures.whole

pub returns-in-Nothing-clause-requests : goal.returns-in-Nothing-clause-requests
returns-in-Nothing-clause-requests g c =
    receive_keeps_requests c.args.hub.now c.receive_request.new.hub c.args.self.now.node c.args.self.now.number (reply_of_receive c.receive_request.result)
    c.receive_request.ensures.whole

pub returns-in-AtLimit-clause-requests : goal.returns-in-AtLimit-clause-requests
returns-in-AtLimit-clause-requests g c =
    receive_keeps_requests c.args.hub.now c.receive_request.new.hub c.args.self.now.node c.args.self.now.number (reply_of_receive c.receive_request.result)
    c.receive_request.ensures.whole

pub returns-in-Handle-clause-shapes : goal.returns-in-Handle-clause-shapes
returns-in-Handle-clause-shapes g c =
    same_shapes c.args.hub.now c.receive_request.new.hub c.args.self.now.node (Receive c.args.self.now.number) (reply_of_receive c.receive_request.result)
    c.receive_request.ensures.whole

pub returns-in-Nothing-clause-shapes : goal.returns-in-Nothing-clause-shapes
returns-in-Nothing-clause-shapes g c =
    same_shapes c.args.hub.now c.receive_request.new.hub c.args.self.now.node (Receive c.args.self.now.number) (reply_of_receive c.receive_request.result)
    c.receive_request.ensures.whole

pub returns-in-AtLimit-clause-shapes : goal.returns-in-AtLimit-clause-shapes
returns-in-AtLimit-clause-shapes g c =
    same_shapes c.args.hub.now c.receive_request.new.hub c.args.self.now.node (Receive c.args.self.now.number) (reply_of_receive c.receive_request.result)
    c.receive_request.ensures.whole

pub returns-in-Handle-clause-keeps : goal.returns-in-Handle-clause-keeps
returns-in-Handle-clause-keeps g c = keeps_values c.args.hub.now c.receive_request.new.hub c.receive_request.ensures.keeps

pub returns-in-Nothing-clause-keeps : goal.returns-in-Nothing-clause-keeps
returns-in-Nothing-clause-keeps g c = keeps_values c.args.hub.now c.receive_request.new.hub c.receive_request.ensures.keeps

pub returns-in-AtLimit-clause-keeps : goal.returns-in-AtLimit-clause-keeps
returns-in-AtLimit-clause-keeps g c = keeps_values c.args.hub.now c.receive_request.new.hub c.receive_request.ensures.keeps

pub returns-in-Handle-clause-from : goal.returns-in-Handle-clause-from
returns-in-Handle-clause-from g c =
    subst₂ (λ (i n : ℕ). TakesFrom c.args.hub.now (server_of c.args.self.now.number) c.receive_request.new.hub i n) (sym c.new.ensures.node) (sym c.new.ensures.number)
    (request_takes_from c.args.hub.now c.receive_request.new.hub c.args.self.now.node c.args.self.now.number c.in-Handle.number c.in-Handle.ensures.takes)
