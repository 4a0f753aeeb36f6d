use Rattle.std.specs.Prelude.{ℕ, refl}
use Rattle.std.proofs.Common.{ap, subst, subst₂, sym}
use Rattle.iox_model.specs.declared.call.Call.TheVariants.{Receive}
use Rattle.iox_model.specs.declared.reply.Reply.TheVariants as replies
use Rattle.iox_hub_laws.specs.Received.TheVariants as received
use Rattle.iox_hub_laws.specs.Replies.{reply_of_receive}
use Rattle.iox_hub_laws.specs.Receives.{TakesResponse}
use Rattle.iox_hub_laws.specs.Waiting.{client_in}
use Rattle.iceoryx2_ports.specs.Idling.{TakesTheOne}
use Rattle.iceoryx2_ports.proofs.OneTaken.{response_is_the_one, response_takes_of_room}
use Rattle.iceoryx2_ports.proofs.Staying.{asks_as_before}
use Rattle.iceoryx2_ports.proofs.Coming.{receive_adds_nothing, receive_brings_nothing}
use Rattle.iceoryx2_ports.proofs.Responding.{waited_in}
use Rattle.iceoryx2_ports.specs.Rooms.{TakesOfRoom}
use Rattle.iceoryx2_ports.proofs.Remaining.{receive_keeps_requests}
use Rattle.iceoryx2_ports.proofs.Kept.{keeps_values}
use Rattle.iceoryx2_ports.proofs.SameShapes.{same_shapes}
use Rattle.iceoryx2_ports.proofs.Telling.{called_as}
use Rattle.iceoryx2_ports.specs.Senders.{TakesFrom}
use Rattle.iceoryx2_ports.proofs.Senders.{response_takes_from}
use Rattle.iceoryx2_ports.proofs.pending_response.PendingResponse.receive.Goals as goal

pub returns-in-Handle-clause-takes : goal.returns-in-Handle-clause-takes
returns-in-Handle-clause-takes g c =
    subst
    (λ n. TakesResponse c.args.hub.now c.args.self.now.node c.args.self.now.number (received.Handle n) c.receive_response.new.hub)
    (sym c.new.ensures.number) c.in-Handle.ensures.takes

pub returns-in-Handle-clause-asks : goal.returns-in-Handle-clause-asks
returns-in-Handle-clause-asks g c =
    asks_as_before c.args.hub.now c.receive_response.new.hub c.args.self.now.node (Receive c.args.self.now.number) (reply_of_receive c.receive_response.result) refl
    c.receive_response.ensures.whole

pub returns-in-Handle-clause-adds : goal.returns-in-Handle-clause-adds
returns-in-Handle-clause-adds g c =
    receive_adds_nothing c.args.hub.now c.receive_response.new.hub c.args.self.now.node c.args.self.now.number (reply_of_receive c.receive_response.result)
    c.receive_response.ensures.whole

pub returns-in-Handle-clause-comes : goal.returns-in-Handle-clause-comes
returns-in-Handle-clause-comes g c =
    receive_brings_nothing c.args.hub.now c.receive_response.new.hub c.args.self.now.node c.args.self.now.number (reply_of_receive c.receive_response.result)
    c.receive_response.ensures.whole

pub returns-in-Nothing-clause-asks : goal.returns-in-Nothing-clause-asks
returns-in-Nothing-clause-asks g c =
    asks_as_before c.args.hub.now c.receive_response.new.hub c.args.self.now.node (Receive c.args.self.now.number) (reply_of_receive c.receive_response.result) refl
    c.receive_response.ensures.whole

pub returns-in-Nothing-clause-adds : goal.returns-in-Nothing-clause-adds
returns-in-Nothing-clause-adds g c =
    receive_adds_nothing c.args.hub.now c.receive_response.new.hub c.args.self.now.node c.args.self.now.number (reply_of_receive c.receive_response.result)
    c.receive_response.ensures.whole

pub returns-in-Nothing-clause-comes : goal.returns-in-Nothing-clause-comes
returns-in-Nothing-clause-comes g c =
    receive_brings_nothing c.args.hub.now c.receive_response.new.hub c.args.self.now.node c.args.self.now.number (reply_of_receive c.receive_response.result)
    c.receive_response.ensures.whole

pub returns-in-AtLimit-clause-asks : goal.returns-in-AtLimit-clause-asks
returns-in-AtLimit-clause-asks g c =
    asks_as_before c.args.hub.now c.receive_response.new.hub c.args.self.now.node (Receive c.args.self.now.number) (reply_of_receive c.receive_response.result) refl
    c.receive_response.ensures.whole

pub returns-in-AtLimit-clause-adds : goal.returns-in-AtLimit-clause-adds
returns-in-AtLimit-clause-adds g c =
    receive_adds_nothing c.args.hub.now c.receive_response.new.hub c.args.self.now.node c.args.self.now.number (reply_of_receive c.receive_response.result)
    c.receive_response.ensures.whole

pub returns-in-AtLimit-clause-comes : goal.returns-in-AtLimit-clause-comes
returns-in-AtLimit-clause-comes g c =
    receive_brings_nothing c.args.hub.now c.receive_response.new.hub c.args.self.now.node c.args.self.now.number (reply_of_receive c.receive_response.result)
    c.receive_response.ensures.whole

pub returns-in-Handle-clause-waited : goal.returns-in-Handle-clause-waited
returns-in-Handle-clause-waited g c =
    waited_in c.args.hub.now c.args.self.now.node c.args.self.now.number (received.Handle c.new.result.number) c.requires.has c.in-Handle.ensures.waited

pub returns-in-Nothing-clause-waited : goal.returns-in-Nothing-clause-waited
returns-in-Nothing-clause-waited g c =
    waited_in c.args.hub.now c.args.self.now.node c.args.self.now.number received.Nothing c.requires.has c.in-Nothing.ensures.waited

pub returns-in-AtLimit-clause-waited : goal.returns-in-AtLimit-clause-waited
returns-in-AtLimit-clause-waited g c =
    waited_in c.args.hub.now c.args.self.now.node c.args.self.now.number received.AtLimit c.requires.has c.in-AtLimit.ensures.waited

pub returns-in-Handle-clause-idle : goal.returns-in-Handle-clause-idle
returns-in-Handle-clause-idle g c =
    subst (λ i. TakesTheOne c.args.hub.now (client_in c.args.hub.now c.args.self.now.node c.args.self.now.number) c.receive_response.new.hub i c.new.result.number) (sym c.new.ensures.node)
    (subst (λ n. TakesTheOne c.args.hub.now (client_in c.args.hub.now c.args.self.now.node c.args.self.now.number) c.receive_response.new.hub c.args.self.now.node n) (sym c.new.ensures.number)
    (response_is_the_one c.args.hub.now c.receive_response.new.hub c.is_in_order.ensures c.args.self.now.node c.args.self.now.number c.in-Handle.number c.requires.has
    c.in-Handle.ensures.whole c.in-Handle.ensures.takes))

pub returns-in-Handle-clause-room : goal.returns-in-Handle-clause-room
returns-in-Handle-clause-room g c =
    subst₂ (λ (i n : ℕ). TakesOfRoom c.args.hub.now (client_in c.args.hub.now c.args.self.now.node c.args.self.now.number) c.receive_response.new.hub i n)
    (sym c.new.ensures.node) (sym c.new.ensures.number)
    (response_takes_of_room c.args.hub.now c.receive_response.new.hub c.is_in_order.ensures c.args.self.now.node c.args.self.now.number c.in-Handle.number c.requires.has
    c.in-Handle.ensures.whole c.in-Handle.ensures.takes)

pub returns-in-Handle-clause-requests : goal.returns-in-Handle-clause-requests
returns-in-Handle-clause-requests g c =
    receive_keeps_requests c.args.hub.now c.receive_response.new.hub c.args.self.now.node c.args.self.now.number (reply_of_receive c.receive_response.result)
    c.receive_response.ensures.whole

pub returns-in-Nothing-clause-requests : goal.returns-in-Nothing-clause-requests
returns-in-Nothing-clause-requests g c =
    receive_keeps_requests c.args.hub.now c.receive_response.new.hub c.args.self.now.node c.args.self.now.number (reply_of_receive c.receive_response.result)
    c.receive_response.ensures.whole

pub returns-in-AtLimit-clause-requests : goal.returns-in-AtLimit-clause-requests
returns-in-AtLimit-clause-requests g c =
    receive_keeps_requests c.args.hub.now c.receive_response.new.hub c.args.self.now.node c.args.self.now.number (reply_of_receive c.receive_response.result)
    c.receive_response.ensures.whole

pub returns-in-Handle-clause-shapes : goal.returns-in-Handle-clause-shapes
returns-in-Handle-clause-shapes g c =
    same_shapes c.args.hub.now c.receive_response.new.hub c.args.self.now.node (Receive c.args.self.now.number) (reply_of_receive c.receive_response.result)
    c.receive_response.ensures.whole

pub returns-in-Nothing-clause-shapes : goal.returns-in-Nothing-clause-shapes
returns-in-Nothing-clause-shapes g c =
    same_shapes c.args.hub.now c.receive_response.new.hub c.args.self.now.node (Receive c.args.self.now.number) (reply_of_receive c.receive_response.result)
    c.receive_response.ensures.whole

pub returns-in-AtLimit-clause-shapes : goal.returns-in-AtLimit-clause-shapes
returns-in-AtLimit-clause-shapes g c =
    same_shapes c.args.hub.now c.receive_response.new.hub c.args.self.now.node (Receive c.args.self.now.number) (reply_of_receive c.receive_response.result)
    c.receive_response.ensures.whole

pub returns-in-Handle-clause-keeps : goal.returns-in-Handle-clause-keeps
returns-in-Handle-clause-keeps g c = keeps_values c.args.hub.now c.receive_response.new.hub c.receive_response.ensures.keeps

pub returns-in-Nothing-clause-keeps : goal.returns-in-Nothing-clause-keeps
returns-in-Nothing-clause-keeps g c = keeps_values c.args.hub.now c.receive_response.new.hub c.receive_response.ensures.keeps

pub returns-in-AtLimit-clause-keeps : goal.returns-in-AtLimit-clause-keeps
returns-in-AtLimit-clause-keeps g c = keeps_values c.args.hub.now c.receive_response.new.hub c.receive_response.ensures.keeps

pub returns-in-Handle-clause-whole : goal.returns-in-Handle-clause-whole
returns-in-Handle-clause-whole g c =
    called_as c.args.hub.now c.receive_response.new.hub c.args.self.now.node (Receive c.args.self.now.number) (replies.Handle c.in-Handle.number)
    (replies.Handle c.new.result.number) (ap replies.Handle (sym c.new.ensures.number)) c.in-Handle.ensures.whole

pub returns-in-Handle-clause-from : goal.returns-in-Handle-clause-from
returns-in-Handle-clause-from g c =
    subst₂ (λ (i n : ℕ). TakesFrom c.args.hub.now (client_in c.args.hub.now c.args.self.now.node c.args.self.now.number) c.receive_response.new.hub i n)
    (sym c.new.ensures.node) (sym c.new.ensures.number)
    (response_takes_from c.args.hub.now c.receive_response.new.hub c.args.self.now.node c.args.self.now.number c.in-Handle.number c.requires.has c.in-Handle.ensures.takes)
