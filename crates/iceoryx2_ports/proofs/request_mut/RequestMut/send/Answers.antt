use Rattle.std.specs.Prelude.{ℕ, List, refl}
use Rattle.std.proofs.Common.{ap, subst, subst₂, sym}
use Rattle.iox_hub_laws.specs.Sends.{BringsOnly}
use Rattle.iox_model.specs.declared.call.Call.TheVariants.{Send}
use Rattle.iox_model.specs.declared.kind.Kind.TheVariants.{RequestMut}
use Rattle.iox_model.specs.declared.reply.Reply.TheVariants as replies
use Rattle.iox_hub_laws.specs.Sendings.{reply_of_send}
use Rattle.iox_hub_laws.specs.Waiting.{client_in}
use Rattle.iceoryx2_ports.specs.Asking.{AsksAs, BringsItsRequest, OpensAtServers}
use Rattle.iceoryx2_ports.proofs.Aside.{loan_asks_as_always}
use Rattle.iceoryx2_ports.proofs.Reaching.{send_brings_one, send_reaches}
use Rattle.iceoryx2_ports.proofs.Requested.{send_asks_as, send_brings_its_request, send_opens}
use Rattle.iceoryx2_ports.proofs.SameShapes.{same_shapes}
use Rattle.iceoryx2_ports.proofs.Telling.{called_as}
use Rattle.iceoryx2_ports.proofs.Senders.{brings_from_client}
use Rattle.iceoryx2_ports.proofs.request_mut.RequestMut.send.Goals as goal

pub returns-in-To-clause-whole : goal.returns-in-To-clause-whole
returns-in-To-clause-whole g c =
    called_as c.args.hub.now c.send_request.new.hub c.args.self.node (Send c.args.self.number) (replies.Sent c.in-To.servers) (replies.Sent c.new.result.servers)
    (ap replies.Sent (sym c.new.ensures.servers)) c.in-To.ensures.whole

pub returns-in-To-clause-only : goal.returns-in-To-clause-only
returns-in-To-clause-only g c =
    λ words e. subst (λ (w : List ℕ). BringsOnly c.args.hub.now w c.send_request.new.hub) e c.send_request.ensures.only

pub returns-in-ExceedsMaxActiveRequests-clause-only : goal.returns-in-ExceedsMaxActiveRequests-clause-only
returns-in-ExceedsMaxActiveRequests-clause-only g c =
    λ words e. subst (λ (w : List ℕ). BringsOnly c.args.hub.now w c.send_request.new.hub) e c.send_request.ensures.only

pub returns-in-UnableToDeliver-clause-only : goal.returns-in-UnableToDeliver-clause-only
returns-in-UnableToDeliver-clause-only g c =
    λ words e. subst (λ (w : List ℕ). BringsOnly c.args.hub.now w c.send_request.new.hub) e c.send_request.ensures.only

pub returns-in-To-clause-asks : goal.returns-in-To-clause-asks
returns-in-To-clause-asks g c =
    loan_asks_as_always c.args.hub.now c.send_request.new.hub c.args.self.node (Send c.args.self.number) (reply_of_send c.send_request.result) refl
    c.send_request.ensures.whole RequestMut refl c.requires.has

pub returns-in-ExceedsMaxActiveRequests-clause-asks : goal.returns-in-ExceedsMaxActiveRequests-clause-asks
returns-in-ExceedsMaxActiveRequests-clause-asks g c =
    loan_asks_as_always c.args.hub.now c.send_request.new.hub c.args.self.node (Send c.args.self.number) (reply_of_send c.send_request.result) refl
    c.send_request.ensures.whole RequestMut refl c.requires.has

pub returns-in-UnableToDeliver-clause-asks : goal.returns-in-UnableToDeliver-clause-asks
returns-in-UnableToDeliver-clause-asks g c =
    loan_asks_as_always c.args.hub.now c.send_request.new.hub c.args.self.node (Send c.args.self.number) (reply_of_send c.send_request.result) refl
    c.send_request.ensures.whole RequestMut refl c.requires.has

pub returns-in-To-clause-reaches : goal.returns-in-To-clause-reaches
returns-in-To-clause-reaches g c =
    send_reaches c.args.hub.now c.send_request.new.hub c.is_in_order.ensures c.args.self.node c.args.self.number c.in-To.servers c.requires.has
    c.in-To.ensures.brings c.in-To.ensures.whole

pub returns-in-To-clause-one : goal.returns-in-To-clause-one
returns-in-To-clause-one g c =
    send_brings_one c.args.hub.now c.send_request.new.hub c.args.self.node c.args.self.number c.in-To.servers c.requires.has c.in-To.ensures.brings
    c.in-To.ensures.whole

pub returns-in-To-clause-asker : goal.returns-in-To-clause-asker
returns-in-To-clause-asker g c =
    subst₂ (λ (i n : ℕ). AsksAs c.args.hub.now c.args.self.node c.args.self.number c.send_request.new.hub i n) (sym c.new.ensures.node) (sym c.new.ensures.number)
    (send_asks_as c.args.hub.now c.send_request.new.hub c.is_in_order.ensures c.args.self.node c.args.self.number c.in-To.servers c.requires.has
    c.in-To.ensures.brings c.in-To.ensures.whole)

pub returns-in-To-clause-asked : goal.returns-in-To-clause-asked
returns-in-To-clause-asked g c =
    subst₂ (λ (i n : ℕ). BringsItsRequest c.args.hub.now (client_in c.send_request.new.hub i n) c.send_request.new.hub) (sym c.new.ensures.node) (sym c.new.ensures.number)
    (send_brings_its_request c.args.hub.now c.send_request.new.hub c.is_in_order.ensures c.args.self.node c.args.self.number c.in-To.servers c.requires.has
    c.in-To.ensures.brings c.in-To.ensures.whole)

pub returns-in-To-clause-opens : goal.returns-in-To-clause-opens
returns-in-To-clause-opens g c =
    subst₂ (λ (i n : ℕ). OpensAtServers c.args.hub.now (client_in c.send_request.new.hub i n) c.send_request.new.hub) (sym c.new.ensures.node) (sym c.new.ensures.number)
    (send_opens c.args.hub.now c.send_request.new.hub c.is_in_order.ensures c.args.self.node c.args.self.number c.in-To.servers c.requires.has
    c.in-To.ensures.brings c.in-To.ensures.whole)

pub returns-in-To-clause-shapes : goal.returns-in-To-clause-shapes
returns-in-To-clause-shapes g c =
    same_shapes c.args.hub.now c.send_request.new.hub c.args.self.node (Send c.args.self.number) (reply_of_send c.send_request.result)
    c.send_request.ensures.whole

pub returns-in-ExceedsMaxActiveRequests-clause-shapes : goal.returns-in-ExceedsMaxActiveRequests-clause-shapes
returns-in-ExceedsMaxActiveRequests-clause-shapes g c =
    same_shapes c.args.hub.now c.send_request.new.hub c.args.self.node (Send c.args.self.number) (reply_of_send c.send_request.result)
    c.send_request.ensures.whole

pub returns-in-UnableToDeliver-clause-shapes : goal.returns-in-UnableToDeliver-clause-shapes
returns-in-UnableToDeliver-clause-shapes g c =
    same_shapes c.args.hub.now c.send_request.new.hub c.args.self.node (Send c.args.self.number) (reply_of_send c.send_request.result)
    c.send_request.ensures.whole

pub returns-in-To-clause-from : goal.returns-in-To-clause-from
returns-in-To-clause-from g c =
    brings_from_client c.args.hub.now c.send_request.new.hub c.is_in_order.ensures c.args.self.node c.args.self.number RequestMut refl refl c.requires.has
    (reply_of_send c.send_request.result) c.send_request.ensures.whole

pub returns-in-ExceedsMaxActiveRequests-clause-from : goal.returns-in-ExceedsMaxActiveRequests-clause-from
returns-in-ExceedsMaxActiveRequests-clause-from g c =
    brings_from_client c.args.hub.now c.send_request.new.hub c.is_in_order.ensures c.args.self.node c.args.self.number RequestMut refl refl c.requires.has
    (reply_of_send c.send_request.result) c.send_request.ensures.whole

pub returns-in-UnableToDeliver-clause-from : goal.returns-in-UnableToDeliver-clause-from
returns-in-UnableToDeliver-clause-from g c =
    brings_from_client c.args.hub.now c.send_request.new.hub c.is_in_order.ensures c.args.self.node c.args.self.number RequestMut refl refl c.requires.has
    (reply_of_send c.send_request.result) c.send_request.ensures.whole
