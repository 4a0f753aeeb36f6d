use Rattle.std.specs.Prelude.{ℕ, List, refl}
use Rattle.std.proofs.Common.{subst}
use Rattle.iox_hub_laws.specs.Sends.{BringsOnly}
use Rattle.iox_model.specs.declared.call.Call.TheVariants.{Send}
use Rattle.iox_model.specs.declared.kind.Kind.TheVariants.{ResponseMut}
use Rattle.iox_hub_laws.specs.Responses.{reply_of_send}
use Rattle.iceoryx2_ports.proofs.Answering.{loan_brings_one, loan_reaches_asker}
use Rattle.iceoryx2_ports.proofs.Aside.{loan_asks_as_always}
use Rattle.iceoryx2_ports.proofs.SentOpen.{send_closes_none}
use Rattle.iceoryx2_ports.proofs.SameShapes.{same_shapes}
use Rattle.iceoryx2_ports.proofs.Senders.{brings_from_server}
use Rattle.iceoryx2_ports.proofs.response_mut.ResponseMut.send.Goals as goal

pub returns-in-Done-clause-only : goal.returns-in-Done-clause-only
returns-in-Done-clause-only g c =
    λ words e. subst (λ (w : List ℕ). BringsOnly c.args.hub.now w c.send_response.new.hub) e c.send_response.ensures.only

pub returns-in-Undelivered-clause-only : goal.returns-in-Undelivered-clause-only
returns-in-Undelivered-clause-only g c =
    λ words e. subst (λ (w : List ℕ). BringsOnly c.args.hub.now w c.send_response.new.hub) e c.send_response.ensures.only

pub returns-in-Done-clause-asks : goal.returns-in-Done-clause-asks
returns-in-Done-clause-asks g c =
    loan_asks_as_always c.args.hub.now c.send_response.new.hub c.args.self.node (Send c.args.self.number) (reply_of_send c.send_response.result) refl
    c.send_response.ensures.whole ResponseMut refl c.requires.has

pub returns-in-Undelivered-clause-asks : goal.returns-in-Undelivered-clause-asks
returns-in-Undelivered-clause-asks g c =
    loan_asks_as_always c.args.hub.now c.send_response.new.hub c.args.self.node (Send c.args.self.number) (reply_of_send c.send_response.result) refl
    c.send_response.ensures.whole ResponseMut refl c.requires.has

pub returns-in-Done-clause-reaches : goal.returns-in-Done-clause-reaches
returns-in-Done-clause-reaches g c =
    loan_reaches_asker c.args.hub.now c.send_response.new.hub c.is_in_order-in-Done.ensures c.args.self.node c.args.self.number c.requires.has
    c.send_response.ensures.keeps c.is_in_order.ensures c.in-Done.ensures.brings c.in-Done.ensures.whole

pub returns-in-Done-clause-one : goal.returns-in-Done-clause-one
returns-in-Done-clause-one g c =
    loan_brings_one c.args.hub.now c.send_response.new.hub c.is_in_order-in-Done.ensures c.args.self.node c.args.self.number c.requires.has
    c.send_response.ensures.keeps c.is_in_order.ensures c.in-Done.ensures.brings c.in-Done.ensures.whole

pub returns-in-Done-clause-requests : goal.returns-in-Done-clause-requests
returns-in-Done-clause-requests g c =
    send_closes_none c.args.hub.now c.send_response.new.hub c.is_in_order.ensures c.is_in_order-in-Done.ensures c.args.self.node c.args.self.number
    (reply_of_send c.send_response.result) c.requires.has c.send_response.ensures.whole c.send_response.ensures.keeps

pub returns-in-Undelivered-clause-requests : goal.returns-in-Undelivered-clause-requests
returns-in-Undelivered-clause-requests g c =
    send_closes_none c.args.hub.now c.send_response.new.hub c.is_in_order.ensures c.is_in_order-in-Undelivered.ensures c.args.self.node c.args.self.number
    (reply_of_send c.send_response.result) c.requires.has c.send_response.ensures.whole c.send_response.ensures.keeps

pub returns-in-Done-clause-shapes : goal.returns-in-Done-clause-shapes
returns-in-Done-clause-shapes g c =
    same_shapes c.args.hub.now c.send_response.new.hub c.args.self.node (Send c.args.self.number) (reply_of_send c.send_response.result)
    c.send_response.ensures.whole

pub returns-in-Undelivered-clause-shapes : goal.returns-in-Undelivered-clause-shapes
returns-in-Undelivered-clause-shapes g c =
    same_shapes c.args.hub.now c.send_response.new.hub c.args.self.node (Send c.args.self.number) (reply_of_send c.send_response.result)
    c.send_response.ensures.whole

pub returns-in-Done-clause-from : goal.returns-in-Done-clause-from
returns-in-Done-clause-from g c =
    brings_from_server c.args.hub.now c.send_response.new.hub c.is_in_order.ensures c.args.self.node c.args.self.number ResponseMut refl refl c.requires.has
    (reply_of_send c.send_response.result) c.send_response.ensures.whole

pub returns-in-Undelivered-clause-from : goal.returns-in-Undelivered-clause-from
returns-in-Undelivered-clause-from g c =
    brings_from_server c.args.hub.now c.send_response.new.hub c.is_in_order.ensures c.args.self.node c.args.self.number ResponseMut refl refl c.requires.has
    (reply_of_send c.send_response.result) c.send_response.ensures.whole
