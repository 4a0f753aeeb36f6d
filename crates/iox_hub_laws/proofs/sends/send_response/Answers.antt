use Rattle.std.specs.Prelude.{refl}
use Rattle.iox_model.specs.declared.kind.Kind.TheVariants.{ResponseMut}
use Rattle.iox_hub.specs.Responses as responses
use Rattle.iox_hub_laws.proofs.BringsOnly.{send_brings_only}
use Rattle.iox_hub_laws.proofs.Sending.{brings_response}
use Rattle.iox_hub_laws.proofs.sends.send_response.Goals as goal

pub returns-clause-brings : goal.returns-clause-brings
returns-clause-brings g c =
    brings_response c.args.hub.now c.send_response.new.self c.is_in_order.ensures c.args.node c.args.number c.send_response.result c.requires.has
    c.send_response.ensures.whole

pub returns-clause-only : goal.returns-clause-only
returns-clause-only g c =
    send_brings_only c.args.hub.now c.send_response.new.self c.is_in_order.ensures c.args.node c.args.number ResponseMut refl c.requires.has
    (responses.reply_of_send c.send_response.result) c.send_response.ensures.whole
